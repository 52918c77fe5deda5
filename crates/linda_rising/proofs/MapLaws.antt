-- The finite map of rows: a look-up in it, and what an edit of the rows makes of it.
use Rattle.std.proofs.Common.{◌≡◌, ◌≤◌, ℕ, zero, suc, arith, true≢false, is_some, ◌==◌, if◌then◌else◌, List, [], ◌∷◌, Some, None, refl, sym, ap, ◌∙◌, nat_cmp}
use Rattle.std.specs.Cmp.{nat_cmp_total, unsigned_ties}
use Rattle.std.specs.FinMap.{len, empty_of_len, get, insert, remove, find, from_entries, get-from_entries}
use Rattle.linda_map_laws.proofs.MapLaws.{same_map, get_inserted, get_removed, get_empty}
use Rattle.linda_rising.specs.Rows.{at, Sets}

module _ {T : Type 0} where
  found : (rows : List (ℕ × T)) (q : ℕ) → find nat_cmp q rows ≡ at rows q
  found [] q = refl
  found (row ∷ rows) q =
      ap (λ b. if b then Some row.1 else find nat_cmp q rows) (sym (unsigned_ties q row.0))
      ∙ ap (λ o. if q == row.0 then Some row.1 else o) (found rows q)

  pub get_at : (rows : List (ℕ × T)) (q : ℕ) → get (from_entries {R = nat_cmp} rows) q ≡ at rows q
  get_at rows q = get-from_entries nat_cmp_total rows q ∙ found rows q

  pub map_same : (old new : List (ℕ × T)) → old ≡ new → from_entries {R = nat_cmp} new ≡ from_entries old
  map_same old new same = ap from_entries (sym same)

  pub map_inserted : (old new : List (ℕ × T)) (id : ℕ) (v : T) → Sets old new id (Some v) → from_entries {R = nat_cmp} new ≡ insert (from_entries old) id v
  map_inserted old new id v sets = same_map _ _ (λ q.
      get_at new q ∙ sets q
      ∙ ap (λ o. if q == id then Some v else o) (sym (get_at old q))
      ∙ sym (get_inserted (from_entries old) id v q))

  pub map_removed : (old new : List (ℕ × T)) (id : ℕ) → Sets old new id None → from_entries {R = nat_cmp} new ≡ remove (from_entries old) id
  map_removed old new id sets = same_map _ _ (λ q.
      get_at new q ∙ sets q
      ∙ ap (λ o. if q == id then None else o) (sym (get_at old q))
      ∙ sym (get_removed (from_entries old) id q))

  -- If a row is found, there is at least one.
  pub len_some : (rows : List (ℕ × T)) (id : ℕ) (v : T) → at rows id ≡ Some v → 1 ≤ len (from_entries {R = nat_cmp} rows)
  len_some rows id v there = by (len (from_entries {R = nat_cmp} rows)) refl
    where
      by : (n : ℕ) → len (from_entries {R = nat_cmp} rows) ≡ n → 1 ≤ n
      by zero none = absurd (true≢false (sym (ap is_some (sym (get_empty id) ∙ ap (λ m. get m id) (sym (empty_of_len _ none)) ∙ get_at rows id ∙ there))))
      by (suc n) is = omega arith
