-- The part of a map's entries, in order, that passes a test of their values: its keys are those of a set that has them.
use Rattle.std.proofs.Common.{◌≡◌, ℕ, Bool, true, false, cond, ◌||◌, List, [], ◌∷◌, is_some, length, filter, refl, sym, ap, ◌∙◌, nat_cmp, Less}
use Rattle.std.specs.BTreeSet.{BTreeSet}
use Rattle.std.specs.BTreeSet as sets
use Rattle.std.specs.BTreeMap.{is_at}
use Rattle.std.specs.Cmp.{nat_cmp_total, eq_by_cmp_equiv}
use Rattle.std.specs.List.{list_any, AllByRecursion}
use Rattle.std.specs.List.Sorted.{IsStrictlySortedBy}
use Rattle.std.specs.Map.{lookup, keys_of}
use Rattle.std.proofs.lemmas.Map.Entries.{option_filter, lookup-filter-values}
use Rattle.std.proofs.lemmas.Map.Keys.{IsDistinct-from_sorted}
use Rattle.std.proofs.lemmas.Map.Lookups.{btree_set_from_contains, exact_unsigned}
use Rattle.linda_bag.specs.Filing.{Rows, HasIds}
use Rattle.linda_hold.proofs.ListLaws.{lookup_any}

pub empty_sorted : IsStrictlySortedBy nat_cmp []
unfolding IsStrictlySortedBy
empty_sorted = tt

module _ {X : Type 0} (p : X → Bool) where
  -- the entries that pass
  abbrev pub part : List (ℕ × X) → List (ℕ × X)
  part es = filter (λ e. p e.1) es

  kept : (P : ℕ → Type 0) (es : List (ℕ × X)) → AllByRecursion P (keys_of es) → AllByRecursion P (keys_of (part es))
  kept P [] all = tt
  kept P (e ∷ es) all = by (p e.1) (kept P es all.1)
    where
      by : (b : Bool) → AllByRecursion P (keys_of (part es)) → AllByRecursion P (keys_of (cond b (e ∷ part es) (part es)))
      by true rest = (all.0, rest)
      by false rest = rest

  pub part_sorted : (es : List (ℕ × X)) → IsStrictlySortedBy nat_cmp (keys_of es) → IsStrictlySortedBy nat_cmp (keys_of (part es))
  unfolding IsStrictlySortedBy
  part_sorted [] sorted = tt
  part_sorted (e ∷ es) sorted = by (p e.1) (kept _ es sorted.0) (part_sorted es sorted.1)
    where
      by : (b : Bool) → AllByRecursion (λ y. nat_cmp e.0 y ≡ Less) (keys_of (part es))
          → IsStrictlySortedBy nat_cmp (keys_of (part es)) → IsStrictlySortedBy nat_cmp (keys_of (cond b (e ∷ part es) (part es)))
      by true above rest = (above, rest)
      by false above rest = rest

  any_keys : (test : ℕ → Bool) (es : List (ℕ × X)) → list_any test (keys_of es) ≡ list_any (λ e. test e.0) es
  any_keys test [] = refl
  any_keys test (e ∷ es) = ap (λ b. test e.0 || b) (any_keys test es)

  part_has : (es : List (ℕ × X)) → IsStrictlySortedBy nat_cmp (keys_of es) → (q : ℕ)
      → list_any (is_at (nat_cmp q)) (keys_of (part es)) ≡ is_some (option_filter p (lookup (is_at (nat_cmp q)) es))
  part_has es sorted q =
      any_keys (is_at (nat_cmp q)) (part es)
      ∙ sym (lookup_any (is_at (nat_cmp q)) (part es))
      ∙ ap is_some (lookup-filter-values (eq_by_cmp_equiv nat_cmp_total) p q es (IsDistinct-from_sorted nat_cmp (keys_of es) sorted))

  module _ (es : List (ℕ × X)) (ordered : IsStrictlySortedBy nat_cmp (keys_of es)) {T : Type 0} (rows : Rows T)
      (same : (q : ℕ) → is_some (rows q) ≡ is_some (option_filter p (lookup (is_at (nat_cmp q)) es))) where
    -- A set that has the numbers of what passes has the keys of that part, in their order.
    pub found_some : (ids : BTreeSet ℕ) → sets.IsOrdered nat_cmp ids → HasIds ids rows → ids.keys ≡ keys_of (part es)
    found_some ids sorted has =
        btree_set_from_contains nat_cmp_total ids (record { keys = keys_of (part es) }) sorted (part_sorted es ordered)
        (λ q. has q ∙ same q ∙ sym (part_has es ordered q)) exact_unsigned

    -- What counts the numbers in any such set counts that part.
    pub counted_part : (count : ℕ) → ((ids : BTreeSet ℕ) → sets.IsOrdered nat_cmp ids → HasIds ids rows → count ≡ length ids.keys)
        → count ≡ length (keys_of (part es))
    counted_part count counts =
        counts (record { keys = keys_of (part es) }) (part_sorted es ordered) (λ q. part_has es ordered q ∙ sym (same q))
