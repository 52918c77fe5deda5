-- Rows from an id on: those of one block, and that no other row is among them.
use Rattle.std.proofs.Common.{◌≡◌, ℕ, suc, ◌+◌, ◌<◌, ◌≤◌, Bool, true, false, ◌==◌, if◌then◌else◌, eqb-true, List}
use Rattle.std.proofs.Common.{[], ◌∷◌, length, get_or, Option, Some, None, IsSome, is_some, refl, sym, ap, ◌∙◌, inl}
use Rattle.std.proofs.Common.{inr, arith, true≢false, IfNone}
use Rattle.std.proofs.lemmas.Bool.{cases_lt, cases_order}
use Rattle.std.proofs.lemmas.List.{get_or_default}
use Rattle.linda_rising.specs.Rows.{ids_of, at, Rises, IsRun, IsUnder, Begins, all_rows, IsRising, IsFor, IsFrom}
use Rattle.linda_rising.proofs.IdLaws.{falls_never}
use Rattle.linda_rising.proofs.RowLaws.{row_there, none_there, id_there}
use Rattle.linda_rising.proofs.BlockLaws.{located, from_at, block_before, block_begins, block_filled, froms_rise, none_or, some_id, some_rows}

pub under_lower : (k q : ℕ) (next : Option ℕ) → k ≤ q → IsUnder q next → IsUnder k next
under_lower k q None le under = tt
under_lower k q (Some n) le under = omega (arith, under)

module _ {T : Type 0} where
  some_none : (o : Option T) → IsSome o → o ≡ None → ⊥
  some_none o some none = true≢false (sym some ∙ ap is_some none)

  pub id_at : (rows : List (ℕ × T)) (i : ℕ) → Rises (ids_of rows) → i < length rows → IsSome (at rows (get_or (ids_of rows) i 0))
  id_at [] i rises within = absurd (omega arith)
  id_at (row ∷ rows) i rises within =
      let all = row ∷ rows in
      let e = get_or all i row in
      ap (λ k. is_some (at all k)) (id_there all i row within)
      ∙ ap is_some (row_there all i e rises within (get_or_default all i row e within))

  module _ (bs : List (ℕ × List (ℕ × T))) (rising : IsRising bs) where
    -- An id below that of the block at place i + 1 is below those of all later ones.
    under_all : (i q : ℕ) (next : Option ℕ) → IsFrom bs (i + 1) next → IsUnder q next → (j : ℕ) → i < j → j < length bs → q < from_at bs j
    under_all i q None from under j less within = absurd (omega (arith, from))
    under_all i q (Some n) from under j less within =
        elim (cases_order (i + 1) j) [
          | inl equal ↦ omega (arith, under, from.1, ap (from_at bs) equal)
          | inr (inl more) ↦ omega (arith, under, from.1, froms_rise bs (i + 1) j rising more within)
          | inr (inr fewer) ↦ absurd (omega arith)
        ]

    -- The ids of a block are below that of the next one.
    all_under : (i q : ℕ) (next : Option ℕ) → IsFrom bs (i + 1) next → IsSome (at (get_or bs i (0, [])).1 q) → IsUnder q next
    all_under i q None from some = tt
    all_under i q (Some n) from some = omega (arith, from.1, block_before bs i (i + 1) q rising (omega arith) from.0 some)

    next_under : (id i : ℕ) (next : Option ℕ) → IsFor bs id i → IsFrom bs (i + 1) next → IsUnder id next
    next_under id i None is from = tt
    next_under id i (Some n) is from = omega (arith, from.1, is.above (i + 1) (omega arith) from.0)

    -- Rows of the block for the id.
    pub run_here : (id i : ℕ) (rows : List (ℕ × T)) (next : Option ℕ) → IsFor bs id i → IsRun id rows → 0 < length rows
        → ((q : ℕ) → id ≤ q → at rows q ≡ at (get_or bs i (0, [])).1 q) → IsFrom bs (i + 1) next → Begins (at (all_rows bs)) id rows next
    run_here id i rows next is run some same from = record {
      run = run;
      some = some;
      below = λ j within. all_under i (get_or (ids_of rows) j 0) next from
          (ap is_some (sym (same (get_or (ids_of rows) j 0) (run.above j within))) ∙ id_at rows j run.rises within);
      all = λ q le under.
          located bs q i rising (record { within = is.within; begins = λ later. omega (arith, is.begins later); above = under_all i q next from under })
          ∙ sym (same q le);
      later = next_under id i next is from;
    }

    -- Rows of the next block, if the block for the id has none from the id on.
    pub run_next : (id i : ℕ) (rows : List (ℕ × T)) (next : Option ℕ) → IsFor bs id i → ((q : ℕ) → id ≤ q → at (get_or bs i (0, [])).1 q ≡ None)
        → i + 1 < length bs → IsRun id rows → ((q : ℕ) → id ≤ q → at rows q ≡ at (get_or bs (i + 1) (0, [])).1 q)
        → IsFrom bs (i + 1 + 1) next → Begins (at (all_rows bs)) id rows next
    run_next id i rows next is none within run same from = record {
      run = run;
      some = some;
      below = λ j inside. all_under (i + 1) (get_or (ids_of rows) j 0) next from
          (ap is_some (sym (same (get_or (ids_of rows) j 0) (run.above j inside))) ∙ id_at rows j run.rises inside);
      all = λ q le under. elim (cases_lt q first) [
        | inl lower ↦
            located bs q i rising (record {
              within = is.within;
              begins = λ later. omega (arith, is.begins later);
              above = under_all i q (Some first) (within, refl) lower;
            })
            ∙ none q le
            ∙ sym (same q le ∙ none_or (at (get_or bs (i + 1) (0, [])).1 q) (λ there. omega (arith, lower, block_begins bs (i + 1) q rising within there)))
        | inr above ↦
            located bs q (i + 1) rising (record { within = within; begins = λ _. above; above = under_all (i + 1) q next from under })
            ∙ sym (same q le)
      ];
      later = low_under next from;
    }
      where
        first : ℕ
        first = from_at bs (i + 1)

        high : id < first
        high = is.above (i + 1) (omega arith) within

        low_under : (o : Option ℕ) → IsFrom bs (i + 1 + 1) o → IsUnder id o
        low_under None f = tt
        low_under (Some n) f = omega (arith, f.1, high, froms_rise bs (i + 1) (i + 1 + 1) rising (omega arith) f.0)

        some : 0 < length rows
        some =
            let key = some_id (get_or bs (i + 1) (0, [])).1 (block_filled bs (i + 1) rising within) in
            let low = block_begins bs (i + 1) key.0 rising within key.1 in
            some_rows rows key.0 (ap is_some (same key.0 (omega (arith, high, low))) ∙ key.1)

    -- No row, if the last block has none from the id on.
    pub run_none : (id i : ℕ) → IsFor bs id i → ((q : ℕ) → id ≤ q → at (get_or bs i (0, [])).1 q ≡ None)
        → length bs ≤ i + 1 → (q : ℕ) → id ≤ q → at (all_rows bs) q ≡ None
    run_none id i is none last q le =
        located bs q i rising (record { within = is.within; begins = λ later. omega (arith, is.begins later); above = λ j less within. absurd (omega arith) })
        ∙ none q le

  -- What a walk finds first.
  module _ (row_at : ℕ → Option T) (id : ℕ) (rows : List (ℕ × T)) (next : Option ℕ) (begins : Begins row_at id rows next) where
    first_from : id ≤ get_or (ids_of rows) 0 0
    first_from = begins.run.above 0 begins.some

    first_under : (k : ℕ) → k ≤ get_or (ids_of rows) 0 0 → IsUnder k next
    first_under k le = under_lower k _ next le (begins.below 0 begins.some)

    pub first_above : (e : ℕ × T) → e ≡ get_or rows 0 e → id ≤ e.0
    first_above e is = omega (arith, first_from, id_there rows 0 e begins.some, ap (λ x. x.0) is)

    pub first_found : (e : ℕ × T) → e ≡ get_or rows 0 e → row_at e.0 ≡ Some e.1
    first_found e is =
        let first : get_or (ids_of rows) 0 0 ≡ e.0 = id_there rows 0 e begins.some ∙ ap (λ x. x.0) (sym is) in
        begins.all e.0 (omega (arith, first_from, first)) (first_under e.0 (omega (arith, first)))
        ∙ row_there rows 0 e begins.run.rises begins.some is

    pub first_least : (e : ℕ × T) → e ≡ get_or rows 0 e → (k : ℕ) → id ≤ k → k < e.0 → row_at k ≡ None
    first_least e is k le less =
        let first : get_or (ids_of rows) 0 0 ≡ e.0 = id_there rows 0 e begins.some ∙ ap (λ x. x.0) (sym is) in
        begins.all k le (first_under k (omega (arith, first)))
        ∙ none_there rows k (λ j within same. omega (arith, first, falls_never (ids_of rows) begins.run.rises 0 j (omega arith) within))

  pub no_rows : (rows : List (ℕ × T)) (q : ℕ) → length rows ≡ 0 → at rows q ≡ None
  no_rows [] q none = refl
  no_rows (row ∷ rows) q none = absurd (omega (arith, none))

  -- What is found by one look-up is found by another that answers alike.
  pub begins_as : (old new : ℕ → Option T) (id : ℕ) (rows : List (ℕ × T)) (next : Option ℕ)
      → ((q : ℕ) → old q ≡ new q) → Begins old id rows next → Begins new id rows next
  begins_as old new id rows next same begins =
      record { run = begins.run; some = begins.some; below = begins.below; all = λ q le under. sym (same q) ∙ begins.all q le under; later = begins.later }

  -- A row that is found has a place.
  abbrev pub IsPlaced : List (ℕ × T) → ℕ → Type 0
  IsPlaced rows q = (j : ℕ) × (j < length rows) × (get_or (ids_of rows) j 0 ≡ q)

  place_first : (row : ℕ × T) (rows : List (ℕ × T)) (q : ℕ) (b : Bool) → (q == row.0) ≡ b
      → (IsSome (at rows q) → IsPlaced rows q) → IsSome (if b then Some row.1 else at rows q) → IsPlaced (row ∷ rows) q
  place_first row rows q true is later some = (0, omega arith, sym (eqb-true q row.0 is))
  place_first row rows q false is later some = let p = later some in (suc p.0, omega (arith, p.1), p.2)

  pub place_there : (rows : List (ℕ × T)) (q : ℕ) → IsSome (at rows q) → IsPlaced rows q
  place_there [] q some = absurd (some_none None some refl)
  place_there (row ∷ rows) q some = place_first row rows q (q == row.0) refl (place_there rows q) some

pub IfNone_then : {X P Q : Type 0} (r : Option X) → IfNone r P → (P → Q) → IfNone r Q
IfNone_then None p so = so p
IfNone_then (Some x) p so = tt
