-- Rows under ids that rise: what a look-up finds at a place, and after an edit there.
use Rattle.std.proofs.Common.{◌≡◌, ◌≢◌, ℕ, zero, suc, ◌+◌, ◌-◌, ◌<◌, ◌≤◌, Bool, true, false, if◌then◌else◌, ltb, ◌==◌}
use Rattle.std.proofs.Common.{List, [], ◌∷◌, ◌++◌, length, get_or, set, take, drop, Some, None, IsSome, is_some, refl}
use Rattle.std.proofs.Common.{sym, ap, ◌∙◌, subst, inl, inr, arith, true≢false, eqb-true}
use Rattle.std.specs.List.{insert, remove}
use Rattle.std.specs.List.Sorted.{IsNonDecreasingBy, IsPartitionPoint}
use Rattle.std.proofs.lemmas.List.{length-take-le, length-drop, take-append-drop, get_or-drop, get_or-take, take-map, drop-map}
use Rattle.std.proofs.lemmas.Bool.{cases_lt, cases_order, ltb-true, ltb-false}
use Rattle.std.proofs.lemmas.Bool.Decides.{nat_tests}
use Rattle.linda_rising.specs.Rows.{ids_of, at, Rises, IsPlace, Sets, Halves, IsRun}
use Rattle.linda_rising.proofs.IdLaws.{IsAbsent, falls_never}

module _ {T : Type 0} where
  pub length_ids : (rows : List (ℕ × T)) → length (ids_of rows) ≡ length rows
  length_ids [] = refl
  length_ids (row ∷ rows) = ap (λ n. suc n) (length_ids rows)

  pub id_there : (rows : List (ℕ × T)) (i : ℕ) (e : ℕ × T) → i < length rows → get_or (ids_of rows) i 0 ≡ (get_or rows i e).0
  id_there [] i e within = absurd (omega arith)
  id_there (row ∷ rows) zero e within = refl
  id_there (row ∷ rows) (suc i) e within = id_there rows i e (omega arith)

  pub ids_insert : (rows : List (ℕ × T)) (i : ℕ) (e : ℕ × T) → ids_of (insert rows i e) ≡ insert (ids_of rows) i e.0
  ids_insert rows zero e = refl
  ids_insert [] (suc i) e = refl
  ids_insert (row ∷ rows) (suc i) e = ap (λ ids. row.0 ∷ ids) (ids_insert rows i e)

  pub ids_remove : (rows : List (ℕ × T)) (i : ℕ) → ids_of (remove rows i) ≡ remove (ids_of rows) i
  ids_remove [] zero = refl
  ids_remove (row ∷ rows) zero = refl
  ids_remove [] (suc i) = refl
  ids_remove (row ∷ rows) (suc i) = ap (λ ids. row.0 ∷ ids) (ids_remove rows i)

  pub ids_set : (rows : List (ℕ × T)) (i : ℕ) (e : ℕ × T) → e.0 ≡ get_or (ids_of rows) i 0 → ids_of (set rows i e) ≡ ids_of rows
  ids_set [] i e same = refl
  ids_set (row ∷ rows) zero e same = ap (λ id. id ∷ ids_of rows) same
  ids_set (row ∷ rows) (suc i) e same = ap (λ ids. row.0 ∷ ids) (ids_set rows i e same)

  pub ids_append : (xs ys : List (ℕ × T)) → ids_of (xs ++ ys) ≡ ids_of xs ++ ids_of ys
  ids_append [] ys = refl
  ids_append (x ∷ xs) ys = ap (λ ids. x.0 ∷ ids) (ids_append xs ys)

  -- An id that no row has is not found.
  pub none_there : (rows : List (ℕ × T)) (id : ℕ) → IsAbsent (ids_of rows) id → at rows id ≡ None
  none_there [] id absent = refl
  none_there (row ∷ rows) id absent = grind (arith, nat_tests, absent 0 (omega arith), none_there rows id (λ j within. absent (suc j) (omega arith)))

  -- If an id is not found, no row has it.
  pub absent_there : (rows : List (ℕ × T)) (id : ℕ) → at rows id ≡ None → IsAbsent (ids_of rows) id
  absent_there [] id none j within same = omega arith
  absent_there (row ∷ rows) id none zero within same = not_none row.1 (sym (grind (arith, nat_tests)) ∙ none)
    where
      not_none : (v : T) → Some v ≡ None → ⊥
      not_none v is = true≢false (ap is_some is)
  absent_there (row ∷ rows) id none (suc j) within same = absent_there rows id (tail (id == row.0) none) j (omega arith) same
    where
      tail : (b : Bool) → (if b then Some row.1 else at rows id) ≡ None → at rows id ≡ None
      tail true is = absurd (true≢false (ap is_some is))
      tail false is = is

  -- The row at a place is found under its id.
  pub row_there : (rows : List (ℕ × T)) (i : ℕ) (e : ℕ × T) → Rises (ids_of rows) → i < length rows → e ≡ get_or rows i e → at rows e.0 ≡ Some e.1
  row_there [] i e rises within is = absurd (omega arith)
  row_there (row ∷ rows) zero e rises within is = rw is (grind (arith, nat_tests))
  row_there (row ∷ rows) (suc i) e rises within is =
      let higher : row.0 < e.0 =
      omega (arith, rises 0 (suc i) (omega arith) (omega (arith, length_ids rows)), id_there rows i e (omega arith), ap (λ x. x.0) is) in
      grind (arith, nat_tests, row_there rows i e (λ a b less inside. rises (suc a) (suc b) (omega arith) (omega arith)) (omega arith) is)

  -- What a look-up finds after a row more.
  pub sets_insert : (rows : List (ℕ × T)) (i id : ℕ) (v : T) → at rows id ≡ None → Sets rows (insert rows i (id, v)) id (Some v)
  sets_insert rows zero id v none q = refl
  sets_insert [] (suc i) id v none q = refl
  sets_insert (row ∷ rows) (suc i) id v none q =
      let apart : id ≢ row.0 = λ same. absent_there (row ∷ rows) id none 0 (omega arith) (sym same) in
      grind (arith, nat_tests, sets_insert rows i id v (none_there rows id (λ j within. absent_there (row ∷ rows) id none (suc j) (omega arith))) q)

  -- What it finds after one row less.
  pub sets_remove : (rows : List (ℕ × T)) (i : ℕ) (e : ℕ × T) → Rises (ids_of rows) → i < length rows → e ≡ get_or rows i e → Sets rows (remove rows i) e.0 None
  sets_remove [] i e rises within is q = absurd (omega arith)
  sets_remove (row ∷ rows) zero e rises within is q =
      let none : at rows row.0 ≡ None = none_there rows row.0 (λ j inside same. omega (arith, rises 0 (suc j) (omega arith) (omega arith))) in
      let here : q ≡ row.0 → at rows q ≡ None = λ same. ap (at rows) same ∙ none in
      rw is (grind (arith, nat_tests, here))
  sets_remove (row ∷ rows) (suc i) e rises within is q =
      let higher : row.0 < e.0 =
      omega (arith, rises 0 (suc i) (omega arith) (omega (arith, length_ids rows)), id_there rows i e (omega arith), ap (λ x. x.0) is) in
      grind (arith, nat_tests, sets_remove rows i e (λ a b less inside. rises (suc a) (suc b) (omega arith) (omega arith)) (omega arith) is q)

  -- What it finds after another row in the place of one.
  pub sets_write : (rows : List (ℕ × T)) (i id : ℕ) (v : T) → Rises (ids_of rows) → i < length rows
      → get_or (ids_of rows) i 0 ≡ id → Sets rows (set rows i (id, v)) id (Some v)
  sets_write [] i id v rises within same q = absurd (omega arith)
  sets_write (row ∷ rows) zero id v rises within same q = grind (arith, nat_tests)
  sets_write (row ∷ rows) (suc i) id v rises within same q =
      let higher : row.0 < id = omega (arith, rises 0 (suc i) (omega arith) (omega (arith, length_ids rows))) in
      grind (arith, nat_tests, sets_write rows i id v (λ a b less inside. rises (suc a) (suc b) (omega arith) (omega arith)) (omega arith) same q)

  -- A row under an id that is past all.
  pub none_past : (rows : List (ℕ × T)) (id : ℕ) → IsPlace (ids_of rows) id (length rows) → (q : ℕ) → IsSome (at rows q) → q < id
  none_past rows id place q some =
      elim (cases_lt q id) [
        | inl below ↦ below
        | inr from ↦ absurd (true≢false
            (sym some ∙ ap is_some (none_there rows q (λ j within same. omega (arith, place.below j (omega (arith, length_ids rows)))))))
      ]

  -- The rows do not fall by their ids.
  pub rows_rise : (rows : List (ℕ × T)) → Rises (ids_of rows) → IsNonDecreasingBy (λ row. row.0) rows
  rows_rise rows rises i j d le within =
      omega (arith, falls_never (ids_of rows) rises i j le (omega (arith, length_ids rows)), id_there rows i d (omega arith), id_there rows j d within)

  -- A search by the test `it < id` ends at the id's place.
  pub place_point : (rows : List (ℕ × T)) (id i : ℕ) → i ≤ length rows
      → IsPartitionPoint (λ row. ltb row.0 id ≡ true) (λ row. ltb row.0 id ≡ false) rows i → IsPlace (ids_of rows) id i
  place_point [] id i bound point = record { bound = bound; below = λ j less. absurd (omega arith); above = λ j le within. absurd (omega arith) }
  place_point (row ∷ rows) id i bound point =
      let all = row ∷ rows in
      record {
        bound = omega (arith, length_ids all);
        below = λ j less. omega (arith, ltb-true _ _ (point.0 j row (omega arith) less), id_there all j row (omega arith));
        above = λ j le within. omega (
          arith,
          ltb-false _ _ (point.1 j row le (omega (arith, length_ids all))),
          id_there all j row (omega (arith, length_ids all)),
        );
      }

  -- An id above the last one is past all.
  pub place_end : (rows : List (ℕ × T)) (e : ℕ × T) (id i : ℕ) → Rises (ids_of rows) → 0 < length rows
      → e ≡ get_or rows (length rows - 1) e → e.0 < id → i ≡ length rows → IsPlace (ids_of rows) id i
  place_end rows e id i rises some is less long =
      let last : get_or (ids_of rows) (length rows - 1) 0 ≡ e.0 = id_there rows (length rows - 1) e (omega arith) ∙ ap (λ x. x.0) (sym is) in
      record {
        bound = omega (arith, length_ids rows);
        below = λ j lower. omega (arith, last, falls_never (ids_of rows) rises j (length rows - 1) (omega arith) (omega (arith, length_ids rows)));
        above = λ j le within. absurd (omega (arith, length_ids rows));
      }

  -- The id of the last one has its place.
  pub place_last : (rows : List (ℕ × T)) (e : ℕ × T) (id i : ℕ) → Rises (ids_of rows) → 0 < length rows
      → e ≡ get_or rows (length rows - 1) e → e.0 ≡ id → i ≡ length rows - 1 → IsPlace (ids_of rows) id i
  place_last rows e id i rises some is same at_end =
      let last : get_or (ids_of rows) (length rows - 1) 0 ≡ e.0 = id_there rows (length rows - 1) e (omega arith) ∙ ap (λ x. x.0) (sym is) in
      let here : get_or (ids_of rows) i 0 ≡ id = ap (λ k. get_or (ids_of rows) k 0) at_end ∙ last ∙ same in
      record {
        bound = omega (arith, length_ids rows);
        below = λ j lower. omega (arith, here, rises j i lower (omega (arith, length_ids rows)));
        above = λ j le within.
            let same_place : j ≡ i = omega (arith, length_ids rows) in
            omega (arith, here, ap (λ k. get_or (ids_of rows) k 0) same_place);
      }

  -- A row at the end comes after all.
  pub insert_end : (rows : List (ℕ × T)) (row : ℕ × T) → insert rows (length rows) row ≡ rows ++ row ∷ []
  insert_end [] row = refl
  insert_end (first ∷ rows) row = ap (λ l. first ∷ l) (insert_end rows row)

  -- Whether the row at its place has the id.
  pub not_there : (rows : List (ℕ × T)) (id i : ℕ) → Rises (ids_of rows) → IsPlace (ids_of rows) id i
      → (i < length rows → get_or (ids_of rows) i 0 ≢ id) → at rows id ≡ None
  not_there rows id i rises place other = none_there rows id apart
    where
      apart : IsAbsent (ids_of rows) id
      apart j within same =
          elim (cases_order i j) [
            | inl here ↦ other (omega (arith, length_ids rows)) (ap (λ k. get_or (ids_of rows) k 0) here ∙ same)
            | inr (inl less) ↦ omega (arith, rises i j less within, place.above i (omega arith) (omega arith), other (omega (arith, length_ids rows)))
            | inr (inr more) ↦ omega (arith, place.below j more)
          ]

  -- What is at its place, if the id has a row.
  pub there_within : (rows : List (ℕ × T)) (id i : ℕ) → Rises (ids_of rows) → IsPlace (ids_of rows) id i
      → IsSome (at rows id) → (i < length rows) × (get_or (ids_of rows) i 0 ≡ id)
  there_within rows id i rises place some =
      elim (cases_lt i (length rows)) [
        | inl within ↦ (within, same within)
        | inr past ↦ absurd (true≢false (sym some ∙ ap is_some (not_there rows id i rises place (λ within. absurd (omega arith)))))
      ]
    where
      same : i < length rows → get_or (ids_of rows) i 0 ≡ id
      same within =
          elim (cases_order (get_or (ids_of rows) i 0) id) [
            | inl is ↦ is
            | inr (inl less) ↦ absurd (true≢false (sym some ∙ ap is_some (not_there rows id i rises place (λ _ is. omega (arith, is)))))
            | inr (inr more) ↦ absurd (true≢false (sym some ∙ ap is_some (not_there rows id i rises place (λ _ is. omega (arith, is)))))
          ]

  -- ---- a part of the rows

  ids_drop : (rows : List (ℕ × T)) (p : ℕ) → ids_of (drop p rows) ≡ drop p (ids_of rows)
  ids_drop rows p = sym (drop-map (λ row. row.0) p rows)

  ids_take : (rows : List (ℕ × T)) (p : ℕ) → ids_of (take p rows) ≡ take p (ids_of rows)
  ids_take rows p = sym (take-map (λ row. row.0) p rows)

  drop_id : (rows : List (ℕ × T)) (p j : ℕ) → get_or (ids_of (drop p rows)) j 0 ≡ get_or (ids_of rows) (p + j) 0
  drop_id rows p j = ap (λ ids. get_or ids j 0) (ids_drop rows p) ∙ get_or-drop p (ids_of rows) j 0

  drop_long : (rows : List (ℕ × T)) (p : ℕ) → length (ids_of (drop p rows)) ≡ length (ids_of rows) - p
  drop_long rows p = ap length (ids_drop rows p) ∙ length-drop p (ids_of rows)

  pub rises_drop : (rows : List (ℕ × T)) (p : ℕ) → Rises (ids_of rows) → Rises (ids_of (drop p rows))
  rises_drop rows p rises i j less within =
      omega (arith, drop_id rows p i, drop_id rows p j, rises (p + i) (p + j) (omega arith) (omega (arith, drop_long rows p)))

  pub rises_take : (rows : List (ℕ × T)) (p : ℕ) → p ≤ length rows → Rises (ids_of rows) → Rises (ids_of (take p rows))
  rises_take rows p le rises i j less within =
      let long : length (ids_of (take p rows)) ≡ p = length_ids (take p rows) ∙ length-take-le p rows le in
      let one : (k : ℕ) → k < p → get_or (ids_of (take p rows)) k 0 ≡ get_or (ids_of rows) k 0 =
      λ k l. ap (λ ids. get_or ids k 0) (ids_take rows p) ∙ get_or-take p (ids_of rows) k 0 l in
      omega (arith, one i (omega arith), one j (omega arith), rises i j less (omega (arith, length_ids rows)))

  -- The rows from the place of an id on.
  pub run_is : (rows : List (ℕ × T)) (id p : ℕ) → Rises (ids_of rows) → IsPlace (ids_of rows) id p → IsRun id (drop p rows)
  run_is rows id p rises place = record {
    rises = rises_drop rows p rises;
    above = λ j within. omega (arith, drop_id rows p j, place.above (p + j) (omega arith) (omega (arith, drop_long rows p, length_ids (drop p rows))));
  }

  pub at_drop : (rows : List (ℕ × T)) (p q : ℕ) → ((j : ℕ) → j < p → j < length rows → get_or (ids_of rows) j 0 < q) → at (drop p rows) q ≡ at rows q
  at_drop rows zero q below = refl
  at_drop [] (suc p) q below = refl
  at_drop (row ∷ rows) (suc p) q below =
      let lower : row.0 < q = below 0 (omega arith) (omega arith) in
      grind (arith, nat_tests, at_drop rows p q (λ j less within. below (suc j) (omega arith) (omega arith)))

  pub run_all : (rows : List (ℕ × T)) (id p : ℕ) → IsPlace (ids_of rows) id p → (q : ℕ) → id ≤ q → at (drop p rows) q ≡ at rows q
  run_all rows id p place q le = at_drop rows p q (λ j less within. omega (arith, place.below j less))

  -- The lower rows and the upper ones.
  pub halves_are : (rows : List (ℕ × T)) (from h : ℕ) (e : ℕ × T) → Rises (ids_of rows) → 0 < h
      → h < length rows → e ≡ get_or (drop h rows) 0 e → Halves (from, rows) (from, take h rows) (e.0, drop h rows)
  halves_are rows from h e rises some within is = record {
    rows = sym (take-append-drop h rows);
    from = refl;
    some = omega (arith, long);
    others = omega (arith, length-drop h rows);
    apart = none_past (take h rows) e.0 (record {
      bound = omega (arith, length_ids (take h rows));
      below = λ j less. omega (arith, one j (omega (arith, long)), first, rises j h (omega (arith, long)) (omega (arith, length_ids rows)));
      above = λ j le inside. absurd (omega (arith, length_ids (take h rows)));
    });
    above = λ q there. elim (cases_lt q e.0) [
      | inl lower ↦ absurd (true≢false
          (sym there ∙ ap is_some (none_there (drop h rows) q
          (λ j inside same. omega (
            arith,
            drop_id rows h j,
            first,
            falls_never (ids_of rows) rises h (h + j) (omega arith) (omega (arith, drop_long rows h)),
          )))))
      | inr from ↦ from
    ];
    was = ap is_some (row_there rows h e rises within here);
  }
    where
      here : e ≡ get_or rows h e
      here = subst (λ k. e ≡ get_or rows k e) {x = h + 0} (omega arith) (is ∙ get_or-drop h rows 0 e)

      long : length (take h rows) ≡ h
      long = length-take-le h rows (omega arith)

      one : (j : ℕ) → j < h → get_or (ids_of (take h rows)) j 0 ≡ get_or (ids_of rows) j 0
      one j less = ap (λ ids. get_or ids j 0) (ids_take rows h) ∙ get_or-take h (ids_of rows) j 0 less

      first : get_or (ids_of rows) h 0 ≡ e.0
      first = id_there rows h e within ∙ ap (λ x. x.0) (sym here)

  -- Nothing changes if the id has no row.
  pub sets_none : (rows : List (ℕ × T)) (id : ℕ) → at rows id ≡ None → Sets rows rows id None
  sets_none rows id none q = by (q == id) refl
    where
      by : (b : Bool) → (q == id) ≡ b → at rows q ≡ (if q == id then None else at rows q)
      by true is = rw is (ap (at rows) (eqb-true q id is) ∙ none)
      by false is = rw is refl
