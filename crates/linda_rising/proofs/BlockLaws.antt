-- Rows in blocks: which block may have an id, and what an edit of one block leaves of all rows.
use Rattle.std.proofs.Common.{◌≡◌, ℕ, zero, suc, ◌+◌, ◌<◌, ◌≤◌, Bool, true, false, if◌then◌else◌, ◌==◌, List, [], ◌∷◌}
use Rattle.std.proofs.Common.{◌++◌, length, get_or, set, Option, Some, None, IsSome, is_some, refl, sym, ap, ◌∙◌, subst}
use Rattle.std.proofs.Common.{inl, inr, arith, true≢false, eqb-true, eq-eqb, OnSome}
use Rattle.std.specs.List.{insert, remove}
use Rattle.std.specs.List.Sorted.{IsNonDecreasingBy}
use Rattle.std.proofs.lemmas.Bool.{cases_lt, cases_order}
use Rattle.std.proofs.lemmas.Bool.Decides.{nat_tests}
use Rattle.std.proofs.lemmas.List.{append_assoc, get_or_default}
use Rattle.std.proofs.lemmas.List.Sorted.{IsNonDecreasingBy-from_default}
use Rattle.linda_rising.specs.Rows.{at, Sets, Halves, all_rows, IsBefore, IsRising, IsFor}

module _ {T : Type 0} where
  -- the first of two that is there
  abbrev pub first_of : Option T → Option T → Option T
  first_of None o = o
  first_of (Some x) o = Some x

  first_none : (o : Option T) → first_of o None ≡ o
  first_none None = refl
  first_none (Some x) = refl

  pub none_or : (o : Option T) → (IsSome o → ⊥) → o ≡ None
  none_or None not = refl
  none_or (Some x) not = absurd (not refl)

  some_none : (o : Option T) → IsSome o → o ≡ None → ⊥
  some_none o some none = true≢false (sym some ∙ ap is_some none)

  pub at_append : (xs ys : List (ℕ × T)) (q : ℕ) → at (xs ++ ys) q ≡ first_of (at xs q) (at ys q)
  at_append [] ys q = refl
  at_append (x ∷ xs) ys q =
      elim (q == x.0) as (λ b. (if b then Some x.1 else at (xs ++ ys) q) ≡ first_of (if b then Some x.1 else at xs q) (at ys q)) [
        | true ↦ refl
        | false ↦ at_append xs ys q
      ]

  some_left : (xs ys : List (ℕ × T)) (q : ℕ) → IsSome (at xs q) → IsSome (at (xs ++ ys) q)
  some_left xs ys q some = ap is_some (at_append xs ys q) ∙ by (at xs q) some
    where
      by : (o : Option T) → IsSome o → IsSome (first_of o (at ys q))
      by None some = absurd (some_none None some refl)
      by (Some x) some = refl

  some_right : (xs ys : List (ℕ × T)) (q : ℕ) → IsSome (at ys q) → IsSome (at (xs ++ ys) q)
  some_right xs ys q some = ap is_some (at_append xs ys q) ∙ by (at xs q)
    where
      by : (o : Option T) → IsSome (first_of o (at ys q))
      by None = some
      by (Some x) = refl

  -- An edit on the left of rows that have not the id, and one on their right.
  pub sets_left : (xs xs' ys : List (ℕ × T)) (id : ℕ) (w : Option T) → Sets xs xs' id w → at ys id ≡ None → Sets (xs ++ ys) (xs' ++ ys) id w
  sets_left xs xs' ys id w sets none q =
      at_append xs' ys q
      ∙ ap (λ o. first_of o (at ys q)) (sets q)
      ∙ by (q == id) refl
      ∙ ap (λ o. if q == id then w else o) (sym (at_append xs ys q))
    where
      gone : (o : Option T) → q ≡ id → first_of o (at ys q) ≡ o
      gone o same = ap (first_of o) (ap (at ys) same ∙ none) ∙ first_none o

      by : (b : Bool) → (q == id) ≡ b → first_of (if q == id then w else at xs q) (at ys q) ≡ (if q == id then w else first_of (at xs q) (at ys q))
      by true is = rw is (gone w (eqb-true q id is))
      by false is = rw is refl

  pub sets_right : (xs ys ys' : List (ℕ × T)) (id : ℕ) (w : Option T) → at xs id ≡ None → Sets ys ys' id w → Sets (xs ++ ys) (xs ++ ys') id w
  sets_right xs ys ys' id w none sets q =
      at_append xs ys' q
      ∙ ap (first_of (at xs q)) (sets q)
      ∙ by (q == id) refl
      ∙ ap (λ o. if q == id then w else o) (sym (at_append xs ys q))
    where
      by : (b : Bool) → (q == id) ≡ b → first_of (at xs q) (if q == id then w else at ys q) ≡ (if q == id then w else first_of (at xs q) (at ys q))
      by true is = rw is (ap (λ o. first_of o w) (ap (at xs) (eqb-true q id is) ∙ none))
      by false is = rw is refl

  -- Some row has an id.
  pub some_id : (rows : List (ℕ × T)) → 0 < length rows → (q : ℕ) × IsSome (at rows q)
  some_id [] some = absurd (omega arith)
  some_id (row ∷ rows) some = (row.0, grind (arith, nat_tests))

  pub some_rows : (rows : List (ℕ × T)) (q : ℕ) → IsSome (at rows q) → 0 < length rows
  some_rows [] q some = absurd (some_none None some refl)
  some_rows (row ∷ rows) q some = omega arith

  -- the id of the block at a place
  abbrev pub from_at : List (ℕ × List (ℕ × T)) → ℕ → ℕ
  from_at bs i = (get_or bs i (0, [])).0

  -- ---- before blocks

  pub before_lower : (bs : List (ℕ × List (ℕ × T))) (x y : ℕ) → x ≤ y → IsBefore y bs → IsBefore x bs
  before_lower [] x y le before = tt
  before_lower (b ∷ bs) x y le before = omega (arith, before)

  pub before_first : (bs : List (ℕ × List (ℕ × T))) (x : ℕ) → (0 < length bs → x < from_at bs 0) → IsBefore x bs
  before_first [] x less = tt
  before_first (b ∷ bs) x less = less (omega arith)

  before_each : (bs : List (ℕ × List (ℕ × T))) (x j : ℕ) → IsRising bs → IsBefore x bs → j < length bs → x < from_at bs j
  before_each [] x j rising before within = absurd (omega arith)
  before_each (b ∷ bs) x zero rising before within = before
  before_each (b ∷ bs) x (suc j) rising before within = before_each bs x j rising.3 (before_lower bs x b.0 (omega (arith, before)) rising.2) (omega arith)

  pub froms_rise : (bs : List (ℕ × List (ℕ × T))) (i j : ℕ) → IsRising bs → i < j → j < length bs → from_at bs i < from_at bs j
  froms_rise [] i j rising less within = absurd (omega arith)
  froms_rise (b ∷ bs) i zero rising less within = absurd (omega arith)
  froms_rise (b ∷ bs) zero (suc j) rising less within = before_each bs b.0 j rising.3 rising.2 (omega arith)
  froms_rise (b ∷ bs) (suc i) (suc j) rising less within = froms_rise bs i j rising.3 (omega arith) (omega arith)

  pub froms_never_fall : (bs : List (ℕ × List (ℕ × T))) → IsRising bs → IsNonDecreasingBy (λ b. b.0) bs
  froms_never_fall bs rising = IsNonDecreasingBy-from_default (λ b. b.0) bs (0, []) (λ i j le within.
      elim (cases_order i j) [
        | inl same ↦ omega (arith, ap (from_at bs) same)
        | inr (inl less) ↦ omega (arith, froms_rise bs i j rising less within)
        | inr (inr more) ↦ absurd (omega arith)
      ])

  pub none_before : (bs : List (ℕ × List (ℕ × T))) (q : ℕ) → IsRising bs → IsBefore q bs → at (all_rows bs) q ≡ None
  none_before [] q rising before = refl
  none_before (b ∷ bs) q rising before =
      let here : at b.1 q ≡ None = none_or (at b.1 q) (λ some. omega (arith, (rising.1 q some).0, before)) in
      at_append b.1 (all_rows bs) q
      ∙ ap (λ o. first_of o (at (all_rows bs) q)) here
      ∙ none_before bs q rising.3 (before_lower bs q b.0 (omega (arith, before)) rising.2)

  -- ---- the block for an id

  for_later : (b : ℕ × List (ℕ × T)) (bs : List (ℕ × List (ℕ × T))) (id i : ℕ) → IsFor (b ∷ bs) id (suc i) → IsFor bs id i
  for_later b bs id i is = record {
    within = omega (arith, is.within);
    begins = λ some. is.begins (omega arith);
    above = λ j less inside. is.above (suc j) (omega arith) (omega arith);
  }

  before_rest : (b : ℕ × List (ℕ × T)) (bs : List (ℕ × List (ℕ × T))) (id : ℕ) → IsFor (b ∷ bs) id 0 → IsBefore id bs
  before_rest b bs id is = before_first bs id (λ some. is.above 1 (omega arith) (omega arith))

  -- No block before the one for the id has it.
  not_before : (b : ℕ × List (ℕ × T)) (bs : List (ℕ × List (ℕ × T))) (id i : ℕ) → IsRising (b ∷ bs) → IsFor (b ∷ bs) id (suc i) → at b.1 id ≡ None
  not_before b bs id i rising is =
      none_or (at b.1 id) (λ some. omega (arith, is.begins (omega arith), before_each bs id i rising.3 (rising.1 id some).1 (omega (arith, is.within))))

  pub located : (bs : List (ℕ × List (ℕ × T))) (id i : ℕ) → IsRising bs → IsFor bs id i → at (all_rows bs) id ≡ at (get_or bs i (0, [])).1 id
  located [] id i rising is = absurd (omega (arith, is.within))
  located (b ∷ bs) id zero rising is =
      at_append b.1 (all_rows bs) id
      ∙ ap (first_of (at b.1 id)) (none_before bs id rising.3 (before_rest b bs id is))
      ∙ first_none (at b.1 id)
  located (b ∷ bs) id (suc i) rising is =
      at_append b.1 (all_rows bs) id
      ∙ ap (λ o. first_of o (at (all_rows bs) id)) (not_before b bs id i rising is)
      ∙ located bs id i rising.3 (for_later b bs id i is)

  pub block_filled : (bs : List (ℕ × List (ℕ × T))) (i : ℕ) → IsRising bs → i < length bs → 0 < length (get_or bs i (0, [])).1
  block_filled [] i rising within = absurd (omega arith)
  block_filled (b ∷ bs) zero rising within = rising.0
  block_filled (b ∷ bs) (suc i) rising within = block_filled bs i rising.3 (omega arith)

  pub block_begins : (bs : List (ℕ × List (ℕ × T))) (i q : ℕ) → IsRising bs → i < length bs → IsSome (at (get_or bs i (0, [])).1 q) → from_at bs i ≤ q
  block_begins [] i q rising within some = absurd (omega arith)
  block_begins (b ∷ bs) zero q rising within some = (rising.1 q some).0
  block_begins (b ∷ bs) (suc i) q rising within some = block_begins bs i q rising.3 (omega arith) some

  pub block_before : (bs : List (ℕ × List (ℕ × T))) (i j q : ℕ) → IsRising bs → i < j → j < length bs → IsSome (at (get_or bs i (0, [])).1 q) → q < from_at bs j
  block_before [] i j q rising less within some = absurd (omega arith)
  block_before (b ∷ bs) i zero q rising less within some = absurd (omega arith)
  block_before (b ∷ bs) zero (suc j) q rising less within some = before_each bs q j rising.3 (rising.1 q some).1 (omega arith)
  block_before (b ∷ bs) (suc i) (suc j) q rising less within some = block_before bs i j q rising.3 (omega arith) (omega arith) some

  -- An id above those of the last block is above all.
  pub past_all : (bs : List (ℕ × List (ℕ × T))) (id i : ℕ) → IsRising bs → i + 1 ≡ length bs
      → ((q : ℕ) → IsSome (at (get_or bs i (0, [])).1 q) → q < id) → (q : ℕ) → IsSome (at (all_rows bs) q) → q < id
  past_all bs id i rising last past q some =
      let key = some_id (get_or bs i (0, [])).1 (block_filled bs i rising (omega arith)) in
      elim (cases_lt q (from_at bs i)) [
        | inl lower ↦ omega (arith, block_begins bs i key.0 rising (omega arith) key.1, past key.0 key.1)
        | inr from ↦ past q (ap is_some
            (sym (located bs q i rising (record { within = omega arith; begins = λ some. from; above = λ j less inside. absurd (omega arith) }))) ∙ some)
      ]

  -- ---- edits of one block

  -- The second block is the first with this under the id, and has a row.
  pub record IsWritten (b b' : ℕ × List (ℕ × T)) (id : ℕ) (w : Option T) : Type 0 where
    pub sets : Sets b.1 b'.1 id w
    pub some : 0 < length b'.1
    pub lower : b'.0 ≤ b.0
    pub keeps : b.0 ≤ id → b'.0 ≡ b.0
    pub below : IsSome w → b'.0 ≤ id

  before_set : (bs : List (ℕ × List (ℕ × T))) (i q : ℕ) (b' : ℕ × List (ℕ × T)) → IsBefore q bs → b'.0 ≡ from_at bs i → IsBefore q (set bs i b')
  before_set [] i q b' before same = tt
  before_set (b ∷ bs) zero q b' before same = omega (arith, before)
  before_set (b ∷ bs) (suc i) q b' before same = before

  pub block_written : (bs : List (ℕ × List (ℕ × T))) (id i : ℕ) (w : Option T) (b' : ℕ × List (ℕ × T)) → IsRising bs → IsFor bs id i
      → IsWritten (get_or bs i (0, [])) b' id w → Sets (all_rows bs) (all_rows (set bs i b')) id w × IsRising (set bs i b')
  block_written [] id i w b' rising is written = absurd (omega (arith, is.within))
  block_written (b ∷ bs) id zero w b' rising is written = (
    sets_left b.1 b'.1 (all_rows bs) id w written.sets (none_before bs id rising.3 (before_rest b bs id is)),
    (written.some, keys, before_lower bs b'.0 b.0 written.lower rising.2, rising.3),
  )
    where
      keys : (q : ℕ) → IsSome (at b'.1 q) → (b'.0 ≤ q) × IsBefore q bs
      keys q some = by (q == id) refl
        where
          there : (x : Bool) → (q == id) ≡ x → IsSome (if x then w else at b.1 q)
          there x is = ap (λ y. is_some (if y then w else at b.1 q)) (sym is) ∙ ap is_some (sym (written.sets q)) ∙ some

          by : (x : Bool) → (q == id) ≡ x → (b'.0 ≤ q) × IsBefore q bs
          by true is' = let same = eqb-true q id is' in
              (omega (arith, written.below (there true is')), subst (λ k. IsBefore k bs) (sym same) (before_rest b bs id is))
          by false is' = let old = rising.1 q (there false is') in (omega (arith, old.0, written.lower), old.1)
  block_written (b ∷ bs) id (suc i) w b' rising is written =
      let rest = block_written bs id i w b' rising.3 (for_later b bs id i is) written in
      let same : b'.0 ≡ from_at bs i = written.keeps (is.begins (omega arith)) in (
        sets_right b.1 (all_rows bs) (all_rows (set bs i b')) id w (not_before b bs id i rising is) rest.0,
        (rising.0, (λ q some. ((rising.1 q some).0, before_set bs i q b' (rising.1 q some).1 same)), before_set bs i b.0 b' rising.2 same, rest.1),
      )

  before_gone : (bs : List (ℕ × List (ℕ × T))) (i q : ℕ) → IsRising bs → IsBefore q bs → IsBefore q (remove bs i)
  before_gone [] zero q rising before = tt
  before_gone [] (suc i) q rising before = tt
  before_gone (b ∷ bs) zero q rising before = before_lower bs q b.0 (omega (arith, before)) rising.2
  before_gone (b ∷ bs) (suc i) q rising before = before

  -- An id that goes with its block.
  pub block_gone : (bs : List (ℕ × List (ℕ × T))) (id i : ℕ) → IsRising bs → IsFor bs id i
      → Sets (get_or bs i (0, [])).1 [] id None → Sets (all_rows bs) (all_rows (remove bs i)) id None × IsRising (remove bs i)
  block_gone [] id i rising is sets = absurd (omega (arith, is.within))
  block_gone (b ∷ bs) id zero rising is sets =
      (sets_left b.1 [] (all_rows bs) id None sets (none_before bs id rising.3 (before_rest b bs id is)), rising.3)
  block_gone (b ∷ bs) id (suc i) rising is sets =
      let rest = block_gone bs id i rising.3 (for_later b bs id i is) sets in (
        sets_right b.1 (all_rows bs) (all_rows (remove bs i)) id None (not_before b bs id i rising is) rest.0,
        (rising.0, (λ q some. ((rising.1 q some).0, before_gone bs i q rising.3 (rising.1 q some).1)), before_gone bs i b.0 rising.3 rising.2, rest.1),
      )

  before_halved : (bs : List (ℕ × List (ℕ × T))) (i q : ℕ) (lower upper : ℕ × List (ℕ × T)) → i < length bs
      → IsBefore q bs → lower.0 ≡ from_at bs i → IsBefore q (insert (set bs i lower) (suc i) upper)
  before_halved [] i q lower upper within before same = absurd (omega arith)
  before_halved (b ∷ bs) zero q lower upper within before same = omega (arith, before)
  before_halved (b ∷ bs) (suc i) q lower upper within before same = before

  -- A block that is made two.
  pub block_halved : (bs : List (ℕ × List (ℕ × T))) (i : ℕ) (lower upper : ℕ × List (ℕ × T)) → IsRising bs → i < length bs
      → Halves (get_or bs i (0, [])) lower upper → (all_rows (insert (set bs i lower) (suc i) upper) ≡ all_rows bs)
      × IsRising (insert (set bs i lower) (suc i) upper)
  block_halved [] i lower upper rising within halves = absurd (omega arith)
  block_halved (b ∷ bs) zero lower upper rising within halves = (
    sym (append_assoc lower.1 upper.1 (all_rows bs)) ∙ ap (λ rows. rows ++ all_rows bs) (sym halves.rows),
    (halves.some, low, omega (arith, halves.from, key_from, halves.apart key.0 key.1), (halves.others, high, (rising.1 upper.0 halves.was).1, rising.3)),
  )
    where
      key : (q : ℕ) × IsSome (at lower.1 q)
      key = some_id lower.1 halves.some

      old : (q : ℕ) → IsSome (at (lower.1 ++ upper.1) q) → IsSome (at b.1 q)
      old q some = ap (λ rows. is_some (at rows q)) halves.rows ∙ some

      key_from : b.0 ≤ key.0
      key_from = (rising.1 key.0 (old key.0 (some_left lower.1 upper.1 key.0 key.1))).0

      low : (q : ℕ) → IsSome (at lower.1 q) → (lower.0 ≤ q) × (q < upper.0)
      low q some = (omega (arith, halves.from, (rising.1 q (old q (some_left lower.1 upper.1 q some))).0), halves.apart q some)

      high : (q : ℕ) → IsSome (at upper.1 q) → (upper.0 ≤ q) × IsBefore q bs
      high q some = (halves.above q some, (rising.1 q (old q (some_right lower.1 upper.1 q some))).1)
  block_halved (b ∷ bs) (suc i) lower upper rising within halves =
      let rest = block_halved bs i lower upper rising.3 (omega arith) halves in (
        ap (λ rows. b.1 ++ rows) rest.0,
        (
          rising.0,
          (λ q some. ((rising.1 q some).0, before_halved bs i q lower upper (omega arith) (rising.1 q some).1 halves.from)),
          before_halved bs i b.0 lower upper (omega arith) rising.2 halves.from,
          rest.1,
        ),
      )

  -- ---- a block more at the end

  before_added : (bs : List (ℕ × List (ℕ × T))) (q : ℕ) (b' : ℕ × List (ℕ × T)) → IsBefore q bs → q < b'.0 → IsBefore q (bs ++ b' ∷ [])
  before_added [] q b' before less = less
  before_added (b ∷ bs) q b' before less = before

  pub sets_added : (rows : List (ℕ × T)) (id : ℕ) (v : T) → at rows id ≡ None → Sets rows (rows ++ (id, v) ∷ []) id (Some v)
  sets_added rows id v none q = at_append rows ((id, v) ∷ []) q ∙ by (q == id) refl
    where
      by : (b : Bool) → (q == id) ≡ b → first_of (at rows q) (if q == id then Some v else None) ≡ (if q == id then Some v else at rows q)
      by true is = rw is (ap (λ o. first_of o (Some v)) (ap (at rows) (eqb-true q id is) ∙ none))
      by false is = rw is (first_none (at rows q))

  all_added : (bs : List (ℕ × List (ℕ × T))) (id : ℕ) (v : T) → all_rows (bs ++ (id, (id, v) ∷ []) ∷ []) ≡ all_rows bs ++ (id, v) ∷ []
  all_added [] id v = refl
  all_added (b ∷ bs) id v = ap (λ rows. b.1 ++ rows) (all_added bs id v) ∙ sym (append_assoc b.1 (all_rows bs) ((id, v) ∷ []))

  pub rising_added : (bs : List (ℕ × List (ℕ × T))) (id : ℕ) (v : T) → IsRising bs
      → ((q : ℕ) → IsSome (at (all_rows bs) q) → q < id) → IsRising (bs ++ (id, (id, v) ∷ []) ∷ [])
  rising_added [] id v rising past = (omega arith, keys, tt, tt)
    where
      keys : (q : ℕ) → IsSome (if q == id then Some v else None) → (id ≤ q) × Unit {0}
      keys q some = by (q == id) refl
        where
          by : (b : Bool) → (q == id) ≡ b → (id ≤ q) × Unit {0}
          by true is = (omega (arith, eqb-true q id is), tt)
          by false is = absurd (some_none None (ap (λ x. is_some (if x then Some v else None)) (sym is) ∙ some) refl)
  rising_added (b ∷ bs) id v rising past =
      let new : ℕ × List (ℕ × T) = (id, (id, v) ∷ []) in
      let key = some_id b.1 rising.0 in
      let low : b.0 < id = omega (arith, (rising.1 key.0 key.1).0, past key.0 (some_left b.1 (all_rows bs) key.0 key.1)) in (
        rising.0,
        (λ q some. ((rising.1 q some).0, before_added bs q new (rising.1 q some).1 (past q (some_left b.1 (all_rows bs) q some)))),
        before_added bs b.0 new rising.2 low,
        rising_added bs id v rising.3 (λ q some. past q (some_right b.1 (all_rows bs) q some)),
      )

  pub block_added : (bs : List (ℕ × List (ℕ × T))) (id : ℕ) (v : T) → IsRising bs → ((q : ℕ) → IsSome (at (all_rows bs) q) → q < id)
      → Sets (all_rows bs) (all_rows (bs ++ (id, (id, v) ∷ []) ∷ [])) id (Some v) × IsRising (bs ++ (id, (id, v) ∷ []) ∷ [])
  block_added bs id v rising past =
      let none : at (all_rows bs) id ≡ None = none_or (at (all_rows bs) id) (λ some. omega (arith, past id some)) in
      (subst (λ rows. Sets (all_rows bs) rows id (Some v)) (sym (all_added bs id v)) (sets_added (all_rows bs) id v none), rising_added bs id v rising past)

  -- ---- what the functions read and write

  pub block_at : (bs : List (ℕ × List (ℕ × T))) (i : ℕ) (b : ℕ × List (ℕ × T)) → i < length bs → b ≡ get_or bs i b → b ≡ get_or bs i (0, [])
  block_at bs i b within is = is ∙ get_or_default bs i b (0, []) within

  -- A block that is written as it is.
  pub set_there : (bs : List (ℕ × List (ℕ × T))) (i : ℕ) (b : ℕ × List (ℕ × T)) → b ≡ get_or bs i b → set bs i b ≡ bs
  set_there [] i b is = refl
  set_there (c ∷ bs) zero b is = ap (λ x. x ∷ bs) is
  set_there (c ∷ bs) (suc i) b is = ap (λ xs. c ∷ xs) (set_there bs i b is)

  pub set_here : (old new : List (ℕ × T)) (id : ℕ) (w : Option T) → Sets old new id w → at new id ≡ w
  set_here old new id w sets = sets id ∙ ap (λ b. if b then w else at old id) (eq-eqb id id refl)

  -- A block with a row more.
  pub with_row : (bs : List (ℕ × List (ℕ × T))) (i id : ℕ) (v : T) (b b' : ℕ × List (ℕ × T)) → i < length bs → b ≡ get_or bs i b
      → Sets b.1 b'.1 id (Some v) → b'.0 ≤ b.0 → (b.0 ≤ id → b'.0 ≡ b.0) → b'.0 ≤ id → IsWritten (get_or bs i (0, [])) b' id (Some v)
  with_row bs i id v b b' within is sets lower keeps below =
      subst (λ x. IsWritten x b' id (Some v)) (block_at bs i b within is) (record {
        sets = sets;
        some = some_rows b'.1 id (ap is_some (set_here b.1 b'.1 id (Some v) sets));
        lower = lower;
        keeps = keeps;
        below = λ _. below;
      })

  -- A block with a row less, of which some are left.
  pub without_row : (bs : List (ℕ × List (ℕ × T))) (i id : ℕ) (b b' : ℕ × List (ℕ × T)) → i < length bs
      → b ≡ get_or bs i b → Sets b.1 b'.1 id None → b'.0 ≡ b.0 → 0 < length b'.1 → IsWritten (get_or bs i (0, [])) b' id None
  without_row bs i id b b' within is sets same some =
      subst (λ x. IsWritten x b' id None) (block_at bs i b within is) (record {
        sets = sets;
        some = some;
        lower = omega (arith, same);
        keeps = λ _. same;
        below = λ there. absurd (some_none None there refl);
      })

  -- A block that has no row left goes.
  pub bare_gone : (bs : List (ℕ × List (ℕ × T))) (i id : ℕ) (b b' : ℕ × List (ℕ × T)) → IsRising bs → IsFor bs id i → b ≡ get_or bs i b
      → Sets b.1 b'.1 id None → length b'.1 ≡ 0 → Sets (all_rows bs) (all_rows (remove (set bs i b') i)) id None × IsRising (remove (set bs i b') i)
  bare_gone bs i id b b' rising is there sets none =
      subst (λ xs. Sets (all_rows bs) (all_rows xs) id None × IsRising xs) (sym (remove_set bs i b'))
      (block_gone bs id i rising is
      (subst (λ rows. Sets rows [] id None) (ap (λ x. x.1) (block_at bs i b is.within there))
      (subst (λ rows. Sets b.1 rows id None) (nothing_left b'.1 none) sets)))
    where
      remove_set : (xs : List (ℕ × List (ℕ × T))) (k : ℕ) (x : ℕ × List (ℕ × T)) → remove (set xs k x) k ≡ remove xs k
      remove_set [] k x = refl
      remove_set (y ∷ xs) zero x = refl
      remove_set (y ∷ xs) (suc k) x = ap (λ l. y ∷ l) (remove_set xs k x)

      nothing_left : (rows : List (ℕ × T)) → length rows ≡ 0 → rows ≡ []
      nothing_left [] e = refl
      nothing_left (x ∷ rows) e = absurd (omega (arith, e))

  -- A block that is made two, in the words of the calls that do so.
  pub halved : (bs was new : List (ℕ × List (ℕ × T))) (i : ℕ) (b lower upper : ℕ × List (ℕ × T)) → IsRising bs → i < length bs → was ≡ bs
      → b ≡ get_or was i b → Halves b lower upper → new ≡ insert (set was i lower) (i + 1) upper → (all_rows new ≡ all_rows bs) × IsRising new
  halved bs was new i b lower upper rising within same there halves is =
      let block = block_at bs i b within (subst (λ xs. b ≡ get_or xs i b) same there) in
      let two = block_halved bs i lower upper rising within (subst (λ x. Halves x lower upper) block halves) in
      let next : i + 1 ≡ suc i = omega arith in
      let items : new ≡ insert (set bs i lower) (suc i) upper = is ∙ ap (λ xs. insert (set xs i lower) (i + 1) upper) same
      ∙ ap (λ k. insert (set bs i lower) k upper) next in
      (ap all_rows items ∙ two.0, subst IsRising (sym items) two.1)

pub on_some : {X : Type 0} (o : Option X) (P : Type 0) → IsSome o → OnSome o P → P
on_some None P some is = absurd (true≢false (sym some))
on_some (Some x) P some is = is
