-- Lists of entries whose keys rise, and the finite maps that they are the entries of.
use Rattle.std.proofs.Common.{◌≡◌, ◌≢◌, ℕ, suc, ◌<◌, ◌≤◌, Bool, true, false, cond, not, ◌&&◌, ltb, T, List, [], ◌∷◌}
use Rattle.std.proofs.Common.{◌++◌, Option, Some, None, refl, sym, ap, subst, ◌∙◌, nat_cmp, is_lt, Equal, Greater, inl}
use Rattle.std.proofs.Common.{inr, eq-eqb, ne_eqb, arith}
use Rattle.std.specs.Prelude.{IfSome}
use Rattle.std.specs.List.{AllByRecursion, filter}
use Rattle.std.specs.Cmp.{nat_cmp_is, nat_cmp_total, unsigned_tied}
use Rattle.std.specs.FinMap.{FinMap, get, insert, entries, entries_sorted, get-entries, entries-insert}
use Rattle.std.specs.FinMap.Entries.{find, put, is_sorted, below_all, by_order}
use Rattle.std.proofs.lemmas.Bool.{cases_lt, le-ltb, lt-ltb}
use Rattle.linda_snap.specs.Rising.{entries_from}

both_hold : (a b : Bool) → T (a && b) → T a × T b
both_hold true b p = (tt, p)
both_hold false b p = absurd p

is_greater : (x y : ℕ) → y < x → nat_cmp x y ≡ Greater
is_greater x y lt = sym (nat_cmp_is x y Greater lt)

lt_of : (x y : ℕ) → T (is_lt (nat_cmp x y)) → x < y
lt_of x y test =
    elim (cases_lt x y) [
      | inl lt ↦ lt
      | inr le ↦ elim (cases_lt y x) [
        | inl lt ↦ absurd (subst (λ o. T (is_lt o)) (is_greater x y lt) test)
        | inr ge ↦ absurd (subst (λ o. T (is_lt o)) (sym (nat_cmp_is x y Equal (omega (arith, le, ge)))) test)
      ]
    ]

some_is : {X : Type 0} (v w : X) → Some v ≡ Some w → v ≡ w
some_is v w e = cc

not_none : {X : Type 0} (v : X) → None ≡ Some v → ⊥
not_none v e = cc

module _ {X : Type 0} where
  -- The keys rise, from that one on.
  abbrev pub Rising : ℕ → List (ℕ × X) → Type 0
  Rising low [] = Unit {0}
  Rising low (e ∷ es) = (low ≤ e.0) × Rising (suc e.0) es

  -- The first key that may follow the list.
  abbrev pub after_all : ℕ → List (ℕ × X) → ℕ
  after_all low [] = low
  after_all low (e ∷ es) = after_all (suc e.0) es

  rising_after : (key : ℕ) (es : List (ℕ × X)) → T (below_all nat_cmp key es) → T (is_sorted nat_cmp es) → Rising (suc key) es
  rising_after key [] below sorted = tt
  rising_after key (e ∷ es) below sorted =
      let b = both_hold (is_lt (nat_cmp key e.0)) (below_all nat_cmp key es) below in
      let s = both_hold (below_all nat_cmp e.0 es) (is_sorted nat_cmp es) sorted in
      (lt_of key e.0 b.0, rising_after e.0 es s.0 s.1)

  rising_sorted : (es : List (ℕ × X)) → T (is_sorted nat_cmp es) → Rising 0 es
  rising_sorted [] sorted = tt
  rising_sorted (e ∷ es) sorted =
      let s = both_hold (below_all nat_cmp e.0 es) (is_sorted nat_cmp es) sorted in
      (omega arith, rising_after e.0 es s.0 s.1)

  -- The entries of a map rise.
  pub rising : (m : FinMap nat_cmp X) → Rising 0 (entries m)
  rising m = rising_sorted (entries m) (entries_sorted m)

  -- ---- look-ups

  find_here : (e : ℕ × X) (es : List (ℕ × X)) → find nat_cmp e.0 (e ∷ es) ≡ Some e.1
  find_here e es = ap (λ b. cond b (Some e.1) (find nat_cmp e.0 es)) (unsigned_tied e.0 e.0 ∙ eq-eqb e.0 e.0 refl)

  find_other : (key : ℕ) (e : ℕ × X) (es : List (ℕ × X)) → key ≢ e.0 → find nat_cmp key (e ∷ es) ≡ find nat_cmp key es
  find_other key e es apart = ap (λ b. cond b (Some e.1) (find nat_cmp key es)) (unsigned_tied key e.0 ∙ ne_eqb key e.0 apart)

  find_before : (low key : ℕ) (es : List (ℕ × X)) → Rising low es → key < low → find nat_cmp key es ≡ None
  find_before low key [] rises lt = refl
  find_before low key (e ∷ es) rises lt =
      find_other key e es (λ same. omega (arith, same, lt, rises.0)) ∙ find_before (suc e.0) key es rises.1 (omega (arith, lt, rises.0))

  -- What holds of each entry holds of what is found,
  found_in : (P : ℕ × X → Type 0) (es : List (ℕ × X)) → AllByRecursion P es → (key : ℕ) (v : X) → find nat_cmp key es ≡ Some v → P (key, v)
  found_in P [] all key v there = absurd (not_none v there)
  found_in P (e ∷ es) all key v there =
      elim (cases_lt key e.0) [
        | inl lt ↦ found_in P es all.1 key v (sym (find_other key e es (λ same. omega (arith, same, lt))) ∙ there)
        | inr le ↦ elim (cases_lt e.0 key) [
          | inl lt ↦ found_in P es all.1 key v (sym (find_other key e es (λ same. omega (arith, same, lt))) ∙ there)
          | inr ge ↦
              let same : e.0 ≡ key = omega (arith, le, ge) in
              let value : e.1 ≡ v = some_is e.1 v (sym (find_here e es) ∙ ap (λ k. find nat_cmp k (e ∷ es)) same ∙ there) in
              subst P {x = e} {y = (key, v)} (λ i. (same i, value i)) all.0
        ]
      ]

  -- and what holds of all that is found holds of each entry.
  all_found : (P : ℕ × X → Type 0) (low : ℕ) (es : List (ℕ × X)) → Rising low es
      → ((key : ℕ) (v : X) → find nat_cmp key es ≡ Some v → P (key, v)) → AllByRecursion P es
  all_found P low [] rises each = tt
  all_found P low (e ∷ es) rises each = (each e.0 e.1 (find_here e es), all_found P (suc e.0) es rises.1 later)
    where
      later : (key : ℕ) (v : X) → find nat_cmp key es ≡ Some v → P (key, v)
      later key v there =
          elim (cases_lt key (suc e.0)) [
            | inl lt ↦ absurd (not_none v (sym (find_before (suc e.0) key es rises.1 lt) ∙ there))
            | inr le ↦ each key v (find_other key e es (λ same. omega (arith, same, le)) ∙ there)
          ]

  pub get_in : (P : ℕ × X → Type 0) (m : FinMap nat_cmp X) → AllByRecursion P (entries m) → (key : ℕ) → IfSome (get m key) (λ v. P (key, v))
  get_in P m all key = by (get m key) refl
    where
      by : (o : Option X) → get m key ≡ o → IfSome o (λ v. P (key, v))
      by None e = tt
      by (Some v) e = found_in P (entries m) all key v (sym (get-entries m key) ∙ e)

  pub all_got : (P : ℕ × X → Type 0) (m : FinMap nat_cmp X) → ((key : ℕ) → IfSome (get m key) (λ v. P (key, v))) → AllByRecursion P (entries m)
  all_got P m each = all_found P 0 (entries m) (rising m) (λ key v there. subst (λ o. IfSome o (λ w. P (key, w))) (get-entries m key ∙ there) (each key))

  -- ---- the entries from a key on

  abbrev from_key : ℕ → List (ℕ × X) → List (ℕ × X)
  from_key from es = filter (λ e. not (ltb e.0 from)) es

  dropped : (from : ℕ) (e : ℕ × X) (es : List (ℕ × X)) → e.0 < from → from_key from (e ∷ es) ≡ from_key from es
  dropped from e es lt = ap (λ b. cond (not b) (e ∷ from_key from es) (from_key from es)) (lt-ltb e.0 from lt)

  held : (from : ℕ) (e : ℕ × X) (es : List (ℕ × X)) → from ≤ e.0 → from_key from (e ∷ es) ≡ e ∷ from_key from es
  held from e es le = ap (λ b. cond (not b) (e ∷ from_key from es) (from_key from es)) (le-ltb e.0 from le)

  all_held : (from low : ℕ) (es : List (ℕ × X)) → Rising low es → from ≤ low → from_key from es ≡ es
  all_held from low [] rises le = refl
  all_held from low (e ∷ es) rises le =
      held from e es (omega (arith, le, rises.0)) ∙ ap (λ l. e ∷ l) (all_held from (suc e.0) es rises.1 (omega (arith, le, rises.0)))

  first_here : (from key : ℕ) (v : X) (low : ℕ) (es : List (ℕ × X)) → Rising low es → find nat_cmp key es ≡ Some v → from ≤ key
      → ((k : ℕ) → from ≤ k → k < key → find nat_cmp k es ≡ None) → from_key from es ≡ (key, v) ∷ from_key (suc key) es
  first_here from key v low [] rises there le none = absurd (not_none v there)
  first_here from key v low (e ∷ es) rises there le none =
      elim (cases_lt e.0 from) [
        | inl lt ↦
            let later = first_here from key v (suc e.0) es rises.1 (sym (find_other key e es (λ same. omega (arith, same, lt, le)))
            ∙ there) le (λ k low high. sym (find_other k e es (λ same. omega (arith, same, lt, low))) ∙ none k low high) in
            dropped from e es lt ∙ later ∙ ap (λ l. (key, v) ∷ l) (sym (dropped (suc key) e es (omega (arith, lt, le))))
        | inr ge ↦ elim (cases_lt e.0 key) [
          | inl lt ↦ absurd (not_none e.1 (sym (none e.0 ge lt) ∙ find_here e es))
          | inr above ↦ elim (cases_lt key e.0) [
            | inl lt ↦ absurd (not_none v
                (sym (find_other key e es (λ same. omega (arith, same, lt)) ∙ find_before (suc e.0) key es rises.1 (omega (arith, lt))) ∙ there))
            | inr below ↦
                let same : e.0 ≡ key = omega (arith, above, below) in
                let value : e.1 ≡ v = some_is e.1 v (sym (find_here e es) ∙ ap (λ k. find nat_cmp k (e ∷ es)) same ∙ there) in
                let one : ◌≡◌ {A = ℕ × X} e (key, v) = λ i. (same i, value i) in
                held from e es ge
                ∙ ap (λ l. e ∷ l) (all_held from (suc e.0) es rises.1 (omega (arith, ge)))
                ∙ ap (λ x. x ∷ es) one
                ∙ ap (λ l. (key, v) ∷ l) (sym (dropped (suc key) e es (omega (arith, same)) ∙ all_held (suc key) (suc e.0) es rises.1 (omega (arith, same))))
          ]
        ]
      ]

  none_here : (from low : ℕ) (es : List (ℕ × X)) → Rising low es → ((k : ℕ) → from ≤ k → find nat_cmp k es ≡ None) → from_key from es ≡ []
  none_here from low [] rises none = refl
  none_here from low (e ∷ es) rises none =
      elim (cases_lt e.0 from) [
        | inl lt ↦ dropped from e es lt
            ∙ none_here from (suc e.0) es rises.1 (λ k le. sym (find_other k e es (λ same. omega (arith, same, lt, le))) ∙ none k le)
        | inr le ↦ absurd (not_none e.1 (sym (none e.0 le) ∙ find_here e es))
      ]

  -- From the first key that there is,
  pub first_is : (m : FinMap nat_cmp X) (from key : ℕ) (v : X) → get m key ≡ Some v → from ≤ key
      → ((k : ℕ) → from ≤ k → k < key → get m k ≡ None) → entries_from from m ≡ (key, v) ∷ entries_from (suc key) m
  first_is m from key v there le none =
      first_here from key v 0 (entries m) (rising m) (sym (get-entries m key) ∙ there) le (λ k low high. sym (get-entries m k) ∙ none k low high)

  -- or none.
  pub none_is : (m : FinMap nat_cmp X) (from : ℕ) → ((k : ℕ) → from ≤ k → get m k ≡ None) → entries_from from m ≡ []
  none_is m from none = none_here from 0 (entries m) (rising m) (λ k le. sym (get-entries m k) ∙ none k le)

  pub all_is : (m : FinMap nat_cmp X) → entries_from 0 m ≡ entries m
  all_is m = all_held 0 0 (entries m) (rising m) (omega arith)

  -- ---- one entry more

  after_low : (low : ℕ) (es : List (ℕ × X)) → Rising low es → low ≤ after_all low es
  after_low low [] rises = omega arith
  after_low low (e ∷ es) rises = omega (arith, rises.0, after_low (suc e.0) es rises.1)

  put_last : (low key : ℕ) (v : X) (es : List (ℕ × X)) → Rising low es → after_all low es ≤ key → put nat_cmp key v es ≡ es ++ (key, v) ∷ []
  put_last low key v [] rises le = refl
  put_last low key v (e ∷ es) rises le =
      ap (λ o. by_order o ((key, v) ∷ e ∷ es) ((e.0, v) ∷ es) (e ∷ put nat_cmp key v es))
      (is_greater key e.0 (omega (arith, le, after_low (suc e.0) es rises.1)))
      ∙ ap (λ l. e ∷ l) (put_last (suc e.0) key v es rises.1 le)

  pub inserted : (m : FinMap nat_cmp X) (key : ℕ) (v : X) → after_all 0 (entries m) ≤ key → entries (insert m key v) ≡ entries m ++ (key, v) ∷ []
  inserted m key v le = entries-insert nat_cmp_total m key v ∙ put_last 0 key v (entries m) (rising m) le

  pub after_more : (low : ℕ) (es : List (ℕ × X)) (e : ℕ × X) → after_all low (es ++ e ∷ []) ≡ suc e.0
  after_more low [] e = refl
  after_more low (x ∷ es) e = after_more (suc x.0) es e

  pub above_all : (low : ℕ) (es : List (ℕ × X)) (e : ℕ × X) (later : List (ℕ × X)) → Rising low (es ++ e ∷ later) → after_all low es ≤ e.0
  above_all low [] e later rises = rises.0
  above_all low (x ∷ es) e later rises = above_all (suc x.0) es e later rises.1
