-- How many asks of a client are open after some are gone, and after a wait became a hold.
use Rattle.std.proofs.Common.{◌≡◌, ℕ, suc, ◌+◌, ◌≤◌, Bool, true, false, cond, not, List, [], ◌∷◌, length, Some, None}
use Rattle.std.proofs.Common.{filter, find, refl, sym, ap, ◌∙◌, subst, nat_cmp, Less, Equal, Greater, arith}
use Rattle.std.proofs.lemmas.Option.{none-some, same_Some}
use Rattle.std.specs.Ordering.{eq_by_cmp}
use Rattle.std.specs.Cmp.{nat_cmp_total, eq_by_cmp_equiv}
use Rattle.std.specs.FinMap.{FinMap, get, insert, remove, entries, put, from_sorted, entries_sorted, same_map}
use Rattle.std.specs.FinMap.{nat_cmp-IsAntisymmetric, get-entries, get-remove, get-from_sorted, entries-from_sorted}
use Rattle.std.specs.FinMap.{entries-insert}
use Rattle.std.specs.FinMap.Entries.{by_order, where_key, is_sorted-where_key, find-where_key}

module _ {X : Type 0} where
  both_more : (b : Bool) (x : X) (us vs : List X) (n : ℕ) → length us + n ≤ length vs → length (cond b (x ∷ us) us) + n ≤ length (cond b (x ∷ vs) vs)
  both_more true x us vs n fewer = omega arith
  both_more false x us vs n fewer = fewer

  right_more : (b : Bool) (x : X) (us vs : List X) (n : ℕ) → length us + n ≤ length vs → length us + n ≤ length (cond b (x ∷ vs) vs)
  right_more true x us vs n fewer = omega arith
  right_more false x us vs n fewer = fewer

  -- One more at most.
  one_more : (b : Bool) (x : X) (us : List X) → length (cond b (x ∷ us) us) ≤ length us + cond b 1 0
  one_more true x us = omega arith
  one_more false x us = omega arith

  module _ (p q : X → Bool) where
    -- No more pass of those that another test keeps.
    pub fewer_pass : (xs : List X) → length (filter p (filter q xs)) ≤ length (filter p xs)
    fewer_pass [] = omega arith
    fewer_pass (x ∷ xs) =
        let rest = fewer_pass xs in
        let start : length (filter p (filter q xs)) + 0 ≤ length (filter p xs) = omega (arith, rest) in
        let end : length (filter p (cond (q x) (x ∷ filter q xs) (filter q xs))) + 0 ≤ length (filter p (x ∷ xs)) =
        elim (q x) as (λ b. length (filter p (cond b (x ∷ filter q xs) (filter q xs))) + 0 ≤ length (filter p (x ∷ xs))) [
          | true ↦ both_more (p x) x (filter p (filter q xs)) (filter p xs) 0 start
          | false ↦ right_more (p x) x (filter p (filter q xs)) (filter p xs) 0 start
        ]
        in
        omega (arith, end)

  module _ (p q r : X → Bool) where
    abbrev left : List X → List X
    left xs = filter p (filter r (filter q xs))

    left_more : (x : X) (xs : List X) (n : ℕ) → length (left xs) + n ≤ length (filter p xs) → length (left (x ∷ xs)) + n ≤ length (filter p (x ∷ xs))
    left_more x xs n fewer =
        elim (q x) as (λ b. length (filter p (filter r (cond b (x ∷ filter q xs) (filter q xs)))) + n ≤ length (filter p (x ∷ xs))) [
          | true ↦
              elim (r x) as (λ b. length (filter p (cond b (x ∷ filter r (filter q xs)) (filter r (filter q xs)))) + n ≤ length (filter p (x ∷ xs))) [
                | true ↦ both_more (p x) x (left xs) (filter p xs) n fewer
                | false ↦ right_more (p x) x (left xs) (filter p xs) n fewer
              ]
          | false ↦ right_more (p x) x (left xs) (filter p xs) n fewer
        ]

    left_fewer : (xs : List X) → length (left xs) + 0 ≤ length (filter p xs)
    left_fewer [] = omega arith
    left_fewer (x ∷ xs) = left_more x xs 0 (left_fewer xs)

    first_gone : (x : X) (xs : List X) → p x ≡ true → r x ≡ false → length (left (x ∷ xs)) + 1 ≤ length (filter p (x ∷ xs))
    first_gone x xs counts gone =
        let few = left_fewer xs in
        let without : length (left (x ∷ xs)) ≡ length (left xs) =
        elim (q x) as (λ b. length (filter p (filter r (cond b (x ∷ filter q xs) (filter q xs)))) ≡ length (left xs)) [
          | true ↦ ap (λ b. length (filter p (cond b (x ∷ filter r (filter q xs)) (filter r (filter q xs))))) gone
          | false ↦ refl
        ]
        in
        let with : length (filter p (x ∷ xs)) ≡ suc (length (filter p xs)) = ap (λ b. length (cond b (x ∷ filter p xs) (filter p xs))) counts in
        omega (arith, few, without, with)

    -- One less passes, if what was found is counted and is not kept.
    pub found_gone : (test : X → Bool) (xs : List X) (x : X) → find test xs ≡ Some x → p x ≡ true → r x ≡ false → length (left xs) + 1 ≤ length (filter p xs)
    found_gone test [] x found counts gone = absurd (none-some x found)
    found_gone test (y ∷ xs) x found counts gone =
        elim (test y) as (λ b. cond b (Some y) (find test xs) ≡ Some x → length (left (y ∷ xs)) + 1 ≤ length (filter p (y ∷ xs))) [
          | true ↦ λ some. let same : y ≡ x = same_Some y x some in
              first_gone y xs (subst (λ z. p z ≡ true) (sym same) counts) (subst (λ z. r z ≡ false) (sym same) gone)
          | false ↦ λ later. left_more y xs 1 (found_gone test xs x later counts gone)
        ] found

turned : {A : Type 0} (b : Bool) (x y : A) → cond (not b) x y ≡ cond b y x
turned true x y = refl
turned false x y = refl

module _ {X : Type 0} where
  -- The entries that are left after a removal.
  pub entries_removed : (m : FinMap nat_cmp X) (k : ℕ) → entries (remove m k) ≡ filter (λ e. not (eq_by_cmp nat_cmp k e.0)) (entries m)
  entries_removed m k =
      let kept = where_key nat_cmp (λ x. not (eq_by_cmp nat_cmp k x)) (entries m) in
      let sorted = is_sorted-where_key nat_cmp (λ x. not (eq_by_cmp nat_cmp k x)) (entries m) (entries_sorted m) in
      let same : remove m k ≡ from_sorted kept = same_map nat_cmp_total nat_cmp-IsAntisymmetric (remove m k) (from_sorted kept) (λ q.
      get-remove nat_cmp_total m k q
      ∙ ap (λ b. cond b None (get m q)) ((eq_by_cmp_equiv nat_cmp_total).symm q k)
      ∙ sym (turned (eq_by_cmp nat_cmp k q) (get m q) None)
      ∙ ap (λ o. cond (not (eq_by_cmp nat_cmp k q)) o None) (get-entries m q)
      ∙ sym (find-where_key nat_cmp (λ x. not (eq_by_cmp nat_cmp k x)) q
      (λ x tied. ap (λ y. not (eq_by_cmp nat_cmp k y)) (sym (nat_cmp-IsAntisymmetric q x tied))) (entries m))
      ∙ sym (get-from_sorted nat_cmp kept q sorted))
      in
      ap entries same ∙ entries-from_sorted nat_cmp kept sorted

  module _ (t : X → Bool) where
    put_counted : (k : ℕ) (v : X) (es : List (ℕ × X)) → length (filter (λ e. t e.1) (put nat_cmp k v es)) ≤ length (filter (λ e. t e.1) es) + cond (t v) 1 0
    put_counted k v [] = one_more (t v) (k, v) []
    put_counted k v (e ∷ es) =
        let old = filter (λ (f : ℕ × X). t f.1) es in
        elim (nat_cmp k e.0) as (λ o. length (filter (λ (f : ℕ × X). t f.1) (by_order o ((k, v) ∷ e ∷ es) ((e.0, v) ∷ es) (e ∷ put nat_cmp k v es)))
        ≤ length (filter (λ (f : ℕ × X). t f.1) (e ∷ es)) + cond (t v) 1 0) [
          | Less ↦ one_more (t v) (k, v) (filter (λ (f : ℕ × X). t f.1) (e ∷ es))
          | Equal ↦
              let one = one_more (t v) (e.0, v) old in
              let more : length old + 0 ≤ length (cond (t e.1) (e ∷ old) old) = right_more (t e.1) e old old 0 (omega arith) in
              omega (arith, one, more)
          | Greater ↦ later (t e.1) e (filter (λ (f : ℕ × X). t f.1) (put nat_cmp k v es)) old (cond (t v) 1 0) (put_counted k v es)
        ]
      where
        later : (b : Bool) (e : ℕ × X) (us vs : List (ℕ × X)) (n : ℕ) → length us ≤ length vs + n
            → length (cond b (e ∷ us) us) ≤ length (cond b (e ∷ vs) vs) + n
        later true e us vs n fewer = omega arith
        later false e us vs n fewer = fewer

    -- After an insertion at most one entry more passes, and none if the new value doesn't.
    pub insert_counted : (m : FinMap nat_cmp X) (k : ℕ) (v : X)
        → length (filter (λ e. t e.1) (entries (insert m k v))) ≤ length (filter (λ e. t e.1) (entries m)) + cond (t v) 1 0
    insert_counted m k v = subst (λ es. length (filter (λ e. t e.1) es) ≤ length (filter (λ e. t e.1) (entries m)) + cond (t v) 1 0)
        (sym (entries-insert nat_cmp_total m k v)) (put_counted k v (entries m))

    -- After a removal no more entries pass.
    pub remove_counted : (m : FinMap nat_cmp X) (k : ℕ) → length (filter (λ e. t e.1) (entries (remove m k))) ≤ length (filter (λ e. t e.1) (entries m))
    remove_counted m k = subst (λ es. length (filter (λ e. t e.1) es) ≤ length (filter (λ e. t e.1) (entries m)))
        (sym (entries_removed m k)) (fewer_pass (λ e. t e.1) (λ e. not (eq_by_cmp nat_cmp k e.0)) (entries m))
