-- The waits that a tuple may answer, from a number on: what becomes of them as the walk goes on.
use Rattle.std.proofs.Common.{◌≡◌, ℕ, ◌≤◌, ◌<◌, ◌+◌, arith, Bool, true, false, cond, nat_le, List, [], ◌∷◌, Option}
use Rattle.std.proofs.Common.{None, Some, filter, refl, sym, ap, subst, ◌∙◌, nat_cmp, Less}
use Rattle.std.specs.Ordering.{is_eq}
use Rattle.std.specs.Option.{is_some, option_map}
use Rattle.std.specs.BTreeMap.{is_at}
use Rattle.std.specs.Cmp.{ranked}
use Rattle.std.specs.List.{AllByRecursion}
use Rattle.std.specs.List.Sorted.{IsStrictlySortedBy}
use Rattle.std.specs.Map.{keys_of, values_of, lookup}
use Rattle.std.proofs.lemmas.Bool.{true≢false}
use Rattle.std.proofs.lemmas.Bool.Decides.{nat_tests}
use Rattle.linda_tuple.specs.Tuple.{Tuple}
use Rattle.linda_bag.proofs.FilingLaws.{id_told}
use Rattle.linda_hold.specs.Waits.{Wait}
use Rattle.linda_hold.specs.Arrivals.{IsNext, may_meet, met_from}
use Rattle.linda_hold.specs.TagIndex.{may_answer}
use Rattle.linda_hold.specs.Index.{asked_of}
use Rattle.linda_hold.specs.Numbered.{in_order, wait_at}
use Rattle.linda_hold.proofs.ListLaws.{weaker}
use Rattle.linda_hold.proofs.NumberedLaws.{each_found, found, ordered}

module _ (p : Wait → Bool) where
  -- those that pass, from a number on
  abbrev passed_from : ℕ → List (ℕ × Wait) → List Wait
  passed_from from es = filter p (values_of (filter (λ e. nat_le from e.0) es))

  -- An entry that does not pass, or is below the number, is passed over.
  passed_over : (from : ℕ) (e : ℕ × Wait) (es : List (ℕ × Wait)) → (from ≤ e.0 → p e.1 ≡ false) → passed_from from (e ∷ es) ≡ passed_from from es
  passed_over from e es off = by (nat_le from e.0) refl
    where
      at_least : nat_le from e.0 ≡ true → from ≤ e.0
      at_least is = grind (arith, nat_tests)

      by : (b : Bool) → nat_le from e.0 ≡ b
          → filter p (values_of (cond b (e ∷ filter (λ f. nat_le from f.0) es) (filter (λ f. nat_le from f.0) es))) ≡ passed_from from es
      by false is = refl
      by true is = ap (λ b. cond b (e.1 ∷ passed_from from es) (passed_from from es)) (off (at_least is))

  -- One that passes is before those that follow.
  kept_first : (from : ℕ) (e : ℕ × Wait) (es : List (ℕ × Wait)) → from ≤ e.0 → p e.1 ≡ true → passed_from from (e ∷ es) ≡ e.1 ∷ passed_from from es
  kept_first from e es above passes =
      ap (λ b. filter p (values_of (cond b (e ∷ filter (λ f. nat_le from f.0) es) (filter (λ f. nat_le from f.0) es)))) (is above)
      ∙ ap (λ b. cond b (e.1 ∷ passed_from from es) (passed_from from es)) passes
    where
      is : from ≤ e.0 → nat_le from e.0 ≡ true
      is above = grind (arith, nat_tests)

  -- All that is above two numbers passes from the one on as from the other.
  all_above : (low from : ℕ) (es : List (ℕ × Wait)) → from ≤ low + 1 → AllByRecursion (λ y. nat_cmp low y ≡ Less) (keys_of es)
      → filter (λ e. nat_le from e.0) es ≡ es
  all_above low from [] below above = refl
  all_above low from (e ∷ es) below above =
      ap (λ b. cond b (e ∷ filter (λ f. nat_le from f.0) es) (filter (λ f. nat_le from f.0) es)) (is (ranked low e.0 Less (sym above.0)))
      ∙ ap (λ l. e ∷ l) (all_above low from es below above.1)
    where
      is : low < e.0 → nat_le from e.0 ≡ true
      is less = grind (arith, nat_tests)

  all_from_none : (es : List (ℕ × Wait)) → filter (λ e. nat_le 0 e.0) es ≡ es
  all_from_none [] = refl
  all_from_none (e ∷ es) =
      ap (λ b. cond b (e ∷ filter (λ f. nat_le 0 f.0) es) (filter (λ f. nat_le 0 f.0) es)) (is e.0)
      ∙ ap (λ l. e ∷ l) (all_from_none es)
    where
      is : (k : ℕ) → nat_le 0 k ≡ true
      is k = grind (arith, nat_tests)

  -- What is found among entries above a number is above it.
  found_above : (low n : ℕ) (w : Wait) (es : List (ℕ × Wait)) → AllByRecursion (λ y. nat_cmp low y ≡ Less) (keys_of es)
      → lookup (is_at (nat_cmp n)) es ≡ Some w → low < n
  found_above low n w [] above there = absurd (none there)
    where
      none : None ≡ Some w → ⊥
      none e = cc
  found_above low n w (e ∷ es) above there = by (is_eq (nat_cmp n e.0)) refl there (found_above low n w es above.1)
    where
      by : (b : Bool) → is_eq (nat_cmp n e.0) ≡ b → cond b (Some e.1) (lookup (is_at (nat_cmp n)) es) ≡ Some w
          → (lookup (is_at (nat_cmp n)) es ≡ Some w → low < n) → low < n
      by true is there later = subst (λ x. low < x) (sym ((id_told n e.0).0 is)) (ranked low e.0 Less (sym above.0))
      by false off there later = later there

  module _ (has : ℕ → Bool) where
    -- The test of the numbers says what passes.
    abbrev Says : List (ℕ × Wait) → Type 0
    Says es = AllByRecursion (λ e. has e.0 ≡ p e.1) es

    none_left : (from : ℕ) (es : List (ℕ × Wait)) → Says es → ((k : ℕ) → from ≤ k → has k ≡ false) → passed_from from es ≡ []
    none_left from [] says none = refl
    none_left from (e ∷ es) says none =
        passed_over from e es (λ above. sym says.0 ∙ none e.0 above) ∙ none_left from es says.1 none

    one_next : (from n : ℕ) (w : Wait) (es : List (ℕ × Wait)) → IsStrictlySortedBy nat_cmp (keys_of es) → Says es → from ≤ n → p w ≡ true
        → ((k : ℕ) → from ≤ k → k < n → has k ≡ false) → lookup (is_at (nat_cmp n)) es ≡ Some w → passed_from from es ≡ w ∷ passed_from (n + 1) es
    unfolding IsStrictlySortedBy
    one_next from n w [] sorted says above passes below there = absurd (none there)
      where
        none : None ≡ Some w → ⊥
        none e = cc
    one_next from n w (e ∷ es) sorted says above passes below there =
        by (is_eq (nat_cmp n e.0)) refl there (one_next from n w es sorted.1 says.1 above passes below)
      where
        over : n ≡ e.0 → n + 1 ≤ e.0 → ⊥
        over same less = omega arith

        after : e.0 < n → n + 1 ≤ e.0 → ⊥
        after before less = omega arith

        by : (b : Bool) → is_eq (nat_cmp n e.0) ≡ b → cond b (Some e.1) (lookup (is_at (nat_cmp n)) es) ≡ Some w
            → (lookup (is_at (nat_cmp n)) es ≡ Some w → passed_from from es ≡ w ∷ passed_from (n + 1) es)
            → passed_from from (e ∷ es) ≡ w ∷ passed_from (n + 1) (e ∷ es)
        by true is there rest =
            let same : n ≡ e.0 = (id_told n e.0).0 is in
            let own : e.1 ≡ w = value there in
            kept_first from e es (subst (λ x. from ≤ x) same above) (ap p own ∙ passes)
            ∙ ap (λ l. l ∷ passed_from from es) own
            ∙ ap (λ l. w ∷ filter p (values_of l)) (all_above e.0 from es (near same) sorted.0 ∙ sym (all_above e.0 (n + 1) es (nearer same) sorted.0))
            ∙ ap (λ l. w ∷ l) (sym (passed_over (n + 1) e es (λ less. absurd (over same less))))
          where
            value : Some e.1 ≡ Some w → e.1 ≡ w
            value e = cc

            near : n ≡ e.0 → from ≤ e.0 + 1
            near same = omega (arith, above)

            nearer : n ≡ e.0 → n + 1 ≤ e.0 + 1
            nearer same = omega arith
        by false off there rest =
            let before : e.0 < n = found_above e.0 n w es sorted.0 there in
            passed_over from e es (λ more. sym says.0 ∙ below e.0 more before)
            ∙ rest there
            ∙ ap (λ l. w ∷ l) (sym (passed_over (n + 1) e es (λ less. absurd (after before less))))

-- The entries of a map of waits, and a tuple.
module _ (entries : List (ℕ × Wait)) (row : Tuple) where
  abbrev pub reach : ℕ → Bool
  reach q = may_answer row (asked_of (wait_at entries) q)

  says : AllByRecursion (λ e. reach e.0 ≡ may_meet row e.1) (in_order entries)
  says =
      weaker (λ e. lookup (is_at (nat_cmp e.0)) (in_order entries) ≡ Some e.1) (λ e. reach e.0 ≡ may_meet row e.1)
      (λ e there. ap (λ o. may_answer row (option_map (λ w. w.1) o)) (found entries e.0 ∙ there))
      (in_order entries) (each_found (in_order entries) (ordered entries))

  -- At first all are left.
  pub all_met : met_from row 0 entries ≡ filter (may_meet row) (values_of (in_order entries))
  all_met = ap (λ es. filter (may_meet row) (values_of es)) (all_from_none (may_meet row) (in_order entries))

  -- If no number is left, no wait is.
  pub none_met : (from : ℕ) → IsNext reach from None → met_from row from entries ≡ []
  none_met from none = none_left (may_meet row) reach from (in_order entries) says none

  -- The wait under the next number is the first that is left.
  pub next_met : (from n : ℕ) (w : Wait) → IsNext reach from (Some n) → wait_at entries n ≡ Some w
      → met_from row from entries ≡ w ∷ met_from row (n + 1) entries
  next_met from n w next there =
      one_next (may_meet row) reach from n w (in_order entries) (ordered entries) says next.0
      (sym (ap (λ o. may_answer row (option_map (λ x. x.1) o)) there) ∙ next.1)
      next.2 (sym (found entries n) ∙ there)

  -- There is a wait under the next number.
  pub next_there : (from n : ℕ) → IsNext reach from (Some n) → is_some (wait_at entries n) ≡ true
  next_there from n next = by (wait_at entries n) next.1
    where
      by : (o : Option Wait) → may_answer row (option_map (λ x. x.1) o) ≡ true → is_some o ≡ true
      by None is = absurd (true≢false (sym is))
      by (Some w) is = refl
