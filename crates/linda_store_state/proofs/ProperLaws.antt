-- Lists of deeds that a server can do: there is a state after them, and it keeps the ranges of states.
use Rattle.std.proofs.Common.{◌≡◌, ℕ, ◌+◌, ◌<◌, ◌≤◌, true, false, List, [], ◌∷◌, ◌++◌, length, Option, Some, None}
use Rattle.std.proofs.Common.{IfSome, IsSome, is_some, ◌⊎◌, inl, inr, refl, ap, sym, ◌∙◌, subst, arith, append_assoc}
use Rattle.std.proofs.Common.{append-nil, length-append}
use Rattle.std.proofs.lemmas.Bool.{or_cases, true≢false}
use Rattle.std.specs.FinMap.{get}
use Rattle.linda_store_state.specs.declared.deed.Deed.{Deed}
use Rattle.linda_store_state.specs.Deed.{taken_by, takes, outs_of, is_taken}
use Rattle.linda_store_state.specs.State.{State, IsState}
use Rattle.linda_store_state.specs.After.{IsAfter}
use Rattle.linda_store_state.specs.Proper.{HasRoom, IsAllowed, IsProper, AreDone}
use Rattle.linda_store_state.proofs.DeedLaws.{outs_of-joined, is_taken-joined, taken_is}
use Rattle.linda_store_state.proofs.AfterLaws.{TakesBelow, none_after, one_after, more_after}
use Rattle.linda_store_state.proofs.DoneLaws.{done, done_after, done_state}

-- The front of a proper list is proper.
pub front_proper : (st : State) (front rest : List Deed) → IsProper st (front ++ rest) → IsProper st front
front_proper st front rest proper before d later mid parts after =
    proper before d (later ++ rest) mid (ap (λ l. l ++ rest) parts ∙ append_assoc before (d ∷ later) rest) after

-- The last of a list with one more, or one before it.
same_head : {X : Type 0} (x y : X) (xs ys : List X) → x ∷ xs ≡ y ∷ ys → x ≡ y
same_head x y xs ys same = cc

same_tail : {X : Type 0} (x y : X) (xs ys : List X) → x ∷ xs ≡ y ∷ ys → xs ≡ ys
same_tail x y xs ys same = cc

not_empty : {X : Type 0} (xs : List X) (y : X) (ys : List X) → [] ≡ xs ++ y ∷ ys → ⊥
not_empty [] y ys same = cc
not_empty (x ∷ xs) y ys same = cc

last_or_before : {X : Type 0} (xs before later : List X) (x y : X) → xs ++ x ∷ [] ≡ before ++ y ∷ later
    → ((xs ≡ before) × (x ≡ y)) ⊎ ((rest : List X) × (xs ≡ before ++ y ∷ rest))
last_or_before [] [] later x y same = inl (refl, same_head x y [] later same)
last_or_before [] (b ∷ before) later x y same = absurd (not_empty before y later (same_tail x b [] (before ++ y ∷ later) same))
last_or_before (a ∷ xs) [] later x y same = inr (xs, ap (λ e. e ∷ xs) (same_head a y (xs ++ x ∷ []) later same))
last_or_before (a ∷ xs) (b ∷ before) later x y same =
    elim (last_or_before xs before later x y (same_tail a b (xs ++ x ∷ []) (before ++ y ∷ later) same)) [
      | inl here ↦ inl (cc (same_head a b (xs ++ x ∷ []) (before ++ y ∷ later) same, here.0), here.1)
      | inr there ↦ inr (there.0, cc (same_head a b (xs ++ x ∷ []) (before ++ y ∷ later) same, there.1))
    ]

-- No deeds are a proper list.
pub none_proper : (st : State) → IsProper st []
none_proper st before d later mid parts after = absurd (not_empty before d later parts)

-- A proper list with one more deed that is allowed after it is proper.
pub more_proper : (st mid : State) (ds : List Deed) (d : Deed) → IsProper st ds → IsAfter st ds mid → IsAllowed mid d → IsProper st (ds ++ d ∷ [])
more_proper st mid ds d proper after allowed before e later other parts other_after =
    elim (last_or_before ds before later d e parts) [
      | inl here ↦
          let same : mid ≡ other = one_after st ds mid other after (subst (λ l. IsAfter st l other) (sym here.0) other_after) in
          subst (λ s. IsAllowed s e) same (subst (IsAllowed mid) here.1 allowed)
      | inr there ↦ proper before e there.0 other there.1 other_after
    ]

from_some : {X : Type 0} (o : Option X) (P : Type 0) → IfSome o (λ _. P) → is_some o ≡ true → P
from_some None P some is = absurd (true≢false (sym is))
from_some (Some x) P some is = some

one_taken : (st : State) (d : Deed) (id : ℕ) → IsState st → HasRoom st d → is_taken id (d ∷ []) ≡ true → id < st.next
one_taken st d id is room taken =
    elim (or_cases (takes id d) false taken) [
      | inl named ↦
          let there = subst (λ o. IfSome o (λ i. IsSome (get st.bag i))) (taken_is id (taken_by d) named) room.1 in
          (from_some (get st.bag id) ((1 ≤ id) × (id < st.next)) (is.ids id) there).1
      | inr never ↦ absurd (true≢false (sym never))
    ]

takes_more : (st mid : State) (ds : List Deed) (d : Deed) → TakesBelow st ds → IsAfter st ds mid → IsState mid → IsAllowed mid d → TakesBelow st (ds ++ d ∷ [])
takes_more st mid ds d below after is allowed id taken =
    let puts : length (outs_of (ds ++ d ∷ [])) ≡ length (outs_of ds) + length (outs_of (d ∷ [])) =
    ap length (outs_of-joined ds (d ∷ [])) ∙ length-append (outs_of ds) (outs_of (d ∷ [])) in
    elim (or_cases (is_taken id ds) (is_taken id (d ∷ [])) (sym (is_taken-joined id ds (d ∷ [])) ∙ taken)) [
      | inl before ↦ let low = below id before in omega arith
      | inr last ↦ let low = one_taken mid d id is allowed.room last in omega (arith, after.next)
    ]

-- What a proper list leads to: a state, with its ranges, and what is taken is below its next id.
pub record Reaches (st : State) (ds : List Deed) : Type 0 where
  pub new : State
  pub after : IsAfter st ds new
  pub state : IsState new
  pub below : TakesBelow st ds

reached_from : (st mid : State) (before later : List Deed) → IsAfter st before mid → IsState mid
    → TakesBelow st before → IsProper st (before ++ later) → Reaches st (before ++ later)
reached_from st mid before [] after is below proper =
    subst (Reaches st) (sym (append-nil before)) (record { new = mid; after = after; state = is; below = below })
reached_from st mid before (d ∷ later) after is below proper =
    let allowed : IsAllowed mid d = proper before d later mid refl after in
    let whole : (before ++ d ∷ []) ++ later ≡ before ++ d ∷ later = append_assoc before (d ∷ []) later in
    subst (Reaches st) whole
    (reached_from st (done mid d) (before ++ d ∷ []) later
    (more_after st mid (done mid d) before d after (done_after mid d is) below)
    (done_state mid d is allowed)
    (takes_more st mid before d below after is allowed)
    (subst (IsProper st) (sym whole) proper))

-- Every proper list leads to a state.
pub reached : (st : State) (ds : List Deed) → IsState st → IsProper st ds → Reaches st ds
reached st ds is proper = reached_from st st [] ds (none_after st is) is (λ id taken. absurd (true≢false (sym taken))) proper

-- A proper list takes only ids below the next one, as `more_after` wants it.
pub takes_below : (st : State) (ds : List Deed) → IsState st → IsProper st ds → TakesBelow st ds
takes_below st ds is proper = (reached st ds is proper).below

-- The state after a proper list keeps the ranges of states; so the ids of its bag are below its next id.
pub proper_state : (st new : State) (ds : List Deed) → IsState st → IsProper st ds → IsAfter st ds new → IsState new
proper_state st new ds is proper after =
    let there = reached st ds is proper in
    subst IsState (one_after st ds there.new new there.after after) there.state

-- No deeds were done; one deed more was done; and no list goes on with a deed that is not allowed.
pub none_done : (st : State) → IsState st → AreDone st [] st
none_done st is = record { proper = none_proper st; after = none_after st is }

pub more_done : (st mid new : State) (ds : List Deed) (d : Deed) → IsState st → AreDone st ds mid
    → IsAllowed mid d → IsAfter mid (d ∷ []) new → AreDone st (ds ++ d ∷ []) new
more_done st mid new ds d is done allowed after =
    record {
      proper = more_proper st mid ds d done.proper done.after allowed;
      after =
          more_after st mid new ds d done.after after (takes_below st ds is done.proper);
    }

pub never_done : (st mid : State) (ds later : List Deed) (d : Deed) → AreDone st ds mid → (IsAllowed mid d → ⊥) → IsProper st (ds ++ d ∷ later) → ⊥
never_done st mid ds later d done never proper = never (proper ds d later mid refl done.after)
