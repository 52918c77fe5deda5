-- The last number that is kept of one client says whether the deeds of a call were lost.
use Rattle.std.proofs.Common.{◌≡◌, ℕ, suc, ◌-◌, ◌<◌, ◌≤◌, ◌⊎◌, inl, inr, Bool, true, false, nat_le, if◌then◌else◌, List}
use Rattle.std.proofs.Common.{[], ◌∷◌, ◌++◌, length, Some, refl, sym, ap, subst, ◌∙◌, append_assoc, append-nil, arith}
use Rattle.std.proofs.Common.{true≢false}
use Rattle.std.proofs.Math.Logic.{∥∥₁_elim}
use Rattle.std.proofs.lemmas.Bool.{cases_eq, le-leb, lt-leb}
use Rattle.std.specs.Coded.{Coded-set, coded_option, coded_ℕ, coded×}
use Rattle.std.specs.List.{slice_get}
use Rattle.std.specs.FinMap.{get}
use Rattle.linda_tuple.specs.Codes.{tuple_code}
use Rattle.linda_map_laws.proofs.MapLaws.{get_same, get_other}
use Rattle.linda_book.specs.Entries.{number_in}
use Rattle.linda_book.specs.Codes.{kept_code}
use Rattle.linda_store_state.specs.declared.deed.Deed.{Deed}
use Rattle.linda_store_state.specs.Deed.{client_of, number_of}
use Rattle.linda_store_state.specs.State.{State, IsState}
use Rattle.linda_store_state.specs.After.{IsAfter, reply_of_deed}
use Rattle.linda_store_state.specs.Proper.{IsAllowed, AreDone}
use Rattle.linda_store_state.proofs.AfterLaws.{none_after, one_after}
use Rattle.linda_store_state.proofs.DoneLaws.{done, done_after}
use Rattle.linda_store_state.proofs.ProperLaws.{front_proper, reached, Reaches, proper_state, none_done, more_done}
use Rattle.linda_snap.specs.Stands.{Stands}
use Rattle.linda_snap.proofs.ChoiceLaws.{one_stands}
use Rattle.linda_server.specs.Calls.{IsOldOrNew, StandsAround, IsWithOrWithout}
use Rattle.linda_store_step.specs.Soft.{no_asks}
use Rattle.linda_store_step.specs.Store.{Store}
use Rattle.linda_server.specs.Reopening.{is_done, has_done, IsReopened}

-- the last number that is kept of a client
abbrev number_at : ℕ → State → ℕ
number_at c st = number_in (get st.book c)

-- What a deed leaves of the numbers.
own_number : (st : State) (d : Deed) → number_at (client_of d) (done st d) ≡ number_of d
own_number st d = ap number_in (get_same st.book (client_of d) (number_of d, reply_of_deed st [] d))

one_rises : (st : State) (d : Deed) (c : ℕ) → IsAllowed st d → number_at c st ≤ number_at c (done st d)
one_rises st d c allowed =
    elim (cases_eq c (client_of d)) [
      | inl same ↦
          let own = own_number st d in
          let number = allowed.number in
          subst (λ k. number_at k st ≤ number_at k (done st d)) (sym same) (omega (arith, own, number))
      | inr apart ↦
          let other : number_at c (done st d) ≡ number_at c st = ap number_in (get_other st.book (client_of d) (number_of d, reply_of_deed st [] d) c apart) in
          omega (arith, other)
    ]

-- Over deeds that may be done no number falls.
rises : (st : State) (c : ℕ) → IsState st → (before rest : List Deed) (mid new : State) → AreDone st before mid
    → AreDone st (before ++ rest) new → number_at c mid ≤ number_at c new
rises st c is before [] mid new at_mid all =
    let same : mid ≡ new = one_after st before mid new at_mid.after (subst (λ l. IsAfter st l new) (append-nil before) all.after) in
    let at_c = ap (number_at c) same in
    omega (arith, at_c)
rises st c is before (d ∷ rest) mid new at_mid all =
    let is_mid = proper_state st mid before is at_mid.proper at_mid.after in
    let allowed = all.proper before d rest mid refl at_mid.after in
    let more = more_done st mid (done mid d) before d is at_mid allowed (done_after mid d is_mid) in
    let first = one_rises mid d c allowed in
    let later = rises st c is (before ++ d ∷ []) rest (done mid d) new more (subst (λ l. AreDone st l new) (sym (append_assoc before (d ∷ []) rest)) all) in
    omega (arith, first, later)

-- A list that is not empty, and its last deed.
record Ends (ds : List Deed) : Type 0 where
  front : List Deed
  last : Deed
  parts : ds ≡ front ++ last ∷ []
  there : slice_get ds (length ds - 1) ≡ Some last

ends : (d : Deed) (ds : List Deed) → Ends (d ∷ ds)
ends d [] = record { front = []; last = d; parts = refl; there = refl }
ends d (e ∷ ds) =
    let rest = ends e ds in
    let place : suc (length (e ∷ ds) - 1) ≡ length (d ∷ e ∷ ds) - 1 = omega arith in
    record {
      front = d ∷ rest.front;
      last = rest.last;
      parts = ap (λ l. d ∷ l) rest.parts;
      there = subst (λ i. slice_get (d ∷ e ∷ ds) i ≡ Some rest.last) place rest.there;
    }

-- The last deed's number is above what was kept of its client before, and is kept after it.
module _ (st new : State) (front : List Deed) (d : Deed) (is : IsState st) (all : AreDone st (front ++ d ∷ []) new) where
  there : Reaches st front
  there = reached st front is (front_proper st front (d ∷ []) all.proper)

  at_mid : AreDone st front there.new
  at_mid = record { proper = front_proper st front (d ∷ []) all.proper; after = there.after }

  allowed : IsAllowed there.new d
  allowed = all.proper front d [] there.new refl there.after

  after_mid : AreDone st (front ++ d ∷ []) (done there.new d)
  after_mid = more_done st there.new (done there.new d) front d is at_mid allowed (done_after there.new d there.state)

  above : number_at (client_of d) st < number_of d
  above =
      let low = rises st (client_of d) is [] front st there.new (none_done st is) at_mid in
      let number = allowed.number in
      omega (arith, low, number)

  kept : number_at (client_of d) new ≡ number_of d
  kept =
      let same : new ≡ done there.new d = one_after st (front ++ d ∷ []) new (done there.new d) all.after after_mid.after in
      ap (number_at (client_of d)) same ∙ own_number there.new d

done_here : (st : State) (d : Deed) (n : ℕ) → number_at (client_of d) st ≡ n → number_of d ≤ n → is_done st (Some d) ≡ true
done_here st d n same le = subst (λ m. nat_le (number_of d) m ≡ true) (sym same) (le-leb (number_of d) n le)

not_done_here : (st : State) (d : Deed) → number_at (client_of d) st < number_of d → is_done st (Some d) ≡ false
not_done_here st d lt = lt-leb (number_of d) (number_at (client_of d) st) lt

not_yet : (st new : State) (ds : List Deed) → IsState st → AreDone st ds new → has_done st ds ≡ false
not_yet st new [] is all = refl
not_yet st new (d ∷ ds) is all =
    let e = ends d ds in
    ap (is_done st) e.there ∙ not_done_here st e.last (above st new e.front e.last is (subst (λ l. AreDone st l new) e.parts all))

done_then : (st new : State) (d : Deed) (ds : List Deed) → IsState st → AreDone st (d ∷ ds) new → has_done new (d ∷ ds) ≡ true
done_then st new d ds is all =
    let e = ends d ds in
    ap (is_done new) e.there ∙ done_here new e.last (number_of e.last) (kept st new e.front e.last is (subst (λ l. AreDone st l new) e.parts all)) (omega arith)

-- The test says which of the two states is there.
by_test : (before new st : State) (lost : List Deed) (b : Bool) → has_done st lost ≡ b → IsState before → AreDone before lost new → (before ≡ st) ⊎ (new ≡ st)
    → IsAfter before (if b then lost else []) st
by_test before new st lost true e is all (inl same) = absurd (true≢false (sym e ∙ subst (λ s. has_done s lost ≡ false) same (not_yet before new lost is all)))
by_test before new st lost false e is all (inl same) = subst (λ s. IsAfter before [] s) same (none_after before is)
by_test before new st lost true e is all (inr same) = subst (λ s. IsAfter before lost s) same all.after
by_test before new st [] false e is all (inr same) = subst (λ s. IsAfter before [] s) same all.after
by_test before new st (d ∷ ds) false e is all (inr same) =
    absurd (true≢false (sym (subst (λ s. has_done s (d ∷ ds) ≡ true) same (done_then before new d ds is all)) ∙ e))

-- The same of two disks that represent one of the two.
pub reopened : (before st : State) (lost : List Deed) (left right : List ℕ) (b : Bool) → has_done st lost ≡ b
    → IsWithOrWithout before lost left right → Stands left right st
    → IsAfter before (if b then lost else []) st
reopened before st lost left right b e some stands = record {
  bag = λ id. ∥∥₁_elim some (Coded-set (coded_option tuple_code) _ _) (λ x. (so x).bag id);
  book = λ c. ∥∥₁_elim some (Coded-set (coded_option (coded× coded_ℕ kept_code)) _ _) (λ x. (so x).book c);
  next = ∥∥₁_elim some (Coded-set coded_ℕ _ _) (λ x. (so x).next);
}
  where
    which : (new : State) → IsOldOrNew before new left right → (before ≡ st) ⊎ (new ≡ st)
    which new (inl x) = inl (one_stands left right before st x stands)
    which new (inr x) = inr (one_stands left right new st x stands)

    so : StandsAround before lost left right → IsAfter before (if b then lost else []) st
    so x = by_test before x.new st lost b e x.ranges x.done (which x.new x.stands)

-- What comes back, as the test says.
pub came_back : (before : State) (lost mine ds : List Deed) (server : Store) (left right : List ℕ) (st : State) (b result : Bool)
    → result ≡ has_done st mine → result ≡ b → st ≡ server.state → mine ≡ lost
    → ds ≡ if b then lost else [] → IsWithOrWithout before lost left right → Stands left right server.state
    → server.soft ≡ no_asks → IsReopened before lost ds server
came_back before lost mine ds server left right st b result test is state_is lost_is ds_is some stands soft = record {
  which = by_side b ds_is;
  after = subst (λ l. IsAfter before l server.state) (sym ds_is) (reopened before server.state lost left right b told some stands);
  soft_is = soft;
}
  where
    told : has_done server.state lost ≡ b
    told = ap (λ s. has_done s lost) (sym state_is) ∙ ap (has_done st) (sym lost_is) ∙ sym test ∙ is

    by_side : (c : Bool) → ds ≡ (if c then lost else []) → (ds ≡ []) ⊎ (ds ≡ lost)
    by_side true same = inr same
    by_side false same = inl same
