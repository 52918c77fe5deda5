-- What a Take of a list takes was put before it, and is taken only by it; and what a Taken and a Gone report.
use Rattle.std.proofs.Common.{◌≡◌, ℕ, zero, suc, ◌+◌, ◌-◌, ◌<◌, ◌≤◌, nat_lt, Bool, true, false, true≢false, cond, ◌==◌}
use Rattle.std.proofs.Common.{List, [], ◌∷◌, ◌++◌, length, filter, take, drop, Option, Some, None, is_some, IsSome, All}
use Rattle.std.proofs.Common.{Contains, slice_get, refl, sym, ap, ◌∙◌, subst, arith, eq-eqb, ltb-false, drop-cons}
use Rattle.std.proofs.Common.{zero-lt-suc, get_or, ◌⊎◌, inl, inr}
use Rattle.std.proofs.lemmas.Bool.{or_left, or_right}
use Rattle.std.proofs.lemmas.Option.{none-some, slice_get_within}
use Rattle.std.proofs.lemmas.List.{take-append-drop, take_more}
use Rattle.std.proofs.lemmas.List.Elements.{All-nil, All-cons, All-weaker, All-contains, Contains-append_right, Contains-push_cases}
use Rattle.std.specs.FinMap.{get}
use Rattle.linda_map_laws.proofs.MapLaws.{get_empty}
use Rattle.linda_tuple.specs.Tuple.{Tuple}
use Rattle.linda_wire.specs.declared.reply.Reply.TheVariants as replies
use Rattle.linda_store_state.specs.declared.deed.Deed.{Deed}
use Rattle.linda_store_state.specs.declared.deed.Deed.TheVariants.{Out, Take, Pass, Leave}
use Rattle.linda_store_state.specs.Deed.{client_of, number_of, takes, outs_of, is_taken}
use Rattle.linda_store_state.specs.State.{empty_state}
use Rattle.linda_store_state.specs.After.{bag_after, taken_reply, reply_of_deed}
use Rattle.linda_store_state.specs.Proper.{IsProper}
use Rattle.linda_store_state.specs.Once.{IsTakenOnce}
use Rattle.linda_store_state.proofs.StateLaws.{empty_is_state}
use Rattle.linda_store_state.proofs.DeedLaws.{outs_of-joined, is_taken-joined, slice_get-front}
use Rattle.linda_store_state.proofs.AfterLaws.{taken_id}
use Rattle.linda_store_state.proofs.ProperLaws.{reached, front_proper}
use Rattle.linda_store_state.proofs.OnceLaws.{taken_once}
use Rattle.linda_store_step.specs.Answer.{reply_of_kept}
use Rattle.linda_store_step.specs.Deeds.{HandsOver, PassesOn}
use Rattle.linda_store_step.specs.Replies.{ReportsOne}
use Rattle.linda_store_step.proofs.LastLaws.{numbers_once}

-- ---- elements

-- What passes a test is among what passes it.
module _ {X : Type 0} (p : X → Bool) where
  kept : (xs : List X) → All (λ x. p x ≡ true → Contains (filter p xs) x) xs
  kept [] = All-nil (λ x. p x ≡ true → Contains (filter p []) x)
  kept (y ∷ xs) =
      All-cons (λ x. p x ≡ true → Contains (filter p (y ∷ xs)) x) y xs
      (λ passes. subst (λ b. Contains (cond b (y ∷ filter p xs) (filter p xs)) y) (sym passes) (0, zero-lt-suc _, refl))
      (All-weaker (λ x. p x ≡ true → Contains (filter p xs) x) (λ x. p x ≡ true
      → Contains (filter p (y ∷ xs)) x) (λ x there passes. behind (p y) x (there passes)) xs (kept xs))
    where
      behind : (b : Bool) (x : X) → Contains (filter p xs) x → Contains (cond b (y ∷ filter p xs) (filter p xs)) x
      behind true x there = Contains-append_right (y ∷ []) (filter p xs) x there
      behind false x there = there

  kept_at : (xs : List X) (x : X) → Contains xs x → p x ≡ true → Contains (filter p xs) x
  kept_at xs x there = All-contains (λ x. p x ≡ true → Contains (filter p xs) x) xs x (kept xs) there

-- If there is at most one, two are the same.
only_one : {X : Type 0} (xs : List X) (x y : X) → length xs ≤ 1 → Contains xs x → Contains xs y → x ≡ y
only_one [] x y few a b = let within = a.1 in absurd (omega (arith, within))
only_one (z ∷ w ∷ xs) x y few a b = absurd (omega (arith, few))
only_one (z ∷ []) x y few (suc k, within, e) b = absurd (omega (arith, within))
only_one (z ∷ []) x y few (zero, in_x, e) (suc k, within, f) = absurd (omega (arith, within))
only_one (z ∷ []) x y few (zero, in_x, e) (zero, in_y, f) = sym e ∙ f

-- an element with those before it and after it
split : {X : Type 0} (xs : List X) (x : X) (there : Contains xs x) → xs ≡ take there.0 xs ++ x ∷ drop (suc there.0) xs
split xs x there =
    sym (take-append-drop there.0 xs) ∙ ap (λ l. take there.0 xs ++ l) (drop-cons xs there.0 x there.1 ∙ ap (λ y. y ∷ drop (suc there.0) xs) there.2)

in_the_middle : {X : Type 0} (before later : List X) (x : X) → Contains (before ++ x ∷ later) x
in_the_middle before later x = Contains-append_right before (x ∷ later) x (0, zero-lt-suc _, refl)

-- ---- what is taken

-- Two Takes of one tuple are one deed.
pub one_take : (ds : List Deed) (c d n m id : ℕ) → IsTakenOnce ds → Contains ds (Take c n id) → Contains ds (Take d m id) → Take c n id ≡ Take d m id
one_take ds c d n m id once first second =
    only_one (filter (takes id) ds) (Take c n id) (Take d m id) (once id)
    (kept_at (takes id) ds (Take c n id) first (eq-eqb id id refl)) (kept_at (takes id) ds (Take d m id) second (eq-eqb id id refl))

-- A tuple that is in a bag was put, and any later deeds leave it among what was put.
put_before : (before later : List Deed) (id : ℕ) (tuple : Tuple) → bag_after empty_state before id ≡ Some tuple
    → (1 ≤ id) × (slice_get (outs_of (before ++ later)) (id - 1) ≡ Some tuple)
put_before before later id tuple e = by (is_taken id before) (nat_lt id 1) refl e
  where
    by : (a b : Bool) → nat_lt id 1 ≡ b → cond a None (cond b (get empty_state.bag id) (slice_get (outs_of before) (id - 1))) ≡ Some tuple
        → (1 ≤ id) × (slice_get (outs_of (before ++ later)) (id - 1) ≡ Some tuple)
    by true b low f = absurd (none-some tuple f)
    by false true low f = absurd (none-some tuple (sym (get_empty id) ∙ f))
    by false false low f = (
      ltb-false id 1 low,
      ap (λ l. slice_get l (id - 1)) (outs_of-joined before later)
          ∙ slice_get-front (outs_of before) (outs_of later) (id - 1) (slice_get_within (outs_of before) (id - 1) tuple f) ∙ f,
    )

-- A Take of a proper list finds its tuple in the bag.
take_finds : (before later : List Deed) (c n id : ℕ) → IsProper empty_state (before ++ Take c n id ∷ later) → IsSome (bag_after empty_state before id)
take_finds before later c n id proper =
    let there = reached empty_state before empty_is_state (front_proper empty_state before (Take c n id ∷ later) proper) in
    let room : IsSome (get there.new.bag id) = (proper before (Take c n id) later there.new refl there.after).room.1 in
    subst (λ o. IsSome o) (there.after.bag id) room

-- What is taken in a list is in no bag after it.
taken_for_good : (before later more : List Deed) (c n id : ℕ) → is_taken id ((before ++ Take c n id ∷ later) ++ more) ≡ true
taken_for_good before later more c n id =
    is_taken-joined id (before ++ Take c n id ∷ later) more
    ∙ or_left (is_taken id (before ++ Take c n id ∷ later)) (is_taken id more)
    (is_taken-joined id before (Take c n id ∷ later)
    ∙ or_right (is_taken id before) (is_taken id (Take c n id ∷ later)) (or_left (id == id) (is_taken id later) (eq-eqb id id refl)))

-- Each Take of a proper list hands its tuple over.
pub handed_over : (ds : List Deed) (c n id : ℕ) → IsProper empty_state ds → Contains ds (Take c n id) → (tuple : Tuple) × HandsOver ds c id tuple
handed_over ds c n id proper taken = by (bag_after empty_state before id) refl
  where
    before : List Deed
    before = take taken.0 ds

    later : List Deed
    later = drop (suc taken.0) ds

    parts : ds ≡ before ++ Take c n id ∷ later
    parts = split ds (Take c n id) taken

    finds : IsSome (bag_after empty_state before id)
    finds = take_finds before later c n id (subst (IsProper empty_state) parts proper)

    once : length (filter (takes id) ds) ≡ 1
    once =
        let most = taken_once empty_state ds empty_is_state proper id in
        let least = (kept_at (takes id) ds (Take c n id) taken (eq-eqb id id refl)).1 in
        omega (arith, most, least)

    by : (o : Option Tuple) → bag_after empty_state before id ≡ o → (tuple : Tuple) × HandsOver ds c id tuple
    by None none = absurd (true≢false (sym finds ∙ ap is_some none))
    by (Some tuple) there =
        let put = put_before before (Take c n id ∷ later) id tuple there in (
          tuple,
          record {
            number = n;
            taken = taken;
            once = once;
            counted = put.0;
            put = ap (λ l. slice_get (outs_of l) (id - 1)) parts ∙ put.1;
            gone = λ more. taken_id empty_state (ds ++ more) id (ap (λ l. is_taken id (l ++ more)) parts ∙ taken_for_good before later more c n id);
          },
        )

-- ---- what is reported

-- A Taken reports a Take, and the tuple that it found.
taken_reports : (before : List Deed) (d : Deed) (n id : ℕ) (tuple : Tuple)
    → replies.Taken n id tuple ≡ reply_of_kept (number_of d) (reply_of_deed empty_state before d)
    → (d ≡ Take (client_of d) n id) × (bag_after empty_state before id ≡ Some tuple)
taken_reports before (Out c m t) n id tuple e = absurd (cc)
taken_reports before (Pass c m i) n id tuple e = absurd (cc)
taken_reports before (Leave c m) n id tuple e = absurd (cc)
taken_reports before (Take c m i) n id tuple e = by (bag_after empty_state before i) refl e
  where
    by : (o : Option Tuple) → bag_after empty_state before i ≡ o → replies.Taken n id tuple ≡ reply_of_kept m (taken_reply i o)
        → (Take c m i ≡ Take c n id) × (bag_after empty_state before id ≡ Some tuple)
    by None none f = absurd (cc)
    by (Some t) there f =
        let i_is : i ≡ id = cc in
        let t_is : t ≡ tuple = cc in
        (cc, ap (bag_after empty_state before) (sym i_is) ∙ there ∙ ap (λ x. Some x) t_is)

module _ (ds : List Deed) (c n : ℕ) where
  -- what is said of the deed that is reported is said of one of the deeds
  among : (d : Deed) (before later : List Deed) (other : Deed) → ds ≡ before ++ d ∷ later → d ≡ other → Contains ds other
  among d before later other parts is =
      subst (λ l. Contains l other) (sym parts) (subst (λ e. Contains (before ++ e ∷ later) other) (sym is) (in_the_middle before later other))

  pub taken_is_a_take : (id : ℕ) (tuple : Tuple) → ReportsOne ds c (replies.Taken n id tuple) → Contains ds (Take c n id)
  taken_is_a_take id tuple one =
      among one.deed one.before one.later (Take c n id) one.parts
      ((taken_reports one.before one.deed n id tuple one.reply).0 ∙ ap (λ x. Take x n id) one.client)

  pub taken_was_put : (id : ℕ) (tuple : Tuple) → ReportsOne ds c (replies.Taken n id tuple) → slice_get (outs_of ds) (id - 1) ≡ Some tuple
  taken_was_put id tuple one =
      ap (λ l. slice_get (outs_of l) (id - 1)) one.parts
      ∙ (put_before one.before (one.deed ∷ one.later) id tuple (taken_reports one.before one.deed n id tuple one.reply).1).1

  -- A Gone reports a Pass.
  gone_reports : (before later : List Deed) (d : Deed) → IsProper empty_state (before ++ d ∷ later)
      → replies.Gone n ≡ reply_of_kept (number_of d) (reply_of_deed empty_state before d) → (id : ℕ) × (d ≡ Pass (client_of d) n id)
  gone_reports before later (Out d m t) proper e = absurd (cc)
  gone_reports before later (Pass d m i) proper e = (i, cc)
  gone_reports before later (Leave d m) proper e = absurd (cc)
  gone_reports before later (Take d m i) proper e = by (bag_after empty_state before i) refl e
    where
      by : (o : Option Tuple) → bag_after empty_state before i ≡ o → replies.Gone n ≡ reply_of_kept m (taken_reply i o) → (id : ℕ) × (Take d m i ≡ Pass d n id)
      by None none f = absurd (true≢false (sym (take_finds before later d m i proper) ∙ ap is_some none))
      by (Some t) there f = absurd (cc)

  apart : (id other : ℕ) → Pass c n id ≡ Take c n other → ⊥
  apart id other same = cc

  pub gone_passes_on : IsProper empty_state ds → ReportsOne ds c (replies.Gone n) → PassesOn ds c n
  gone_passes_on proper one =
      let pass = gone_reports one.before one.later one.deed (subst (IsProper empty_state) one.parts proper) one.reply in
      let passed = among one.deed one.before one.later (Pass c n pass.0) one.parts (pass.1 ∙ ap (λ x. Pass x n pass.0) one.client) in
      record {
        id = pass.0;
        passed = passed;
        untaken =
            λ other taken. apart pass.0 other ((numbers_once ds proper).one (Pass c n pass.0) (Take c n other) passed taken refl refl);
      }

-- ---- who takes a tuple

-- Nobody took it so far, nor does the next deed.
pub nobody_more : (ds : List Deed) (i : ℕ) (d : Deed) (id : ℕ) → i < length ds → d ≡ get_or ds i d
    → ((c n : ℕ) → Contains (take i ds) (Take c n id) → ⊥) → ((c n : ℕ) → d ≡ Take c n id → ⊥)
    → (c n : ℕ) → Contains (take (i + 1) ds) (Take c n id) → ⊥
nobody_more ds i d id lt is before here c n there = by (Contains-push_cases (take i ds) d (Take c n id) (subst (λ l. Contains l (Take c n id)) front there))
  where
    front : take (i + 1) ds ≡ take i ds ++ d ∷ []
    front = take_more ds i d lt ∙ ap (λ e. take i ds ++ e ∷ []) (sym is)

    by : Contains (take i ds) (Take c n id) ⊎ (d ≡ Take c n id) → ⊥
    by (inl earlier) = before c n earlier
    by (inr now) = here c n now

-- A client that takes it is the only one.
pub same_taker : (ds : List Deed) (i : ℕ) (d : Deed) (t : ℕ × ℕ) (id : ℕ) → i < length ds → d ≡ get_or ds i d
    → d ≡ Take t.0 t.1 id → IsTakenOnce ds → (c n : ℕ) → Contains ds (Take c n id) → t ≡ (c, n)
same_taker ds i d t id lt is found once c n there =
    let here : Contains ds (Take t.0 t.1 id) = subst (Contains ds) found (i, lt, sym is) in
    ap (λ e. (client_of e, number_of e)) (one_take ds t.0 c t.1 n id once here there)
