-- A message does the deed that it asks for exactly if its demand is met; so the bytes of all deeds in a form can be counted, and whether each has a
-- spelling there is known.
use Rattle.std.proofs.Common.{◌≡◌, ℕ, ◌+◌, ◌≤◌, ◌<◌, Bool, true, false, cond, ◌==◌, List, [], ◌∷◌, ◌++◌, length, Option}
use Rattle.std.proofs.Common.{Some, None, All, IfSome, is_some, option_to_list, IfNone, refl, sym, ap, ◌∙◌, subst}
use Rattle.std.proofs.Common.{ne_eqb, length-append, append-nil, arith}
use Rattle.std.proofs.lemmas.Grind.{flat_map-append}
use Rattle.std.proofs.lemmas.List.Elements.{All-nil, All-cons, All-head, All-tail}
use Rattle.std.specs.FinMap.{get, insert, len}
use Rattle.linda_map_laws.proofs.MapLaws.{get_inserted, len_new, len_old}
use Rattle.linda_tuple.specs.Tuple.{Tuple}
use Rattle.linda_tuple.specs.declared.form.Form.{Form}
use Rattle.linda_tuple.specs.declared.form.Form.TheVariants.{One}
use Rattle.linda_wire.specs.declared.message.Message.{Message}
use Rattle.linda_book.specs.Entries.{Entry, number_in, is_left}
use Rattle.linda_store_state.specs.declared.deed.Deed.{Deed}
use Rattle.linda_store_state.specs.declared.deed.Deed.TheVariants as deeds
use Rattle.linda_wire.specs.declared.limits.TheConstants.{NUMBER_LIMIT}
use Rattle.linda_store_state.specs.Deed.{client_of, number_of}
use Rattle.linda_store_state.specs.DeedFormat.{spell_deed, payload, SuitsForm}
use Rattle.linda_store_state.specs.State.{State, IsState}
use Rattle.linda_store_state.specs.After.{IsAfter, bag_after, reply_of_deed, taken_reply}
use Rattle.linda_store_state.proofs.AfterLaws.{none_after, one_after}
use Rattle.linda_store_state.proofs.DoneLaws.{done, done_after, next_done}
use Rattle.linda_store_step.specs.declared.judge.Demand.{Demand}
use Rattle.linda_store_step.specs.Judge.{to_put, to_take, to_leave, puts, leaves}
use Rattle.linda_store_step.specs.Soft.{Soft}
use Rattle.linda_store_step.specs.Answer.{Answer, last_number, standing_of, IsStep}
use Rattle.linda_store_step.specs.History.{History, Happens, comings}
use Rattle.linda_store_step.specs.declared.size.Need.{Need}
use Rattle.linda_store_step.specs.Size.{IsNeedOf, latest_in, latest_of, numbers_of, deed_bytes, if_done, done_by}
use Rattle.linda_store_step.specs.Size.{done_of, numbers_after, bytes_of, bytes_from, count_of, count_from, Suits}
use Rattle.linda_store_step.specs.Size.{SuitsIfDone, AllSuit}
use Rattle.linda_store_step.proofs.AnswerCourse.{Course, unnumbered, turned_down, told_again, stored, taken, passed, left, course_of}
use Rattle.linda_store_step.proofs.NumberLaws.{none_is_done}
use Rattle.linda_store_step.proofs.AnswerLaws.{step_state}

-- ---- the numbers after a deed

latest_of_cond : (b : Bool) (e : Entry) (o : Option Entry) → latest_in (cond b (Some e) o) ≡ cond b (e.0, is_left e.1) (latest_in o)
latest_of_cond true e o = refl
latest_of_cond false e o = refl

plus_none : (a : ℕ) → a ≡ a + 0
plus_none a = omega arith

-- A client for which nothing is kept is one whose last number is 0.
len_kept : (st : State) (c : ℕ) (e : Entry) → IsState st → len (insert st.book c e) ≡ len st.book + cond (last_number st c == 0) 1 0
len_kept st c e ranges = by (get st.book c) refl (ranges.numbers c)
  where
    by : (o : Option Entry) → get st.book c ≡ o → IfSome o (λ x. (1 ≤ x.0) × (x.0 < NUMBER_LIMIT))
        → len (insert st.book c e) ≡ len st.book + cond (last_number st c == 0) 1 0
    by None none within = len_new st.book c e none ∙ ap (λ o. len st.book + cond (number_in o == 0) 1 0) (sym none)
    by (Some x) some within =
        let apart : (x.0 == 0) ≡ false = ne_eqb x.0 0 (λ z. omega (arith, z, within.0)) in
        len_old st.book c e (ap is_some some) ∙ plus_none (len st.book) ∙ ap (λ b. len st.book + cond b 1 0) (sym apart)
        ∙ ap (λ o. len st.book + cond (number_in o == 0) 1 0) (sym some)

-- A deed is the one that was asked for.
record IsAsked (form : Form) (st : State) (c : ℕ) (m : Message) (d : Deed) (w : Demand) : Type 0 where
  client : client_of d ≡ c
  number : number_of d ≡ w.n
  leave : is_left (reply_of_deed st [] d) ≡ leaves w.what
  next : next_done st d ≡ st.next + cond (puts w.what) 1 0
  size : length (spell_deed form d) ≡ deed_bytes form m
  suits : SuitsForm form d → Suits form m
  suited : Suits form m → SuitsForm form d

-- What a step comes to: no deed, and none was to be done; or the one that was.
data Outcome (form : Form) (st : State) (c : ℕ) (m : Message) (deed : Option Deed) : Type 0 where
  nothing : deed ≡ None → done_of (numbers_of st) c m ≡ None → Outcome form st c m deed
  one : (d : Deed) (w : Demand) → deed ≡ Some d → done_of (numbers_of st) c m ≡ Some w → IsAsked form st c m d w → Outcome form st c m deed

taken_stays : (id : ℕ) (o : Option Tuple) → is_left (taken_reply id o) ≡ false
taken_stays id None = refl
taken_stays id (Some row) = refl

outcome_of : (form : Form) (st : State) (c : ℕ) (soft : Soft) (m : Message) (answered : Answer)
    → Course st soft c m answered → Outcome form st c m answered.deed
outcome_of form st c soft _ _ (unnumbered m told none answer) = nothing refl (ap (λ o. done_by o (standing_of st c)) none)
outcome_of form st c soft _ _ (turned_down m d why asked verdict) = nothing refl (ap (λ o. done_by o (standing_of st c)) asked ∙ ap (if_done d) verdict)
outcome_of form st c soft _ _ (told_again m d reply asked verdict kept) = nothing refl (ap (λ o. done_by o (standing_of st c)) asked ∙ ap (if_done d) verdict)
outcome_of form st c soft _ _ (stored n tuple none) =
    one (deeds.Out c n tuple) (to_put n) refl (ap (if_done (to_put n)) (none_is_done st c (to_put n) none))
    (record { client = refl; number = refl; leave = refl; next = refl; size = omega arith; suits = λ fits. fits; suited = λ fits. fits })
outcome_of form st c soft _ _ (taken n ticket id row none held) =
    one (deeds.Take c n id) (to_take n) refl (ap (if_done (to_take n)) (none_is_done st c (to_take n) none))
    (record {
      client = refl;
      number = refl;
      leave = taken_stays id (bag_after st [] id);
      next =
          plus_none st.next;
      size = refl;
      suits = λ fits. fits;
      suited = λ fits. fits;
    })
outcome_of form st c soft _ _ (passed n ticket id none held) =
    one (deeds.Pass c n id) (to_take n) refl (ap (if_done (to_take n)) (none_is_done st c (to_take n) none))
    (record { client = refl; number = refl; leave = refl; next = plus_none st.next; size = refl; suits = λ fits. fits; suited = λ fits. fits })
outcome_of form st c soft _ _ (left n none) =
    one (deeds.Leave c n) (to_leave n) refl (ap (if_done (to_leave n)) (none_is_done st c (to_leave n) none))
    (record { client = refl; number = refl; leave = refl; next = plus_none st.next; size = refl; suits = λ fits. fits; suited = λ fits. fits })

-- ---- what a step comes to

-- What is done of the message is known from the old numbers: its bytes, and the numbers after it.
record IsTold (form : Form) (st : State) (c : ℕ) (m : Message) (deed : Option Deed) (new : State) : Type 0 where
  bytes : length (payload form (option_to_list deed)) ≡ bytes_of form m (done_of (numbers_of st) c m)
  count : length (option_to_list deed) ≡ count_of (done_of (numbers_of st) c m)
  suits : (later : List Deed) → All (SuitsForm form) (option_to_list deed ++ later)
      → SuitsIfDone form m (done_of (numbers_of st) c m) × All (SuitsForm form) later
  suited : (later : List Deed) → SuitsIfDone form m (done_of (numbers_of st) c m) → All (SuitsForm form) later
      → All (SuitsForm form) (option_to_list deed ++ later)
  numbers : numbers_of new ≡ numbers_after (numbers_of st) c (done_of (numbers_of st) c m)

told_of : (form : Form) (st new : State) (c : ℕ) (m : Message) (deed : Option Deed) → IsState st
    → IsAfter st (option_to_list deed) new → Outcome form st c m deed → IsTold form st c m deed new
told_of form st new c m deed is after (nothing none undone) =
    let same : new ≡ st = one_after st [] new st (subst (λ d. IsAfter st (option_to_list d) new) none after) (none_after st is) in
    record {
      bytes = ap (λ d. length (payload form (option_to_list d))) none ∙ sym (ap (bytes_of form m) undone);
      count = ap (λ d. length (option_to_list d)) none ∙ sym (ap count_of undone);
      suits = λ later all. (subst (SuitsIfDone form m) (sym undone) tt, subst (λ o. All (SuitsForm form) (option_to_list o ++ later)) none all);
      suited = λ later this all. subst (λ o. All (SuitsForm form) (option_to_list o ++ later)) (sym none) all;
      numbers = ap numbers_of same ∙ sym (ap (numbers_after (numbers_of st) c) undone);
    }
told_of form st new c m deed is after (one d w some was_done asked) =
    let same : new ≡ done st d = one_after st (d ∷ []) new (done st d) (subst (λ d. IsAfter st (option_to_list d) new) some after) (done_after st d is) in
    record {
      bytes = ap (λ d. length (payload form (option_to_list d))) some ∙ ap length (append-nil (spell_deed form d))
          ∙ asked.size ∙ sym (ap (bytes_of form m) was_done);
      count = ap (λ d. length (option_to_list d)) some ∙ sym (ap count_of was_done);
      suits = λ later all.
          let both = subst (λ o. All (SuitsForm form) (option_to_list o ++ later)) some all in
          (subst (SuitsIfDone form m) (sym was_done) (asked.suits (All-head (SuitsForm form) d later both)), All-tail (SuitsForm form) d later both);
      suited = λ later this all.
          subst (λ o. All (SuitsForm form) (option_to_list o ++ later)) (sym some)
          (All-cons (SuitsForm form) d later (asked.suited (subst (SuitsIfDone form m) was_done this)) all);
      numbers = ap numbers_of same ∙ numbers ∙ sym (ap (numbers_after (numbers_of st) c) was_done);
    }
  where
    numbers : numbers_of (done st d) ≡ numbers_after (numbers_of st) c (Some w)
    numbers = λ i. record {
      last = λ k. (
          ap latest_in (get_inserted st.book (client_of d) (number_of d, reply_of_deed st [] d) k)
          ∙ latest_of_cond (k == client_of d) (number_of d, reply_of_deed st [] d) (get st.book k)
          ∙ ap (λ x. cond (k == x) (number_of d, is_left (reply_of_deed st [] d)) (latest_of st k)) asked.client
          ∙ ap (λ x. cond (k == c) (x, is_left (reply_of_deed st [] d)) (latest_of st k)) asked.number
          ∙ ap (λ x. cond (k == c) (w.n, x) (latest_of st k)) asked.leave
          ) i;
      clients = (len_kept st (client_of d) (number_of d, reply_of_deed st [] d) is ∙ ap (λ k. len st.book + cond (last_number st k == 0) 1 0) asked.client) i;
      next = asked.next i;
    }

-- ---- histories

-- What the first of several messages comes to.
first_told : (form : Form) (st mid : State) (soft : Soft) (c : ℕ) (m : Message) (first : Answer)
    → IsState st → IsStep st soft c m first mid → IsTold form st c m first.deed mid
first_told form st mid soft c m first is step =
    told_of form st mid c m first.deed is step.state_is (outcome_of form st c soft m first (course_of st soft c m first step.answer))

-- The bytes of all deeds that messages lead to.
pub all_bytes : (form : Form) (st : State) (soft : Soft) (ms : List (ℕ × Message)) (all : History) → IsState st
    → Happens st soft (comings ms) all → length (payload form all.deeds) ≡ bytes_from form (numbers_of st) ms
all_bytes form st soft [] all is happens = ap (λ (h : History). length (payload form h.deeds)) happens
all_bytes form st soft (m ∷ ms) all is happens =
    let first : Answer = happens.0 in
    let mid : State = happens.1.0 in
    let later : History = happens.1.1.0 in
    let step : IsStep st soft m.0 m.1 first mid = happens.1.1.1.0 in
    let told = first_told form st mid soft m.0 m.1 first is step in
    let rest = all_bytes form mid first.soft ms later (step_state st mid soft m.0 m.1 first is step) happens.1.1.1.1.0 in
    ap (λ (h : History). length (payload form h.deeds)) happens.1.1.1.1.1
    ∙ ap length (flat_map-append (spell_deed form) (option_to_list first.deed) later.deeds)
    ∙ length-append (payload form (option_to_list first.deed)) (payload form later.deeds)
    ∙ ap (λ n. n + length (payload form later.deeds)) told.bytes
    ∙ ap (λ n. bytes_of form m.1 (done_of (numbers_of st) m.0 m.1) + n) (rest ∙ ap (λ ns. bytes_from form ns ms) told.numbers)

-- How many deeds messages lead to.
pub all_deeds : (st : State) (soft : Soft) (ms : List (ℕ × Message)) (all : History) → IsState st
    → Happens st soft (comings ms) all → length all.deeds ≡ count_from (numbers_of st) ms
all_deeds st soft [] all is happens = ap (λ (h : History). length h.deeds) happens
all_deeds st soft (m ∷ ms) all is happens =
    let first : Answer = happens.0 in
    let mid : State = happens.1.0 in
    let later : History = happens.1.1.0 in
    let step : IsStep st soft m.0 m.1 first mid = happens.1.1.1.0 in
    let told = first_told One st mid soft m.0 m.1 first is step in
    let rest = all_deeds mid first.soft ms later (step_state st mid soft m.0 m.1 first is step) happens.1.1.1.1.0 in
    ap (λ (h : History). length h.deeds) happens.1.1.1.1.1
    ∙ length-append (option_to_list first.deed) later.deeds
    ∙ ap (λ n. n + length later.deeds) told.count
    ∙ ap (λ n. count_of (done_of (numbers_of st) m.0 m.1) + n) (rest ∙ ap (λ ns. count_from ns ms) told.numbers)

-- If all of these deeds have a spelling in the form, so has what is done of the messages;
pub all_suit : (form : Form) (st : State) (soft : Soft) (ms : List (ℕ × Message)) (all : History) → IsState st
    → Happens st soft (comings ms) all → All (SuitsForm form) all.deeds → AllSuit form (numbers_of st) ms
all_suit form st soft [] all is happens suit = tt
all_suit form st soft (m ∷ ms) all is happens suit =
    let first : Answer = happens.0 in
    let mid : State = happens.1.0 in
    let later : History = happens.1.1.0 in
    let step : IsStep st soft m.0 m.1 first mid = happens.1.1.1.0 in
    let told = first_told form st mid soft m.0 m.1 first is step in
    let both = told.suits later.deeds (subst (λ (h : History). All (SuitsForm form) h.deeds) happens.1.1.1.1.1 suit) in
    let rest = all_suit form mid first.soft ms later (step_state st mid soft m.0 m.1 first is step) happens.1.1.1.1.0 both.1 in
    (both.0, subst (λ ns. AllSuit form ns ms) told.numbers rest)

-- and the other way round.
pub suit_all : (form : Form) (st : State) (soft : Soft) (ms : List (ℕ × Message)) (all : History) → IsState st
    → Happens st soft (comings ms) all → AllSuit form (numbers_of st) ms → All (SuitsForm form) all.deeds
suit_all form st soft [] all is happens suit = subst (λ (h : History). All (SuitsForm form) h.deeds) (sym happens) (All-nil (SuitsForm form))
suit_all form st soft (m ∷ ms) all is happens suit =
    let first : Answer = happens.0 in
    let mid : State = happens.1.0 in
    let later : History = happens.1.1.0 in
    let step : IsStep st soft m.0 m.1 first mid = happens.1.1.1.0 in
    let told = first_told form st mid soft m.0 m.1 first is step in
    let rest = suit_all form mid first.soft ms later (step_state st mid soft m.0 m.1 first is step) happens.1.1.1.1.0
    (subst (λ ns. AllSuit form ns ms) (sym told.numbers) suit.1) in
    subst (λ (h : History). All (SuitsForm form) h.deeds) (sym happens.1.1.1.1.1) (told.suited later.deeds suit.0 rest)

-- What was counted of messages is what their deeds need.
need_is : (form : Form) (st : State) (soft : Soft) (ms : List (ℕ × Message)) (o : Option Need) (all : History) → IsState st → Happens st soft (comings ms) all
    → IfSome o (λ (n : Need). n.bytes ≡ bytes_from form (numbers_of st) ms)
    → IfSome o (λ (n : Need). n.deeds ≡ count_from (numbers_of st) ms) → IfSome o (λ (n : Need). AllSuit form (numbers_of st) ms)
    → IfNone o (AllSuit form (numbers_of st) ms → ⊥) → IsNeedOf form all.deeds o
need_is form st soft ms None all is happens bytes deeds suit none = λ suits. none (all_suit form st soft ms all is happens suits)
need_is form st soft ms (Some need) all is happens bytes deeds suit none = (
  deeds ∙ sym (all_deeds st soft ms all is happens),
  bytes ∙ sym (all_bytes form st soft ms all is happens),
  suit_all form st soft ms all is happens suit,
)

-- So it is of a state that is the same.
pub need_in : (form : Form) (inside st : State) (soft : Soft) (ms : List (ℕ × Message)) (o : Option Need) (all : History)
    → inside ≡ st → IsState inside → Happens st soft (comings ms) all
    → IfSome o (λ (n : Need). n.bytes ≡ bytes_from form (numbers_of inside) ms) → IfSome o (λ (n : Need). n.deeds ≡ count_from (numbers_of inside) ms)
    → IfSome o (λ (n : Need). AllSuit form (numbers_of inside) ms) → IfNone o (AllSuit form (numbers_of inside) ms → ⊥) → IsNeedOf form all.deeds o
need_in form inside st soft ms o all same is happens = need_is form inside soft ms o all is (subst (λ s. Happens s soft (comings ms) all) (sym same) happens)
