-- A step and a closing as moves of a few kinds, so that what holds of each kind holds of all that a server does.
use Rattle.std.proofs.Common.{◌≡◌, ℕ, ◌-◌, ◌≤◌, Bool, true, false, true≢false, cond, not, ◌&&◌, ◌==◌, nat_lt, List, []}
use Rattle.std.proofs.Common.{◌∷◌, ◌++◌, Option, Some, None, option_to_list, slice_get, All, Contains, refl, sym, ap}
use Rattle.std.proofs.Common.{◌∙◌, subst, arith}
use Rattle.std.specs.Prelude.{nat_le}
use Rattle.std.proofs.lemmas.Option.{none-some}
use Rattle.std.proofs.lemmas.List.Elements.{All-contains_itself, All-filter}
use Rattle.std.specs.FinMap.{get, insert, remove, entries}
use Rattle.linda_tuple.specs.Tuple.{Tuple}
use Rattle.linda_tuple.specs.Template.{Template}
use Rattle.linda_tuple.specs.Matching.{is_match}
use Rattle.linda_bag.specs.FreeMatch.{IsFreeMatch}
use Rattle.linda_hold.specs.declared.request.Request.{Request}
use Rattle.linda_hold.specs.Request.{request_of}
use Rattle.linda_hold.specs.Waits.{Wait, is_waiting, without_client}
use Rattle.linda_hold.specs.Holds.{IsHeldAt, held_in}
use Rattle.linda_wire.specs.declared.limits.TheConstants.{MAX_ASKS, VERSION}
use Rattle.linda_wire.specs.declared.message.Message.{Message}
use Rattle.linda_wire.specs.declared.message.Message.TheVariants as messages
use Rattle.linda_wire.specs.declared.refusal.Refusal.TheVariants as refusals
use Rattle.linda_wire.specs.Refusal.{refused}
use Rattle.linda_wire.specs.declared.reply.Reply.{Reply}
use Rattle.linda_wire.specs.declared.reply.Reply.TheVariants as replies
use Rattle.linda_book.specs.declared.kept_reply.KeptReply.{KeptReply}
use Rattle.linda_book.specs.declared.kept_reply.KeptReply.TheVariants as kept
use Rattle.linda_store_state.specs.declared.deed.Deed.TheVariants as deeds
use Rattle.linda_store_state.specs.State.{State, IsState}
use Rattle.linda_store_state.specs.After.{IsAfter}
use Rattle.linda_store_state.proofs.AfterLaws.{none_after, one_after, new_id}
use Rattle.linda_store_state.proofs.DoneLaws.{done, done_after}
use Rattle.linda_store_step.specs.Judge.{to_put, to_take, to_leave, demand_of}
use Rattle.linda_store_step.specs.Soft.{Soft, Bagged, open_asks}
use Rattle.linda_store_step.specs.Looking.{IsLeast, passed_over}
use Rattle.linda_store_step.specs.Dispatch.{Sends, no_sends, dispatch, release, release_tuple, release_if, release_all, on_cancel, on_close}
use Rattle.linda_store_step.specs.Asking.{offer_of, read_of, only_sent, wait_of, serve, on_ask, AnswersCancel}
use Rattle.linda_store_step.specs.Answer.{Answer, only_sends, greeting, reply_of_kept, has_left, last_number, is_one_too_many, SaysAsk, IsAnswer, IsStep}
use Rattle.linda_store_step.specs.History.{Coming, says}
use Rattle.linda_store_step.proofs.AnswerCourse.{Course, unnumbered, turned_down, told_again, stored, taken, passed, left, course_of}
use Rattle.linda_store_step.proofs.AnswerLaws.{held_there}
use Rattle.linda_store_step.proofs.ApartLaws.{held_before}
use Rattle.linda_store_step.proofs.KeptLaws.{IsKeptFor, stored_kept, taken_kept, passed_kept, left_kept}
use Rattle.linda_store_step.specs.Offers.{IsAskOf, is_offer}
use Rattle.linda_store_step.specs.Replies.{reports_deed, KeepsReply}

-- Nothing more is held, and nobody else waits.
pub record IsLess (old new : Soft) : Type 0 where
  pub holds : (id : ℕ) (request : Request) → get new.holds id ≡ Some request → get old.holds id ≡ Some request
  pub waits : All (Contains old.waits) new.waits

-- The moves: something is given up; a reply that is no offer, of which so much is known; a tuple of the bag is
-- dispatched; an offer is made again; a read is answered; an input is offered its first match; a request begins to wait;
-- and one move after the other.
pub data Move (Known : ℕ → Reply → Type 0) (bag : Bagged) (x : Coming) : Soft → Sends → Type 0 where
  gives_up : (old new : Soft) → IsLess old new → Move Known bag x old (no_sends new)
  tells : (old : Soft) (c : ℕ) (r : Reply) → is_offer r ≡ false → Known c r → Move Known bag x old (only_sent ((c, r) ∷ []) old)
  dispatches : (old : Soft) (id : ℕ) (tuple : Tuple) → get bag id ≡ Some tuple → Move Known bag x old (dispatch id tuple old)
  repeats : (old : Soft) (id : ℕ) (request : Request) → get old.holds id ≡ Some request → Move Known bag x old (only_sent (offer_of bag id request) old)
  reads : (old : Soft) (id : ℕ) (request : Request) → Move Known bag x old (only_sent (read_of bag id request) old)
  offers : (old : Soft) (id : ℕ) (w : Wait) (tuple : Tuple) → IsAskOf x w → w.1.remove ≡ true → get bag id ≡ Some tuple → is_match w.1.template tuple ≡ true
      → Move Known bag x old (record { sends = offer_of bag id w.0; soft = record { holds = insert old.holds id w.0; waits = old.waits } })
  waits : (old : Soft) (w : Wait) → IsAskOf x w → Move Known bag x old (no_sends (record { holds = old.holds; waits = old.waits ++ w ∷ [] }))
  goes_on : (old : Soft) (first later : Sends) → Move Known bag x old first → Move Known bag x first.soft later
      → Move Known bag x old (record { sends = first.sends ++ later.sends; soft = later.soft })

module _ (Known : ℕ → Reply → Type 0) (bag : Bagged) (x : Coming) where
  stays : (old : Soft) → Move Known bag x old (no_sends old)
  stays old = gives_up old old (record { holds = λ id request h. h; waits = All-contains_itself old.waits })

  fewer : (p : Wait → Bool) (old : Soft) → Move Known bag x old (no_sends (record { holds = old.holds; waits = Rattle.std.specs.List.filter p old.waits }))
  fewer p old = gives_up old _ (record { holds = λ id request h. h; waits = All-filter p (Contains old.waits) old.waits (All-contains_itself old.waits) })

  either : (old : Soft) (b : Bool) (first other : Sends) → Move Known bag x old first → Move Known bag x old other → Move Known bag x old (cond b first other)
  either old true first other h k = h
  either old false first other h k = k

  -- ---- what is free again

  tuple_released : (old : Soft) (id : ℕ) (o : Option Tuple) → get bag id ≡ o → Move Known bag x old (release_tuple id o old)
  tuple_released old id None there = stays old
  tuple_released old id (Some tuple) there =
      let mid : Soft = record { holds = remove old.holds id; waits = old.waits } in
      goes_on old (no_sends mid) (dispatch id tuple mid)
      (gives_up old mid (record { holds = held_before old.holds id; waits = All-contains_itself old.waits })) (dispatches mid id tuple there)

  released : (old : Soft) (id : ℕ) → Move Known bag x old (release bag id old)
  released old id = tuple_released old id (get bag id) refl

  released_if : (old : Soft) (o : Option ℕ) → Move Known bag x old (release_if bag o old)
  released_if old None = stays old
  released_if old (Some id) = released old id

  all_released : (old : Soft) (ids : List ℕ) → Move Known bag x old (release_all bag ids old)
  all_released old [] = stays old
  all_released old (id ∷ ids) = goes_on old (release bag id old) (release_all bag ids (release bag id old).soft)
      (released old id) (all_released (release bag id old).soft ids)

  -- A client that is closed.
  pub close_move : (client : ℕ) (old : Soft) → Move Known bag x old (on_close bag client old)
  close_move client old =
      let mid : Soft = record { holds = old.holds; waits = without_client client old.waits } in
      goes_on old (no_sends mid) (release_all bag (held_in client (entries old.holds)) mid) (fewer _ old)
      (all_released mid (held_in client (entries old.holds)))

  -- A request that is given up.
  cancel_move : (request : Request) (held : Option ℕ) (old : Soft) → Move Known bag x old (on_cancel bag request held old)
  cancel_move request held old = either old (is_waiting request old.waits) _ (release_if bag held old) (fewer _ old) (released_if old held)

  -- ---- what is asked

  module _ (c ticket : ℕ) (remove : Bool) (shape : Template) (x_is : IsAskOf x (wait_of (request_of c ticket) remove shape))
      (known : Known c (refused (refusals.TooManyAsks ticket))) (old : Soft) where
    found : (b : Bool) → remove ≡ b → (id : ℕ) → IsFreeMatch bag shape (passed_over b old.holds) id
        → Move Known bag x old (serve bag (request_of c ticket) b shape (Some id) old)
    found true is id free =
        offers old id (wait_of (request_of c ticket) remove shape) free.row x_is is free.stored free.matches
    found false is id free = reads old id (request_of c ticket)

    serve_move : (least : Option ℕ) → IsLeast bag shape (passed_over remove old.holds) least
        → Move Known bag x old (serve bag (request_of c ticket) remove shape least old)
    serve_move None is = waits old (wait_of (request_of c ticket) remove shape) x_is
    serve_move (Some id) is = found remove refl id is.0

    ask_move : (held least : Option ℕ) → IsHeldAt old.holds (request_of c ticket) held → IsLeast bag shape (passed_over remove old.holds) least
        → Move Known bag x old (on_ask bag (request_of c ticket) remove shape held least old)
    ask_move (Some id) least is_held is_least = repeats old id (request_of c ticket) is_held
    ask_move None least is_held is_least =
        either old (is_waiting (request_of c ticket) old.waits) (no_sends old) _ (stays old)
        (either old (nat_le MAX_ASKS (open_asks c old)) _ (serve bag (request_of c ticket) remove shape least old)
        (tells old c (refused (refusals.TooManyAsks ticket)) refl known) (serve_move least is_least))

-- ---- what is sent without a deed

-- a reply that neither offers a tuple nor reports a deed
abbrev IsPlain : Reply → Type 0
IsPlain r = (is_offer r ≡ false) × (reports_deed r ≡ false)

plain_if : (b : Bool) (r s : Reply) → IsPlain r → IsPlain s → IsPlain (cond b r s)
plain_if true r s h k = h
plain_if false r s h k = k

plain_greeting : (st : State) (c version : ℕ) (fresh : Bool) → IsPlain (greeting st c version fresh)
plain_greeting st c version fresh =
    plain_if (not (version == VERSION)) _ _ (refl, refl)
    (plain_if (fresh && nat_lt 0 (last_number st c)) _ _ (refl, refl)
    (plain_if (is_one_too_many st c) _ (replies.Welcome (last_number st c)) (refl, refl) (refl, refl)))

kept_is_no_offer : (n : ℕ) (k : KeptReply) → is_offer (reply_of_kept n k) ≡ false
kept_is_no_offer n (kept.Stored id) = refl
kept_is_no_offer n (kept.Taken id tuple) = refl
kept_is_no_offer n kept.Gone = refl
kept_is_no_offer n kept.Left = refl

-- ---- steps

-- what is known of the replies of a step: the book of the new state has what they report
abbrev pub KnownIn : State → ℕ → Reply → Type 0
KnownIn new c r = reports_deed r ≡ true → KeepsReply new c r

module _ (st new : State) (c : ℕ) (old : Soft) (is : IsState st) where
  abbrev MoveOf : Message → Answer → Type 0
  MoveOf m a = Move (KnownIn new) new.bag (says c m) old (record { sends = a.sends; soft = a.soft })

  same_state : IsAfter st [] new → st ≡ new
  same_state after = one_after st [] st new (none_after st is) after

  plain_known : (r : Reply) → IsPlain r → KnownIn new c r
  plain_known r plain reports = absurd (true≢false (sym reports ∙ plain.1))

  same_head : (r s : ℕ × Reply) (rs ss : List (ℕ × Reply)) → r ∷ rs ≡ s ∷ ss → r ≡ s
  same_head r s rs ss same = cc

  -- the first thing that is sent is what the book has
  first_known : (n : ℕ) (r : Reply) (others : List (ℕ × Reply)) → IsKeptFor c n ((c, r) ∷ others) new → KnownIn new c r
  first_known n r others k reports = record {
    entry = (n, k.reply);
    kept = k.kept;
    reply = ap (λ (s : ℕ × Reply). s.1) (same_head (c, r) (c, reply_of_kept n k.reply) others k.others k.first);
  }

  put_there : (n : ℕ) (tuple : Tuple) → IsAfter st (deeds.Out c n tuple ∷ []) new → get new.bag st.next ≡ Some tuple
  put_there n tuple after =
      let none_before : st.next - st.next ≡ 0 = omega arith in
      let low : st.next ≤ st.next = omega arith in
      after.bag st.next ∙ new_id st (deeds.Out c n tuple ∷ []) st.next refl low ∙ ap (slice_get (tuple ∷ [])) none_before

  -- a Leave leaves the bag as it was
  same_bag : (n : ℕ) → IsAfter st (deeds.Leave c n ∷ []) new → new.bag ≡ st.bag
  same_bag n after = ap (λ (s : State). s.bag) (one_after st (deeds.Leave c n ∷ []) new (done st (deeds.Leave c n)) after (done_after st (deeds.Leave c n) is))

  -- if no deed is done, a reply that is known in the old state is known in the new one, which is the same
  same_known : (r : Reply) → KnownIn st c r → IsAfter st [] new → KnownIn new c r
  same_known r known after reports = subst (λ s. KeepsReply s c r) (same_state after) (known reports)

  -- if no deed is done, a move over the old bag is one over the new bag, which is the same
  told_move : (m : Message) (told : Sends) → Move (KnownIn new) st.bag (says c m) old told → IsAfter st [] new → Move (KnownIn new) new.bag (says c m) old told
  told_move m told move after = subst (λ (s : State). Move (KnownIn new) s.bag (says c m) old told) (same_state after) move

  said_move : (gone : Bool) (ticket : ℕ) (remove : Bool) (shape : Template) (told : Sends)
      → SaysAsk gone st c ticket remove shape old told → Move (KnownIn new) st.bag (says c (messages.Ask ticket remove shape)) old told
  said_move true ticket remove shape told same =
      let r = refused (refusals.Left (last_number st c)) in
      subst (Move (KnownIn new) st.bag (says c (messages.Ask ticket remove shape)) old) (sym same) (tells old c r refl (plain_known r (refl, refl)))
  said_move false ticket remove shape told asked =
      subst (Move (KnownIn new) st.bag (says c (messages.Ask ticket remove shape)) old) (sym asked.told_is)
      (ask_move (KnownIn new) st.bag _ c ticket remove shape refl
      (plain_known (refused (refusals.TooManyAsks ticket)) (refl, refl)) old asked.held asked.least asked.is_held asked.is_least)

  sent_move : (m : Message) (told : Sends) → demand_of m ≡ None → IsAnswer st old c m (only_sends told) → Move (KnownIn new) st.bag (says c m) old told
  sent_move (messages.Hello version client fresh) told none answer =
      let plain = plain_greeting st c version fresh in
      subst (λ (a : Answer). Move (KnownIn new) st.bag (says c (messages.Hello version client fresh)) old (record { sends = a.sends; soft = a.soft }))
      (sym answer)
      (tells old c (greeting st c version fresh) plain.0 (plain_known (greeting st c version fresh) plain))
  sent_move (messages.Ask ticket remove shape) told none answer =
      subst (λ (a : Answer). Move (KnownIn new) st.bag (says c (messages.Ask ticket remove shape)) old (record { sends = a.sends; soft = a.soft }))
      (sym answer.1.1)
      (said_move (has_left st c) ticket remove shape answer.0 answer.1.0)
  sent_move (messages.Cancel ticket) told none answer =
      let asked : AnswersCancel st.bag (request_of c ticket) old answer.0 = answer.1.0 in
      subst (λ (a : Answer). Move (KnownIn new) st.bag (says c (messages.Cancel ticket)) old (record { sends = a.sends; soft = a.soft }))
      (sym (answer.1.1 ∙ ap only_sends asked.told_is))
      (cancel_move (KnownIn new) st.bag _ (request_of c ticket) asked.held old)
  sent_move (messages.Out n tuple) told some answer = absurd (none-some (to_put n) (sym some))
  sent_move (messages.Accept n ticket id) told some answer = absurd (none-some (to_take n) (sym some))
  sent_move (messages.Leave n) told some answer = absurd (none-some (to_leave n) (sym some))

  moved : (m : Message) (a : Answer) → Course st old c m a → IsAfter st (option_to_list a.deed) new → MoveOf m a
  moved _ _ (unnumbered m told none answer) after = told_move m told (sent_move m told none answer) after
  moved _ _ (turned_down m d why asked verdict) after = tells old c (refused why) refl (plain_known (refused why) (refl, refl))
  moved _ _ (told_again m d reply asked verdict kept) after =
      tells old c (reply_of_kept d.n reply) (kept_is_no_offer d.n reply)
      (same_known (reply_of_kept d.n reply) (λ reports. record { entry = (d.n, reply); kept = kept; reply = refl }) after)
  moved _ _ (stored n tuple none) after =
      goes_on old (only_sent ((c, replies.Stored n st.next) ∷ []) old) (dispatch st.next tuple old)
      (tells old c (replies.Stored n st.next) refl (first_known n (replies.Stored n st.next) _ (stored_kept st new c is n tuple old after)))
      (dispatches old st.next tuple (put_there n tuple after))
  moved _ _ (taken n ticket id row none held) after =
      let mid : Soft = record { holds = remove old.holds id; waits = old.waits } in
      goes_on old (no_sends mid) (only_sent ((c, replies.Taken n id row) ∷ []) mid)
      (gives_up old mid (record { holds = held_before old.holds id; waits = All-contains_itself old.waits }))
      (tells mid c (replies.Taken n id row) refl
      (first_known n (replies.Taken n id row) [] (taken_kept st new c is n id row (held_there st (request_of c ticket) id old row held) after)))
  moved _ _ (passed n ticket id none held) after = tells old c (replies.Gone n) refl (first_known n (replies.Gone n) [] (passed_kept st new c is n id after))
  moved _ _ (left n none) after =
      goes_on old (only_sent ((c, replies.Left n) ∷ []) old) (on_close st.bag c old)
      (tells old c (replies.Left n) refl (first_known n (replies.Left n) _ (left_kept st new c is n old after)))
      (subst (λ bag. Move (KnownIn new) new.bag (says c (messages.Leave n)) old (on_close bag c old))
      (same_bag n after) (close_move (KnownIn new) new.bag (says c (messages.Leave n)) c old))

  -- Each step is a move.
  pub step_move : (m : Message) (answered : Answer) → IsStep st old c m answered new → MoveOf m answered
  step_move m answered step = moved m answered (course_of st old c m answered step.answer) step.state_is
