-- Answer of a server to one message: the deed, if it does one, what it sends, and what it holds and
-- lets wait.
use Rattle.std.specs.Prelude.{◌≡◌, ℕ, Bool, ◌==◌, true, false, nat_lt, not, ◌&&◌, if◌then◌else◌}
use Rattle.std.specs.Prelude.{List, [], ◌∷◌, Option, Some, None, option_to_list}
use Rattle.std.specs.FinMap as map
use Rattle.std.specs.Option.{option_map}
use Rattle.linda_hold.specs.declared.request.Request.{Request}
use Rattle.linda_hold.specs.Request.{request_of, same_request}
use Rattle.linda_wire.specs.declared.limits.TheConstants.{VERSION}
use Rattle.linda_wire.specs.Refusal.{refused}
use Rattle.linda_wire.specs.declared.refusal.Refusal.TheVariants as refusals
use Rattle.linda_tuple.specs.Tuple.{Tuple}
use Rattle.linda_tuple.specs.Template.{Template}
use Rattle.linda_wire.specs.declared.message.Message.{Message}
use Rattle.linda_wire.specs.declared.message.Message.TheVariants as messages
use Rattle.linda_wire.specs.declared.reply.Reply.{Reply}
use Rattle.linda_wire.specs.declared.reply.Reply.TheVariants as replies
use Rattle.linda_book.specs.declared.kept_reply.KeptReply.{KeptReply}
use Rattle.linda_book.specs.declared.kept_reply.KeptReply.TheVariants as kept
use Rattle.linda_book.specs.Entries.{Entry, left_in, number_in}
use Rattle.linda_store_state.specs.declared.deed.Deed.{Deed}
use Rattle.linda_store_state.specs.declared.deed.Deed.TheVariants as deeds
use Rattle.linda_store_state.specs.State.{State}
use Rattle.linda_store_state.specs.After.{IsAfter}
use Rattle.linda_store_step.specs.declared.judge.Demand.{Demand}
use Rattle.linda_store_step.specs.declared.judge.Standing.{Standing}
use Rattle.linda_store_step.specs.declared.judge.Verdict.{Verdict}
use Rattle.linda_store_step.specs.declared.judge.Verdict.TheVariants.{Refused, Repeated, Done}
use Rattle.linda_store_step.specs.Judge.{to_put, to_take, to_leave, demand_of, has_no_place, judge}
use Rattle.linda_store_step.specs.Soft.{Soft}
use Rattle.linda_store_step.specs.Dispatch.{Sends, dispatch, on_close}
use Rattle.linda_store_step.specs.Asking.{AnswersAsk, AnswersCancel, only_sent}

-- A deed or none; the replies with the clients that they go to, in order; and the holds and waits
-- after it.
pub record Answer : Type 0 where
  pub deed : Option Deed
  pub sends : List (ℕ × Reply)
  pub soft : Soft

-- no deed
abbrev pub only_sends : Sends → Answer
only_sends told = record { deed = None; sends = told.sends; soft = told.soft }

-- only a reply to the client
abbrev pub only_reply : ℕ → Reply → Soft → Answer
only_reply c reply soft = record { deed = None; sends = (c, reply) ∷ []; soft = soft }

-- a kept reply as it goes to the client, with the number that it answers
abbrev pub reply_of_kept : ℕ → KeptReply → Reply
reply_of_kept n (kept.Stored id) = replies.Stored n id
reply_of_kept n (kept.Taken id tuple) = replies.Taken n id tuple
reply_of_kept n kept.Gone = replies.Gone n
reply_of_kept n kept.Left = replies.Left n

-- the number that is kept for the client, 0 if there is none
abbrev pub last_number : State → ℕ → ℕ
last_number st c = number_in (map.get st.book c)

-- whether the client left
abbrev pub has_left : State → ℕ → Bool
has_left st c = left_in (map.get st.book c)

-- what a verdict on the client's message depends on
abbrev pub standing_of : State → ℕ → Standing
standing_of st c =
    record {
      last = last_number st c;
      left = has_left st c;
      clients = map.len st.book;
      next = st.next;
    }

-- whether the client is new and no more clients are kept
abbrev pub is_one_too_many : State → ℕ → Bool
is_one_too_many st c = has_no_place (standing_of st c)

-- The reply to a Hello: the first case that holds.
abbrev pub greeting : State → ℕ → ℕ → Bool → Reply
greeting st c version fresh =
    if not (version == VERSION) then (refused refusals.Version)
    else (if fresh && nat_lt 0 (last_number st c) then (refused (refusals.Known (last_number st c)))
    else (if is_one_too_many st c then (refused refusals.TooManyClients)
    else replies.Welcome (last_number st c)))

-- the reply to the client's message of this number, by its verdict; none if its deed is done
abbrev pub reply_by : State → ℕ → ℕ → Verdict → Option Reply
reply_by st c n (Refused refusal) = Some (refused refusal)
reply_by st c n Repeated = option_map (λ (e : Entry). reply_of_kept n e.1) (map.get st.book c)
reply_by st c n Done = None

-- The reply to a numbered message that makes no deed; none if its deed is done.
abbrev pub without_deed : State → ℕ → Demand → Option Reply
without_deed st c d = reply_by st c d.n (judge d (standing_of st c))

-- the reply to a demand that makes no deed; none if there is no demand, or if its deed is done
abbrev pub reply_to_demand : State → ℕ → Option Demand → Option Reply
reply_to_demand st c None = None
reply_to_demand st c (Some d) = without_deed st c d

-- the reply to a numbered message that makes no deed; none if the message bears no number, or if
-- its deed is done
abbrev pub reply_to_numbered : State → ℕ → Message → Option Reply
reply_to_numbered st c m = reply_to_demand st c (demand_of m)

abbrev pub out_without_deed : State → ℕ → ℕ → Option Reply
out_without_deed st c n = without_deed st c (to_put n)

abbrev pub accept_without_deed : State → ℕ → ℕ → Option Reply
accept_without_deed st c n = without_deed st c (to_take n)

abbrev pub leave_without_deed : State → ℕ → ℕ → Option Reply
leave_without_deed st c n = without_deed st c (to_leave n)

-- The answer to an Out, given the reply if it makes no deed. If it does, the tuple is put under the
-- next id, and the client's reply comes before those to others.
abbrev pub on_out : State → ℕ → ℕ → Tuple → Option Reply → Soft → Answer
on_out st c n tuple (Some reply) soft = only_reply c reply soft
on_out st c n tuple None soft =
    let told : Sends = dispatch st.next tuple soft in
    record {
      deed = Some (deeds.Out c n tuple);
      sends = (c, replies.Stored n st.next) ∷ told.sends;
      soft = told.soft;
    }

-- whether this is the request that a tuple is held for
abbrev pub is_for : Request → Option Request → Bool
is_for request None = false
is_for request (Some other) = same_request other request

-- the tuple under this id, if it is held for this request
abbrev pub held_tuple : State → Request → ℕ → Soft → Option Tuple
held_tuple st request id soft =
    if is_for request (map.get soft.holds id) then map.get st.bag id else None

-- An accepted offer, given its tuple if it is held for the client: the tuple is taken and its hold
-- is gone; or the offer is gone, and nothing else changes.
abbrev pub take_or_pass : ℕ → ℕ → ℕ → Option Tuple → Soft → Answer
take_or_pass c n id (Some row) soft =
    record {
      deed = Some (deeds.Take c n id);
      sends = (c, replies.Taken n id row) ∷ [];
      soft = record { holds = map.remove soft.holds id; waits = soft.waits };
    }
take_or_pass c n id None soft =
    record { deed = Some (deeds.Pass c n id); sends = (c, replies.Gone n) ∷ []; soft = soft }

-- the answer to an Accept, given the reply if it makes no deed
abbrev pub on_accept : State → ℕ → ℕ → ℕ → ℕ → Option Reply → Soft → Answer
on_accept st c n ticket id (Some reply) soft = only_reply c reply soft
on_accept st c n ticket id None soft =
    take_or_pass c n id (held_tuple st (request_of c ticket) id soft) soft

-- The answer to a Leave, given the reply if it makes no deed. If it does, the client's reply comes
-- first, and then all that it asked is given up, as when its connection ends.
abbrev pub on_leave : State → ℕ → ℕ → Option Reply → Soft → Answer
on_leave st c n (Some reply) soft = only_reply c reply soft
on_leave st c n None soft =
    let told : Sends = on_close st.bag c soft in
    record {
      deed = Some (deeds.Leave c n);
      sends = (c, replies.Left n) ∷ told.sends;
      soft = told.soft;
    }

-- What is sent for an Ask, given whether the client left: if it did, the Ask is refused before
-- anything else is checked.
abbrev pub SaysAsk : Bool → State → ℕ → ℕ → Bool → Template → Soft → Sends → Type 0
SaysAsk true st c ticket remove template soft told =
    told ≡ only_sent ((c, refused (refusals.Left (last_number st c))) ∷ []) soft
SaysAsk false st c ticket remove template soft told =
    AnswersAsk st.bag (request_of c ticket) remove template soft told

-- an answer without a deed that sends what this says
abbrev pub Tells : (Sends → Type 0) → Answer → Type 0
Tells says answered = (told : Sends) × (says told × (answered ≡ only_sends told))

-- The answer to a message of a client.
abbrev pub IsAnswer : State → Soft → ℕ → Message → Answer → Type 0
IsAnswer st soft c (messages.Hello version client fresh) answered =
    answered ≡ only_reply c (greeting st c version fresh) soft
IsAnswer st soft c (messages.Out n tuple) answered =
    answered ≡ on_out st c n tuple (out_without_deed st c n) soft
IsAnswer st soft c (messages.Accept n ticket id) answered =
    answered ≡ on_accept st c n ticket id (accept_without_deed st c n) soft
IsAnswer st soft c (messages.Ask ticket remove template) answered =
    Tells (SaysAsk (has_left st c) st c ticket remove template soft) answered
IsAnswer st soft c (messages.Cancel ticket) answered =
    Tells (AnswersCancel st.bag (request_of c ticket) soft) answered
IsAnswer st soft c (messages.Leave n) answered =
    answered ≡ on_leave st c n (leave_without_deed st c n) soft

-- One step of a server: this is the answer, and the new state is the old one after its deed.
pub record IsStep (st : State) (soft : Soft) (c : ℕ) (m : Message) (answered : Answer) (new : State)
    : Type 0 where
  pub answer : IsAnswer st soft c m answered
  pub state_is : IsAfter st (option_to_list answered.deed) new
