-- Promises of states, deeds and steps, in terms of a program that hands out jobs.
use Rattle.std.specs.Prelude.{◌≡◌, ◌≢◌, ℕ, false, List, ◌∷◌, All, Some, None}
use Rattle.std.specs.FinMap as map
use Rattle.linda_hold.specs.declared.request.Request.{Request}
use Rattle.linda_hold.specs.Request.{request_of}
use Rattle.linda_hold.specs.Waits.{is_waiting}
use Rattle.linda_hold.specs.Holds.{IsHeldAt}
use Rattle.linda_wire.specs.declared.refusal.Refusal.TheVariants as refusals
use Rattle.linda_wire.specs.declared.reply.Reply.{Reply}
use Rattle.linda_wire.specs.declared.reply.Reply.TheVariants as replies
use Rattle.linda_wire.specs.Refusal.{refused}
use Rattle.linda_store_state.specs.declared.deed.Deed.{Deed}
use Rattle.linda_store_state.specs.Deed.{client_of}
use Rattle.linda_book.specs.Entries.{Entry}
use Rattle.linda_store_state.specs.Once.{IsTakenOnce}
use Rattle.linda_store_state.specs.State.{State}
use Rattle.linda_store_step.specs.Soft.{Soft, OfAsking}
use Rattle.linda_store_state.specs.After.{IsAfter}
use Rattle.linda_store_state.specs.Proper.{IsProper}
use Rattle.linda_store_step.specs.Answer.{Answer, last_number, only_reply, reply_of_kept}
use Rattle.linda_store_step.specs.History.{History}
use Rattle.linda_store_step.specs.Dispatch.{Sends}
use Rattle.linda_store_step.specs.Store.{IsOrderly}

-- The first thing that is sent goes to the client, and it is the reply that the book keeps for it.
pub record IsAnsweredAsKept (c : ℕ) (sends : List (ℕ × Reply)) (st : State) : Type 0 where
  pub entry : Entry
  pub others : List (ℕ × Reply)
  pub kept : map.get st.book c ≡ Some entry
  pub first : sends ≡ (c, reply_of_kept entry.0 entry.1) ∷ others

-- A history from a state: the deeds are a proper list, the server is in the state after them and in
-- order, and no tuple was taken by two of them.
pub record IsSafe (st : State) (all : History) : Type 0 where
  pub proper : IsProper st all.deeds
  pub after : IsAfter st all.deeds all.state
  pub orderly : IsOrderly all.state all.soft
  pub once : IsTakenOnce all.deeds

-- A message that is answered again: it gets the reply that it got first, and nothing else is done
-- or sent.
pub record IsAnsweredAgain (c : ℕ) (first again : Answer) (soft : Soft) : Type 0 where
  pub reply : Reply
  pub others : List (ℕ × Reply)
  pub first_is : first.sends ≡ (c, reply) ∷ others
  pub again_is : again ≡ only_reply c reply soft

-- A request is over: it neither waits nor holds.
abbrev pub IsOver : Request → Soft → Type 0
IsOver request soft = (is_waiting request soft.waits ≡ false) × IsHeldAt soft.holds request None

-- A client has left: all its requests are over, and nothing was sent to it.
pub record IsClosed (client : ℕ) (told : Sends) : Type 0 where
  pub requests : (ticket : ℕ) → IsOver (request_of client ticket) told.soft
  pub silent : All (λ (send : ℕ × Reply). send.0 ≢ client) told.sends

-- What is sent to a client that left by this number: for its requests the reply to its Leave, or a
-- refusal because the number is an older one or because the client left; for a Hello what any
-- client with this last number gets.
pub data LastWord (last : ℕ) : Reply → Type 0 where
  left_again : LastWord last (replies.Left last)
  is_older : LastWord last (refused (refusals.Old last))
  was_last : LastWord last (refused (refusals.Left last))
  speaks_other : LastWord last (refused refusals.Version)
  is_known : LastWord last (refused (refusals.Known last))
  is_welcome : LastWord last (replies.Welcome last)

-- A client that had left in the first state, after all that came: what is kept for it is the same,
-- no deed is its own, it holds nothing and does not wait, and only last words were sent to it.
pub record IsAway (st : State) (c : ℕ) (all : History) : Type 0 where
  pub kept : map.get all.state.book c ≡ map.get st.book c
  pub deeds : All (λ (d : Deed). client_of d ≢ c) all.deeds
  pub asks : OfAsking (λ k. k ≢ c) all.soft
  pub sends : All (λ (send : ℕ × Reply). send.0 ≡ c → LastWord (last_number st c) send.1) all.sends
