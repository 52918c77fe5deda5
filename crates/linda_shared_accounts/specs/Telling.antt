-- Receipts of messages, by what these led to.
use Rattle.std.specs.Prelude.{◌≡◌, ℕ, List, [], ◌∷◌, ◌++◌, map, drop, Option, Some, None}
use Rattle.std.specs.Prelude.{if◌then◌else◌, option_to_list}
use Rattle.std.specs.List.{slice_get, flat_map}
use Rattle.linda_wire.specs.declared.message.Message.{Message}
use Rattle.linda_wire.specs.declared.reply.Reply.{Reply}
use Rattle.linda_wire.specs.declared.reply.Reply.TheVariants as replies
use Rattle.linda_book.specs.declared.kept_reply.KeptReply.{KeptReply}
use Rattle.linda_book.specs.declared.kept_reply.KeptReply.TheVariants as kept
use Rattle.linda_store_state.specs.declared.deed.Deed.{Deed}
use Rattle.linda_store_state.specs.State.{State}
use Rattle.linda_store_state.specs.Proper.{AreDone}
use Rattle.linda_store_step.specs.Soft.{Soft}
use Rattle.linda_store_step.specs.Answer.{Answer}
use Rattle.linda_store_step.specs.declared.served.StepCounts.{StepCounts}
use Rattle.linda_store_step.specs.Served.{AreAnswered, deeds_of, sends_of}
use Rattle.linda_shared_accounts.specs.declared.receipt.Receipt.{Receipt}
use Rattle.linda_shared_accounts.specs.Receipts.{deeds_in, AreTrue}

-- what is kept of a deed if this reply is sent for it
abbrev pub kept_of : Reply → Option KeptReply
kept_of (replies.Welcome last) = None
kept_of (replies.Stored n id) = Some (kept.Stored id)
kept_of (replies.Taken n id tuple) = Some (kept.Taken id tuple)
kept_of (replies.Gone n) = Some kept.Gone
kept_of (replies.Left n) = Some kept.Left
kept_of (replies.Offer ticket id tuple) = None
kept_of (replies.Read ticket id tuple) = None
kept_of (replies.Refused code detail) = None

-- the receipt of a deed, given the reply to it
abbrev pub receipt_with : Deed → Option KeptReply → Option Receipt
receipt_with d (Some reply) = Some (record { deed = d; reply = reply })
receipt_with d None = None

-- the receipt of a deed, given what was sent: the reply to it is the first of that
abbrev pub receipt_for : Option Deed → List (ℕ × Reply) → Option Receipt
receipt_for None sends = None
receipt_for (Some d) [] = None
receipt_for (Some d) (s ∷ sends) = receipt_with d (kept_of s.1)

-- the receipt of an answer, none if it did no deed
abbrev pub receipt_of : Answer → Option Receipt
receipt_of a = receipt_for a.deed a.sends

-- the receipts that are there
abbrev pub receipts_in : List (Option Receipt) → List Receipt
receipts_in told = flat_map option_to_list told

-- what each message led to, given by its counts
abbrev pub told_by : List StepCounts → List Deed → List (ℕ × Reply) → List (Option Receipt)
told_by [] ds sends = []
told_by (s ∷ ss) ds sends =
    (if s.has_deed then receipt_for (slice_get ds 0) sends else None)
    ∷ told_by ss (if s.has_deed then drop 1 ds else ds) (drop s.sends sends)

-- The messages were answered one after another; these are the receipts that are reported for them,
-- and the replies that are sent.
pub record HasTold (st : State) (soft : Soft) (ms : List (ℕ × Message))
    (told : List (Option Receipt))
    (sends : List (ℕ × Reply)) (new : State) (behind : Soft) : Type 0 where
  pub answers : List Answer
  pub answered : AreAnswered st soft ms answers new behind
  pub told_is : told ≡ map receipt_of answers
  pub sends_is : sends ≡ sends_of answers

-- The receipts of the answers are true of their deeds, which are done after these.
pub record IsTrueOf (base : State) (before : List Deed) (answers : List Answer) (new : State)
    : Type 0 where
  pub done : AreDone base (before ++ deeds_of answers) new
  pub deeds : deeds_in (receipts_in (map receipt_of answers)) ≡ deeds_of answers
  pub replies : AreTrue base before (receipts_in (map receipt_of answers))
