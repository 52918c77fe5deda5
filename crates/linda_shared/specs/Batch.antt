-- Batch in hand, as contracts see it.
use Rattle.std.specs.Prelude.{ℕ, Bool, true, List, [], ◌∷◌, ◌&&◌, is_some}
use Rattle.linda_wire.specs.declared.message.Message.{Message}
use Rattle.linda_shared_queue.specs.declared.reply_slot.ReplySlot.{ReplySlot}
use Rattle.linda_shared_queue.specs.declared.answer.Answer.{Answer}

-- The messages, each with its client, and of each answer whether it has its copy.
pub record LeaderBatch : Type 0 where
  pub messages : List (ℕ × Message)
  pub answers : List Bool

abbrev pub batch_of : List (ℕ × Message) → List Bool → LeaderBatch
batch_of messages answers = record { messages = messages; answers = answers }

-- a message that waits, as it is in hand: with the client whose mailbox its answer goes to
abbrev pub parcel : {L : Type 0} → Message × ReplySlot L × ℕ → ℕ × Message
parcel m = (m.1.client, m.0)

abbrev pub has_copy : {L : Type 0} → Answer (ReplySlot L) L → Bool
has_copy answer = is_some answer.copy

-- whether all of these are so
abbrev pub all_true : List Bool → Bool
all_true [] = true
all_true (b ∷ bs) = b && all_true bs
