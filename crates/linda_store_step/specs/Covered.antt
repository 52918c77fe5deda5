-- Replies that were sent, and what is known of them while more is done: they are kept until the
-- client goes on.
use Rattle.std.specs.Prelude.{◌≡◌, ℕ, ◌<◌, ◌⊎◌, true}
use Rattle.linda_wire.specs.declared.reply.Reply.{Reply}
use Rattle.linda_book.specs.Entries.{number_in}
use Rattle.linda_store_state.specs.State.{State}
use Rattle.linda_store_step.specs.Answer.{last_number}
use Rattle.linda_store_step.specs.Replies.{kept_in, reports_deed, KeepsReply}

-- the number of the deed that a reply reports, 0 if it reports none
abbrev pub number_in_reply : Reply → ℕ
number_in_reply r = number_in (kept_in r)

-- What is sent to a client is covered: if it reports a deed, the client's last number is a later
-- one, or the book has that very reply for the client.
abbrev pub IsCovered : State → ℕ × Reply → Type 0
IsCovered st send =
    reports_deed send.1 ≡ true
    → (number_in_reply send.1 < last_number st send.0) ⊎ KeepsReply st send.0 send.1
