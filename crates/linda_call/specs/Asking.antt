-- Requests for the reply that a server keeps.
use Rattle.std.specs.Prelude.{ℕ, ◌==◌, Bool, false, ◌&&◌, Option, Some, None}
use Rattle.linda_wire.specs.declared.message.Message.{Message}
use Rattle.linda_wire.specs.declared.message.Message.TheVariants.{Accept}
use Rattle.linda_wire.specs.declared.reply.Reply.{Reply}
use Rattle.linda_call.specs.Numbers.{answered_in}

-- The message that is answered by the reply that is kept to this number, whatever else it says.
abbrev pub kept_ask : ℕ → Message
kept_ask number = Accept number 0 0

-- whether it is this number
abbrev pub is_number : Option ℕ → ℕ → Bool
is_number None number = false
is_number (Some n) number = n == number

-- Whether a reply of a server is the one that another, or the same, keeps to this number.
abbrev pub is_answer : ℕ → Reply → ℕ → ℕ → Bool
is_answer from reply server number = (from == server) && is_number (answered_in reply) number
