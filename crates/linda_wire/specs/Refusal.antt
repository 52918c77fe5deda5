-- The refusals of a server, each with its code and detail.
use Rattle.std.specs.Prelude.{ℕ}
use Rattle.linda_wire.specs.declared.codes.TheConstants.{WRONG_VERSION, KNOWN_CLIENT, BUSY}
use Rattle.linda_wire.specs.declared.codes.TheConstants.{OLD_NUMBER, NUMBER_GAP, NO_ROOM}
use Rattle.linda_wire.specs.declared.codes.TheConstants.{TOO_MANY_CLIENTS, SERVER_DOWN, MALFORMED}
use Rattle.linda_wire.specs.declared.codes.TheConstants.{TOO_MANY_ASKS, CLIENT_LEFT, NO_HELLO}
use Rattle.linda_wire.specs.declared.codes.TheConstants.{STORE_FULL}
use Rattle.linda_wire.specs.declared.codes.TheConstants.{NUMBERS_SPENT}
use Rattle.linda_wire.specs.declared.limits.TheConstants.{MAX_CLIENTS, VERSION}
use Rattle.linda_wire.specs.declared.refusal.Refusal.{Refusal}
use Rattle.linda_wire.specs.declared.refusal.Refusal.TheVariants.{Version, Known, Busy, Old, Gap}
use Rattle.linda_wire.specs.declared.refusal.Refusal.TheVariants.{Full, Spent, TooManyClients, Down}
use Rattle.linda_wire.specs.declared.refusal.Refusal.TheVariants.{Malformed, TooManyAsks, Left}
use Rattle.linda_wire.specs.declared.refusal.Refusal.TheVariants.{NoHello}
use Rattle.linda_wire.specs.declared.reply.Reply.{Reply}
use Rattle.linda_wire.specs.declared.reply.Reply.TheVariants.{Refused}

-- A refusal's code.
abbrev pub code_of : Refusal → ℕ
code_of Version = WRONG_VERSION
code_of (Known last) = KNOWN_CLIENT
code_of Busy = BUSY
code_of (Old last) = OLD_NUMBER
code_of (Gap last) = NUMBER_GAP
code_of Full = NO_ROOM
code_of Spent = NO_ROOM
code_of TooManyClients = TOO_MANY_CLIENTS
code_of Down = SERVER_DOWN
code_of (Malformed offset) = MALFORMED
code_of (TooManyAsks ticket) = TOO_MANY_ASKS
code_of (Left last) = CLIENT_LEFT
code_of NoHello = NO_HELLO

-- A refusal's detail; 0 if there is none.
abbrev pub detail_of : Refusal → ℕ
detail_of Version = VERSION
detail_of (Known last) = last
detail_of Busy = 0
detail_of (Old last) = last
detail_of (Gap last) = last
detail_of Full = STORE_FULL
detail_of Spent = NUMBERS_SPENT
detail_of TooManyClients = MAX_CLIENTS
detail_of Down = 0
detail_of (Malformed offset) = offset
detail_of (TooManyAsks ticket) = ticket
detail_of (Left last) = last
detail_of NoHello = 0

-- The reply that reports a refusal.
abbrev pub refused : Refusal → Reply
refused refusal = Refused (code_of refusal) (detail_of refusal)
