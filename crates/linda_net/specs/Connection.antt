-- Words of the two threads of a connection: how a client was greeted, and the last one.
use Rattle.std.specs.Prelude.{ℕ, Option, Some, None, Result, Ok, Err}
use Rattle.linda_wire.specs.declared.reply.Reply.{Reply}
use Rattle.linda_wire.specs.declared.reply.Reply.TheVariants as replies
use Rattle.linda_wire.specs.declared.refusal.Refusal.{Refusal}
use Rattle.linda_wire.specs.declared.refusal.Refusal.TheVariants as refusals
use Rattle.linda_store.specs.declared.end.End.{End}
use Rattle.linda_store.specs.declared.end.End.TheVariants as ends
use Rattle.linda_store.specs.declared.end.ConverseFault.{ConverseFault}
use Rattle.linda_store.specs.declared.end.ConverseFault.TheVariants as stops
use Rattle.linda_shared_accounts.specs.Account.{Account}
use Rattle.linda_shared_accounts.specs.declared.fault.SharedFault.{SharedFault}
use Rattle.linda_shared_accounts.specs.declared.fault.SharedFault.TheVariants as faults

-- The seat that a greeting gives.
abbrev pub seat_of : Result (Account × ℕ) (ℕ × ℕ) → Option Account
seat_of (Ok got) = Some got.0
seat_of (Err why) = None

-- The reply to a greeting: the last number that is kept, or a code and a detail.
abbrev pub reply_of : Result (Account × ℕ) (ℕ × ℕ) → Reply
reply_of (Ok got) = replies.Welcome got.1
reply_of (Err why) = replies.Refused why.0 why.1

-- What a connection ends with if the server has this fault.
abbrev pub fault_of : SharedFault → ConverseFault
fault_of faults.Memory = stops.Memory
fault_of _ = stops.Down

-- The last word to a client whose stream ended so.
abbrev pub last_word : Result End ConverseFault → Option Refusal
last_word (Ok (ends.Malformed offset)) = Some (refusals.Malformed offset)
last_word (Ok (ends.Ended rest)) = None
last_word (Err stops.Down) = Some refusals.Down
last_word (Err _) = None
