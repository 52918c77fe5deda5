-- Last words of a connection that ends by a fault of the server.
use Rattle.std.specs.Prelude.{Option, Some, None}
use Rattle.linda_wire.specs.declared.refusal.Refusal.{Refusal}
use Rattle.linda_wire.specs.declared.refusal.Refusal.TheVariants as refusals
use Rattle.linda_shared_accounts.specs.declared.fault.SharedFault.{SharedFault}
use Rattle.linda_shared_accounts.specs.declared.fault.SharedFault.TheVariants as faults

-- That the server is down; nothing if memory ran out.
abbrev pub word_of : SharedFault → Option Refusal
word_of faults.Memory = None
word_of faults.Down = Some refusals.Down
word_of faults.Full = Some refusals.Down
word_of faults.SeatMissing = Some refusals.Down
word_of (faults.Receipt client number) = Some refusals.Down
word_of (faults.Stuck client) = Some refusals.Down
word_of faults.NoThread = Some refusals.Down
