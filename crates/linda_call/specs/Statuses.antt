-- Exit statuses of a program whose call gives up.
use Rattle.std.specs.Prelude.{ℕ}
use Rattle.linda_call.specs.declared.calling.fault.CallFault.{CallFault}
use Rattle.linda_call.specs.declared.calling.fault.CallFault.TheVariants as calls

-- 4 for a fault of a line of a client, 3 for one of a server, of the input, the output or the
-- clock, or if memory runs out outside of a line
abbrev pub status_of_call : CallFault → ℕ
status_of_call (calls.Line n fault) = 4
status_of_call (calls.NoConnection server) = 3
status_of_call (calls.Refused server code detail) = 3
status_of_call (calls.Restored server) = 3
status_of_call (calls.InUse server) = 3
status_of_call (calls.NotAServer server) = 3
status_of_call calls.Memory = 3
status_of_call calls.Read = 3
status_of_call calls.Write = 3
status_of_call calls.Turns = 3
status_of_call calls.Clock = 3
