-- The numbers of lines, and what is wrong with one.
use Rattle.std.specs.Prelude.{ℕ, ◌+◌, ◌-◌, ◌^◌, min, Bool, true, false, Option, Some, None, Result}
use Rattle.std.specs.Prelude.{Ok, Err}
use Rattle.linda_shell_text.specs.declared.line_fault.LineFault.TheVariants as lines
use Rattle.linda_call.specs.declared.calling.fault.CallFault.{CallFault}
use Rattle.linda_call.specs.declared.calling.fault.CallFault.TheVariants.{Line, NoConnection}
use Rattle.linda_call.specs.declared.calling.fault.CallFault.TheVariants.{Refused, Restored, Memory}
use Rattle.linda_call.specs.declared.calling.fault.CallFault.TheVariants.{InUse, NotAServer, Read}
use Rattle.linda_call.specs.declared.calling.fault.CallFault.TheVariants.{Write, Turns, Clock}

-- the number of the next line, of the 64 bits that there are
abbrev pub next_line : ℕ → ℕ
next_line number = min (number + 1) (2 ^ 64 - 1)

-- a fault at the line of this number: memory that runs out there is the line's
abbrev pub fault_at : ℕ → CallFault → CallFault
fault_at number (Line n fault) = Line n fault
fault_at number (NoConnection server) = NoConnection server
fault_at number (Refused server code detail) = Refused server code detail
fault_at number (Restored server) = Restored server
fault_at number (InUse server) = InUse server
fault_at number (NotAServer server) = NotAServer server
fault_at number Memory = Line number lines.Memory
fault_at number Read = Read
fault_at number Write = Write
fault_at number Turns = Turns
fault_at number Clock = Clock

-- What ends the call at the line of this number, of which it was said whether it is one of a
-- client.
abbrev pub end_at : ℕ → Result Bool CallFault → Option CallFault
end_at number (Ok true) = None
end_at number (Ok false) = Some (Line number lines.NotACommand)
end_at number (Err fault) = Some (fault_at number fault)
