-- Exit statuses of a program whose pipe gives up.
use Rattle.std.specs.Prelude.{ℕ}
use Rattle.linda_pipe.specs.declared.fault.PipeFault.{PipeFault}
use Rattle.linda_pipe.specs.declared.fault.PipeFault.TheVariants as faults

-- 4 for a fault of a line, 3 for one of the input or the output
abbrev pub status_of : PipeFault → ℕ
status_of (faults.NotHexadecimal n) = 4
status_of (faults.Memory n) = 4
status_of faults.Read = 3
status_of faults.Write = 3
status_of faults.Turns = 3
