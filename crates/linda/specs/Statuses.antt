-- Exit statuses.
use Rattle.std.specs.Prelude.{ℕ, Result, Ok, Err}
use Rattle.linda_pipe.specs.Statuses.{status_of}
use Rattle.linda_pipe.specs.declared.fault.PipeFault.{PipeFault}
use Rattle.linda_shell.specs.declared.script.fault.ScriptFault.{ScriptFault}
use Rattle.linda_shell.specs.declared.script.fault.ScriptFault.TheVariants as scripts
use Rattle.linda_call.specs.Statuses.{status_of_call}
use Rattle.linda_call.specs.declared.calling.fault.CallFault.{CallFault}

-- 0 if the pipe ended well, else the status of its fault
abbrev pub status_after : Result Unit PipeFault → ℕ
status_after (Ok done) = 0
status_after (Err fault) = status_of fault

-- 4 for a fault of a line of a script, 3 for one of the input or the output, or if memory runs out
-- before a line
abbrev pub status_of_script : ScriptFault → ℕ
status_of_script (scripts.Line n fault) = 4
status_of_script scripts.Read = 3
status_of_script scripts.Write = 3
status_of_script scripts.Turns = 3
status_of_script scripts.Memory = 3

-- 0 if the script ended well, else the status of its fault
abbrev pub status_after_script : Result Unit ScriptFault → ℕ
status_after_script (Ok done) = 0
status_after_script (Err fault) = status_of_script fault

-- 0 if the call ended well, else the status of its fault
abbrev pub status_after_call : Result Unit CallFault → ℕ
status_after_call (Ok done) = 0
status_after_call (Err fault) = status_of_call fault
