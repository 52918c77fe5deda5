use Rattle.std.proofs.Common.{◌≡◌, ◌++◌, true}
use Rattle.std.specs.Prelude.{◌==◌}
use Rattle.std.specs.String.{string_bytes}
use Rattle.linda_shell_text.specs.Written.{written_members}
use Rattle.linda_shell_text.proofs.WrittenLaws.{rest_of}
use Rattle.linda_shell_text.proofs.written.+push_event.Given as goal

-- What was written of the members so far, and what is still to be written.
abbrev pub invariant-loop-number : goal.invariant-loop-number
invariant-loop-number l =
    string_bytes l.out ++ written_members (l.number == 0) (rest_of l.number l.member-items)
    ≡ string_bytes l.initial.out ++ written_members true (rest_of 0 l.member-items)
