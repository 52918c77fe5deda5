use Rattle.std.proofs.Common.{◌≡◌, ◌++◌, take}
use Rattle.std.specs.List.{flat_map}
use Rattle.std.specs.String.{string_bytes}
use Rattle.linda_text.specs.Written.{written_field}
use Rattle.linda_shell_text.proofs.outcome.push_others.Given as goal

-- What was written of the items so far.
abbrev pub invariant-loop-item : goal.invariant-loop-item
invariant-loop-item g l = string_bytes l.line ≡ string_bytes l.initial.line ++ flat_map (written_field g.T.Listed.text) (take l.item-index l.others)
