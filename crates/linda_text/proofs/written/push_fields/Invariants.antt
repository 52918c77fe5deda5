use Rattle.std.proofs.Common.{◌≡◌, ◌++◌, take}
use Rattle.std.specs.List.{flat_map}
use Rattle.std.specs.String.{string_bytes}
use Rattle.linda_text.specs.Written.{written_field}
use Rattle.linda_text.proofs.written.push_fields.Given as goal

-- What was written of the fields so far.
abbrev pub invariant-loop-field : goal.invariant-loop-field
invariant-loop-field g l = string_bytes l.out ≡ string_bytes l.initial.out ++ flat_map (written_field g.F.Written.written) (take l.field-index l.fields)
