use Rattle.std.proofs.Common.{◌≡◌, ◌-◌}
use Rattle.linda_tuple.specs.declared.limits.TheConstants.{MAX_FIELDS}
use Rattle.linda_text.specs.Reading.{fields_at}
use Rattle.linda_text.proofs.LoopLaws.{with_front}
use Rattle.linda_text.proofs.field.read_fields.Given as goal

-- What was read so far and what is still read are what there is to read.
abbrev pub invariant-loop : goal.invariant-loop
invariant-loop g l = with_front l.fields.items (fields_at g.F.Field.reading (MAX_FIELDS - l.counter) l.rest) ≡ fields_at g.F.Field.reading MAX_FIELDS l.bytes
