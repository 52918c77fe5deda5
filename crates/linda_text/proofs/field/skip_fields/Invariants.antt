use Rattle.std.proofs.Common.{◌≡◌, ◌-◌}
use Rattle.linda_tuple.specs.declared.limits.TheConstants.{MAX_FIELDS}
use Rattle.linda_text.specs.Reading.{fields_at}
use Rattle.linda_codec.specs.Steps.{left_by}
use Rattle.linda_text.proofs.field.skip_fields.Given as goal

-- What is left after the fields that are still to be passed is what is left after all of them.
abbrev pub invariant-loop : goal.invariant-loop
invariant-loop g l = left_by (fields_at g.F.Field.reading (MAX_FIELDS - l.counter) l.rest) ≡ left_by (fields_at g.F.Field.reading MAX_FIELDS l.bytes)
