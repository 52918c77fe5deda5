-- Bytes that the tuples of a bag spell.
use Rattle.std.specs.Prelude.{ℕ, length, Option, None, Some}
use Rattle.std.specs.Ordering.{nat_cmp}
use Rattle.std.specs.Map.{values_of}
use Rattle.std.specs.List.{sum_by}
use Rattle.std.specs.FinMap.{FinMap, entries}
use Rattle.linda_tuple.specs.declared.form.Form.TheVariants.{Two}
use Rattle.linda_tuple.specs.Tuple.{Tuple}
use Rattle.linda_codec.specs.Values as value

-- how many bytes a tuple spells in the second form
abbrev pub tuple_bytes : Tuple → ℕ
tuple_bytes row = length ((value.tuple Two).spell row)

-- how many bytes all tuples of a bag spell so, without their ids
abbrev pub bytes_of : FinMap nat_cmp Tuple → ℕ
bytes_of bag = sum_by tuple_bytes (values_of (entries bag))

-- how many bytes a tuple spells so, if there is one
abbrev pub bytes_at : Option Tuple → ℕ
bytes_at None = 0
bytes_at (Some row) = tuple_bytes row
