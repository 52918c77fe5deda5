-- The tuple that a value of the code holds, wherever its parts are.
use Rattle.std.specs.Prelude.{◌∷◌, []}
use Rattle.std.specs.Arc.{arc_value}
use Rattle.linda_tuple.specs.declared.held.Parts.{Parts}
use Rattle.linda_tuple.specs.declared.held.Held.{Held}
use Rattle.linda_tuple.specs.declared.held.Held.TheVariants as held
use Rattle.linda_tuple.specs.Tuple.{Tuple}

-- The tuple of these parts.
abbrev pub tuple_of : Parts → Tuple
tuple_of parts = record { tag = parts.tag; fields = parts.fields.items }

-- The tuple of the parts that are held.
abbrev pub held_tuple : Held → Tuple
held_tuple (held.Own parts) = tuple_of parts
held_tuple (held.Single tag field) = record { tag = tag; fields = field ∷ [] }
held_tuple (held.Shared parts) = tuple_of (arc_value parts)
