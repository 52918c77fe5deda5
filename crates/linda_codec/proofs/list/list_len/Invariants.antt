use Rattle.std.proofs.Common.{◌≡◌, ◌*◌, ◌≤◌, length, take}
use Rattle.std.specs.List.{flat_map}
use Rattle.linda_codec.proofs.list.list_len.Given as goal

-- The first values were counted.
abbrev pub invariant-loop-value : goal.invariant-loop-value
invariant-loop-value g l =
    (l.len ≡ length (flat_map (g.V.Spelled.format l.form).spell (take l.value-index l.values)))
    × (l.len ≤ g.V.Spelled.longest * l.value-index)
