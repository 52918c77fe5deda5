use Rattle.std.proofs.Common.{◌≡◌, ◌++◌, take}
use Rattle.std.specs.List.{flat_map}
use Rattle.linda_codec.proofs.list.push_list.Given as goal

-- What was written so far.
abbrev pub invariant-loop-value : goal.invariant-loop-value
invariant-loop-value g l = l.out.items ≡ l.fn.out.items ++ flat_map (g.V.Spelled.format l.form).spell (take l.value-index l.values)
