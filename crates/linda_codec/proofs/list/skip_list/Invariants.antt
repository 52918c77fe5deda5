use Rattle.std.proofs.Common.{◌≡◌, ◌-◌}
use Rattle.linda_codec.specs.Steps.{left_by, many_at}
use Rattle.linda_codec.proofs.list.skip_list.Given as goal

-- What is left after those that are still to be passed is what is left after all.
abbrev pub invariant-loop : goal.invariant-loop
invariant-loop g l = left_by (many_at (g.V.Spelled.format l.form).read (l.count - l.counter) l.rest)
    ≡ left_by (many_at (g.V.Spelled.format l.form).read l.count l.bytes)
