use Rattle.std.proofs.Common.{◌≡◌, ◌-◌}
use Rattle.linda_codec.specs.Steps.{many_at}
use Rattle.linda_codec.proofs.LoopLaws.{with_front}
use Rattle.linda_codec.proofs.list.read_list.Given as goal

-- What was read so far and what is still read are what there is to read.
abbrev pub invariant-loop : goal.invariant-loop
invariant-loop g l = with_front l.values.items (many_at (g.V.Spelled.format l.form).read (l.count - l.counter) l.rest)
    ≡ many_at (g.V.Spelled.format l.form).read l.count l.bytes
