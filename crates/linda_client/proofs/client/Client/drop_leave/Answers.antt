use Rattle.std.proofs.Common.{refl}
use Rattle.linda_client.specs.View.{client_of}
use Rattle.linda_client.proofs.RangeLaws.{leaving_so}
use Rattle.linda_client.proofs.client.Client.drop_leave.Goals as goal

pub invariant_of-self-then-not-is_empty : goal.invariant_of-self-then-not-is_empty
invariant_of-self-then-not-is_empty c =
    leaving_so (client_of c.self.inside) _ c.in-Leaving.leaves c.drop_answered.new.self c.args.server
    c.args.n c.self.invariant c.in-Leaving.is refl refl refl refl c.drop_answered.ensures
    (c.is_empty.ensures.some c.if-not-is_empty.true)
