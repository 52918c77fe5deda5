use Rattle.std.proofs.Common.{subst, sym}
use Rattle.linda_call.specs.Taking.{IsTaken}
use Rattle.linda_call.proofs.calling.party.Party.take.Goals as goal

pub returns-in-Came-clause-taken : goal.returns-in-Came-clause-taken
returns-in-Came-clause-taken c =
    subst (λ a. IsTaken c.args.self.now c.args.server a c.hear.result c.hear.new.self) (sym c.in-Came.is)
    (c.hear.ensures.heard, c.hear.ensures.foreign, c.hear.ensures.fault)
