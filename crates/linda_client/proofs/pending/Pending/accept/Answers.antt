use Rattle.linda_client.specs.View.{pending_of}
use Rattle.linda_client.proofs.PendingLaws.{taken_so, took}
use Rattle.linda_client.proofs.pending.Pending.accept.Goals as goal

pub invariant_of-self : goal.invariant_of-self
invariant_of-self c = record {
  asks = c.self.invariant.asks;
  alarms = c.self.invariant.alarms;
  keeps = taken_so (pending_of c.self.inside) _ c.args.accepted _ c.self.invariant.keeps c.self.view_is c.requires c.pop_front.ensures.rest;
}

pub returns-clause-accepted : goal.returns-clause-accepted
returns-clause-accepted c = took (pending_of c.self.inside) _ c.args.accepted _ c.self.view_is c.pop_front.ensures.rest

pub returns-clause-keeps : goal.returns-clause-keeps
returns-clause-keeps c = (invariant_of-self c).keeps
