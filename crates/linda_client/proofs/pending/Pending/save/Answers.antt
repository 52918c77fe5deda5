use Rattle.linda_client.specs.View.{pending_of}
use Rattle.linda_client.proofs.PendingLaws.{saved_so, still}
use Rattle.linda_client.proofs.pending.Pending.save.Goals as goal

pub invariant_of-self : goal.invariant_of-self
invariant_of-self c =
    record {
      asks = c.self.invariant.asks;
      alarms = c.self.invariant.alarms;
      keeps =
          still (pending_of c.self.inside) _ c.self.invariant.keeps c.in_err-push_back.ensures.items;
    }

pub invariant_of-self-2 : goal.invariant_of-self-2
invariant_of-self-2 c = record {
  asks = c.self.invariant.asks;
  alarms = c.self.invariant.alarms;
  keeps = saved_so (pending_of c.self.inside) _ c.args.arrival _ c.self.invariant.keeps c.self.view_is
      c.requires.fits c.requires.accepted c.in_ok-push_back.ensures.items;
}

pub returns-in_err-push_back-clause-keeps : goal.returns-in_err-push_back-clause-keeps
returns-in_err-push_back-clause-keeps c = (invariant_of-self c).keeps

pub returns-clause-keeps : goal.returns-clause-keeps
returns-clause-keeps c = (invariant_of-self-2 c).keeps
