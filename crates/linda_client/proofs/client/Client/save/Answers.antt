use Rattle.linda_client.specs.View.{client_of}
use Rattle.linda_client.proofs.PendingLaws.{saves_one, stays_so}
use Rattle.linda_client.proofs.RangeLaws.{saving_so}
use Rattle.linda_client.proofs.client.Client.save.Goals as goal

pub invariant_of-self-2 : goal.invariant_of-self-2
invariant_of-self-2 c =
    saving_so (client_of c.self.inside) _ c.in-Syncing.pending c.save.new.self c.args.arrival c.save.result c.self.invariant
    c.self.view_is c.in-Syncing.is c.requires.server c.save.ensures.keeps c.save.ensures.ok c.save.ensures.err

pub returns-clause-ok : goal.returns-clause-ok
returns-clause-ok c = saves_one (client_of c.self.inside) _ c.in-Syncing.pending c.save.new.self
    c.args.arrival c.save.result c.self.view_is c.in-Syncing.is c.save.ensures.ok

pub returns-clause-err : goal.returns-clause-err
returns-clause-err c = stays_so (client_of c.self.inside) _ c.in-Syncing.pending c.save.new.self c.save.result c.self.view_is c.in-Syncing.is c.save.ensures.err
