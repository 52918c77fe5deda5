use Rattle.linda_client.specs.View.{client_of}
use Rattle.linda_client.proofs.PendingLaws.{accepts_one, next_up}
use Rattle.linda_client.proofs.RangeLaws.{accepting_so}
use Rattle.linda_client.proofs.client.Client.accept.Goals as goal

pub invariant_of-self-2 : goal.invariant_of-self-2
invariant_of-self-2 c =
    accepting_so (client_of c.self.inside) _ c.in-Syncing.pending c.accept.new.self c.args.accepted _
    c.self.invariant c.self.view_is c.in-Syncing.is c.requires.server c.requires.number c.requires.room
    c.accept.ensures.keeps c.accept.ensures.accepted
    (next_up (client_of c.self.inside) _ c.args.accepted.server c.index_mut.result.now c.self.view_is c.requires.server c.index_mut.ensures.value)

pub returns : goal.returns
returns c =
    accepts_one (client_of c.self.inside) _ c.in-Syncing.pending c.accept.new.self c.args.accepted _ c.self.view_is c.in-Syncing.is c.accept.ensures.accepted
    (next_up (client_of c.self.inside) _ c.args.accepted.server c.index_mut.result.now c.self.view_is c.requires.server c.index_mut.ensures.value)
