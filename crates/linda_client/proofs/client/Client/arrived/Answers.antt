use Rattle.std.proofs.Common.{ap, ◌∙◌}
use Rattle.std.specs.Prelude.{None, is_some}
use Rattle.linda_client.specs.ArrivedTuple.{arrival_of}
use Rattle.linda_client.specs.Packets.{cancels_but}
use Rattle.linda_client.proofs.ArrivalLaws.{is_copied, is_kept, told_copied}
use Rattle.linda_client.proofs.client.Client.arrived.Goals as goal

pub returns-then-is_some : goal.returns-then-is_some
returns-then-is_some c =
    is_kept c.args.self.now _ _ c.in-Some.pending.now c.in-Some-ask_at.ask.now c.args.remove (arrival_of c.args.arriving)
    (record { there = c.in-Some.ensures.pending; asked = c.in-Some-ask_at.ensures.ask; fits = c.if-not-fits.ensures.test })
    (c.if-is_some.ensures ∙ ap is_some c.accepted.ensures.accepted) c.keep.ensures

pub returns : goal.returns
returns c =
    is_copied c.args.self.now c.in-Some.pending.now c.in-Some-ask_at.ask.now c.args.remove (arrival_of c.args.arriving)
    (record { there = c.in-Some.ensures.pending; asked = c.in-Some-ask_at.ensures.ask; fits = c.if-not-fits.ensures.test })
    (c.if-is_some.ensures ∙ ap is_some c.accepted.ensures.accepted) c.if-ask.false
    ∙ told_copied c.args.self.now _ c.in-Some.pending.now c.in-Some-ask_at.ask.now (arrival_of c.args.arriving) c.in_ok-reaction.reaction
    (c.in_ok-reaction.ensures.packets ∙ ap (λ n. cancels_but n None c.in-Some.pending.now) c.servers.ensures.count)
    c.in_ok-reaction.ensures.outcome c.in_ok-reaction.ensures.fault c.finish.ensures
