use Rattle.std.proofs.Common.{ap, ◌∙◌}
use Rattle.std.specs.Prelude.{Some, Ok}
use Rattle.linda_client.specs.declared.outcome.Got.TheVariants as gots
use Rattle.linda_client.specs.Client.{servers}
use Rattle.linda_client.specs.Packets.{cancels, cancels_but}
use Rattle.linda_client.specs.React.{got_by_input}
use Rattle.linda_client.specs.Reaction.{commitment}
use Rattle.linda_client.proofs.ArrivalLaws.{is_taken, told_ended}
use Rattle.linda_client.proofs.client.Client.taken.Goals as goal

pub returns : goal.returns
returns c =
    let old = c.args.self.now in
    let p = c.in-Some.pending.now in
    let ask = c.in-Some-ask_taken.ask.now in
    ap Ok (is_taken old p ask c.args.server c.args.n c.args.id c.args.tuple.now c.in-Some.ensures.pending
    c.in-Some-ask_taken.ensures c.if-not-fits.ensures.test)
    ∙ told_ended old _ (cancels (servers old) p)
    (commitment p.event ask.base (got_by_input ask c.args.server c.args.id c.args.tuple.now)) c.in_ok-reaction.reaction
    (c.in_ok-reaction.ensures.packets ∙ ap (λ n. cancels_but n c.spared.result p) c.servers.ensures.count
    ∙ ap (λ o. cancels_but (servers old) o p) c.spared.ensures)
    (c.in_ok-reaction.ensures.outcome
    ∙ ap (λ t. Some (commitment p.event ask.base (gots.Took c.args.server c.args.id t c.in_ok-tuple.bindings))) c.in_ok-tuple.ensures.tuple
    ∙ ap (λ b. Some (commitment p.event ask.base (gots.Took c.args.server c.args.id c.args.tuple.now b))) c.in_ok-tuple.ensures.bindings)
    c.in_ok-reaction.ensures.fault c.finish.ensures
