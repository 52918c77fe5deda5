use Rattle.std.proofs.Common.{ap, ◌∙◌}
use Rattle.std.specs.Prelude.{Some, None}
use Rattle.linda_client.specs.Packets.{cancels_but}
use Rattle.linda_client.specs.React.{got_by_read}
use Rattle.linda_client.specs.Reaction.{commitment}
use Rattle.linda_client.proofs.ArrivalLaws.{goes_without, oldest_accepted, oldest_copied, told_copied}
use Rattle.linda_client.proofs.client.Client.gone.Goals as goal

pub returns-then-not-has_saved : goal.returns-then-not-has_saved
returns-then-not-has_saved c =
    goes_without c.args.self.now _ _ c.in-Some.pending.now c.args.server c.args.n c.in-Some.ensures.pending
    c.if-not-awaits.ensures.awaits (c.has_saved.ensures.none c.if-not-has_saved.true) c.go_on.ensures

pub returns-then-ask : goal.returns-then-ask
returns-then-ask c =
    oldest_accepted c.args.self.now _ _ c.in-Some.pending.now c.args.server c.args.n c.oldest-oldest.result.now c.ask_of-ask.result.now
    (record {
      there = c.in-Some.ensures.pending;
      answers = c.if-not-awaits.ensures.awaits;
      oldest =
          c.oldest-oldest.ensures.oldest;
      asked = c.ask_of-ask.ensures.ask;
    }) c.if-ask.true c.take_up.ensures

pub returns : goal.returns
returns c =
    oldest_copied c.args.self.now c.in-Some.pending.now c.args.server c.args.n c.oldest-oldest.result.now c.ask_of-ask.result.now
    (record {
      there = c.in-Some.ensures.pending;
      answers = c.if-not-awaits.ensures.awaits;
      oldest =
          c.oldest-oldest.ensures.oldest;
      asked = c.ask_of-ask.ensures.ask;
    }) c.if-ask.false
    ∙ told_copied c.args.self.now _ c.in-Some.pending.now c.ask_of-ask.result.now c.oldest-oldest.result.now c.in_ok-reaction.reaction
    (c.in_ok-reaction.ensures.packets ∙ ap (λ n. cancels_but n None c.in-Some.pending.now) c.servers.ensures.count) (c.in_ok-reaction.ensures.outcome
    ∙ ap (λ a. Some (commitment c.in-Some.pending.now.event c.ask_of-ask.result.now.base (got_by_read c.ask_of-ask.result.now a))) c.arriving.ensures)
    c.in_ok-reaction.ensures.fault c.finish.ensures
