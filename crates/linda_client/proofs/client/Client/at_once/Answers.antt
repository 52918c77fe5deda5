use Rattle.std.proofs.Common.{[], sym, ap, ◌∙◌}
use Rattle.std.specs.Prelude.{Some}
use Rattle.linda_event.specs.Trees.{tree_of}
use Rattle.linda_client.specs.Ask.{first_ready}
use Rattle.linda_client.specs.Reaction.{commitment}
use Rattle.linda_client.proofs.ArrivalLaws.{told_ended}
use Rattle.linda_client.proofs.SyncLaws.{idle_so, is_ready, must_ask}
use Rattle.linda_client.proofs.client.Client.at_once.Goals as goal

pub returns-in_default : goal.returns-in_default
returns-in_default c =
    must_ask c.args.self.now (tree_of c.args.event.now)
    (record { idle = idle_so _ c.if-has_left.ensures c.if-not-is_idle.ensures; limits = c.in_ok-within_limits.ensures.limits })
    c.in_ok-within_limits.ensures.within
    c.if-lacks_tickets.ensures (ap (λ t. first_ready t (tree_of c.args.event.now)) (sym c.clock.ensures) ∙ sym c.in_ok-base.ensures ∙ c.in_default.is)

pub returns : goal.returns
returns c =
    is_ready c.args.self.now (tree_of c.args.event.now) c.in-Some.base c.in-Some.got
    (record { idle = idle_so _ c.if-has_left.ensures c.if-not-is_idle.ensures; limits = c.in_ok-within_limits.ensures.limits })
    (ap (λ t. first_ready t (tree_of c.args.event.now)) (sym c.clock.ensures) ∙ sym c.in_ok-base.ensures ∙ c.in-Some.is)
    ∙ told_ended c.args.self.now c.args.self.now [] (commitment (tree_of c.args.event.now) c.in-Some.base c.in-Some.got) c.ended.result
    (c.ended.ensures.packets ∙ c.new.ensures.items)
    (c.ended.ensures.outcome ∙ ap Some c.in_ok-outcome.ensures) c.ended.ensures.fault
    (ap (λ t. record c.args.self.now { task = t }) (idle_so _ c.if-has_left.ensures c.if-not-is_idle.ensures))
