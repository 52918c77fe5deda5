use Rattle.std.proofs.Common.{◌==◌, ◌<◌, length, sym, ap, subst, ◌∙◌}
use Rattle.linda_hold.specs.Request.{request_of, same_request}
use Rattle.linda_hold.specs.Waits.{without_client}
use Rattle.linda_hold.proofs.ListLaws.{all_left, fewer, others_stay}
use Rattle.linda_hold.proofs.waits.Waits.remove_client.Goals as goal

pub loop-ticket-smaller : goal.loop-ticket-smaller
loop-ticket-smaller c =
    subst (λ waits. length waits < length c.loop-ticket.self) (sym c.remove.ensures)
    (fewer (λ w. same_request (request_of c.args.client c.in-Some.ticket) w.0) c.loop-ticket.self c.in-Some.ensures.waits)

pub loop-ticket-preserved : goal.loop-ticket-preserved
loop-ticket-preserved c =
    ap (without_client c.args.client) c.remove.ensures
    ∙ others_stay c.args.client c.in-Some.ticket c.loop-ticket.self
    ∙ c.loop-ticket.invariant

pub returns : goal.returns
returns c = sym (all_left (λ w. c.args.client == w.0.client) c.loop-ticket.self c.in_default.ensures.none) ∙ c.loop-ticket.invariant
