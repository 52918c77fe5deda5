-- The client is written, and then the ticket.
use Rattle.std.proofs.Common.{ap, ◌∙◌, ◌++◌, codes}
use Rattle.linda_inspect.specs.Json.{json_member}
use Rattle.linda_status.specs.Listed.{json_holder, json_ticket}
use Rattle.linda_status.proofs.ListedLaws.{then_pushed}
use Rattle.linda_status.proofs.listed.push_holder.Goals as goal

pub returns : goal.returns
unfolding json_holder
returns c =
    then_pushed c.push_ticket.result c.args.out.now.items c.push_member.new.out.items c.push_ticket.new.out.items
    (json_member (codes ",\"held\":{\"client\":") c.args.client) (json_ticket c.args.ticket)
    (c.in_ok-push_member.ensures ∙ ap (λ n. c.args.out.now.items ++ json_member (codes ",\"held\":{\"client\":") n) c.from.ensures) c.push_ticket.ensures
