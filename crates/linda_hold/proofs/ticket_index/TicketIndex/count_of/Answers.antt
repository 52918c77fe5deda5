use Rattle.std.proofs.Common.{[], sym, ap, ◌∙◌}
use Rattle.linda_hold.specs.TicketIndex.{number_in}
use Rattle.linda_hold.proofs.PartLaws.{empty_sorted}
use Rattle.linda_hold.proofs.CountLaws.{counted}
use Rattle.linda_hold.proofs.ticket_index.TicketIndex.count_of.Goals as goal

pub returns-in-Some : goal.returns-in-Some
returns-in-Some c = λ requests known numbers rising has.
    c.len.ensures.len
    ∙ counted requests known.0 c.args.client c.in-Some.tickets.now.entries c.len.ensures.ordered
    (λ ticket. ap (λ t. number_in t ticket) (sym c.in-Some.ensures.value)) numbers rising has

pub returns-in-None : goal.returns-in-None
returns-in-None c = λ requests known numbers rising has.
    counted requests known.0 c.args.client [] empty_sorted (λ ticket. ap (λ t. number_in t ticket) (sym c.in-None.ensures.value)) numbers rising has
