use Rattle.std.proofs.Common.{[], sym, ap, ◌∙◌, nat_cmp}
use Rattle.std.specs.BTreeSet.{contains}
use Rattle.std.proofs.lemmas.Result.{IfOk-weaker}
use Rattle.linda_hold.specs.TicketIndex.{number_in}
use Rattle.linda_hold.proofs.PartLaws.{empty_sorted}
use Rattle.linda_hold.proofs.CountLaws.{listed}
use Rattle.linda_hold.proofs.ticket_index.TicketIndex.of_client.Goals as goal

pub returns-in-Some : goal.returns-in-Some
returns-in-Some c =
    IfOk-weaker c.numbers_of.result _ _
    (λ numbers has. λ requests known q.
    has q ∙ listed requests known.0 c.args.client c.in-Some.tickets.now.entries c.numbers_of.ensures.ordered
    (λ ticket. ap (λ t. number_in t ticket) (sym c.in-Some.ensures.value)) q)
    c.numbers_of.ensures.has

pub returns-in-None : goal.returns-in-None
returns-in-None c = λ requests known q.
    ap (λ keys. contains nat_cmp (record { keys = keys }) q) c.new.ensures.empty
    ∙ listed requests known.0 c.args.client [] empty_sorted (λ ticket. ap (λ t. number_in t ticket) (sym c.in-None.ensures.value)) q
