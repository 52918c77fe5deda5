use Rattle.std.proofs.Common.{sym, ap, ◌∙◌}
use Rattle.std.proofs.lemmas.Option.{IfSome_then}
use Rattle.linda_bag.proofs.HintLaws.{IfNone_then}
use Rattle.linda_hold.specs.Request.{request_of}
use Rattle.linda_hold.specs.Waits.{is_waiting, waits_of}
use Rattle.linda_hold.proofs.EntryLaws.{waits_where_found, none_of_client}
use Rattle.linda_hold.proofs.waits.Waits.first_ticket.Goals as goal

pub returns-clause-waits : goal.returns-clause-waits
returns-clause-waits c =
    IfSome_then c.first_ticket.result c.first_ticket.ensures.some (λ ticket found.
    ap (is_waiting (request_of c.args.client ticket)) (sym c.self.view_is)
    ∙ sym (waits_where_found c.self.inside.by_arrival.entries c.self.invariant.1.0.0 (request_of c.args.client ticket))
    ∙ found)

pub returns-clause-none : goal.returns-clause-none
returns-clause-none c =
    IfNone_then c.first_ticket.result c.first_ticket.ensures.none (λ none.
    ap (waits_of c.args.client) (sym c.self.view_is)
    ∙ none_of_client c.self.inside.by_arrival.entries c.self.invariant.1.0.0 c.args.client none)
