use Rattle.std.proofs.Common.{sym, ap, subst, ◌∙◌}
use Rattle.std.specs.FinMap as map
use Rattle.linda_bag.proofs.FilingLaws.{same_row}
use Rattle.linda_bag.proofs.KeptLaws.{as_after}
use Rattle.linda_hold.specs.TicketIndex.{HasNames}
use Rattle.linda_hold.proofs.NamingLaws.{names_gone}
use Rattle.linda_hold.proofs.RowLaws.{row_gone}
use Rattle.linda_hold.proofs.holds.Holds.remove.Goals as goal

pub invariant_of-self : goal.invariant_of-self
invariant_of-self c =
    let old = c.self.inside.by_id in
    let new = c.remove.new.self in
    as_after (HasNames c.self.inside.ticket_index) (HasNames c.remove-in-Some.new.self) (map.get old) _ (map.get new) _ _
    (sym c.remove.ensures.value ∙ c.in-Some.is) (row_gone old new c.args.id c.remove.ensures.removed)
    (names_gone c.self.inside.ticket_index c.remove-in-Some.new.self c.remove-in-Some.ensures.used c.args.id _ c.remove-in-Some.ensures.gone) c.self.invariant

pub invariant_of-self-in_default : goal.invariant_of-self-in_default
invariant_of-self-in_default c =
    let old = c.self.inside.by_id in
    let new = c.remove.new.self in
    subst (HasNames c.self.inside.ticket_index)
    (λ j. λ q. sym (row_gone old new c.args.id c.remove.ensures.removed q
    ∙ same_row (map.get old) c.args.id _ (sym c.remove.ensures.value ∙ c.in_default.is) q) j)
    c.self.invariant

pub returns-in-Some : goal.returns-in-Some
returns-in-Some c = c.remove.ensures.removed ∙ ap (λ m. map.remove m c.args.id) c.self.view_is

pub returns-in_default : goal.returns-in_default
returns-in_default c = c.remove.ensures.removed ∙ ap (λ m. map.remove m c.args.id) c.self.view_is
