use Rattle.std.proofs.Common.{refl, sym, ap, subst, ◌∙◌}
use Rattle.std.specs.FinMap as map
use Rattle.linda_bag.proofs.BareLaws.{no_such}
use Rattle.linda_bag.proofs.KeptLaws.{as_after, undone}
use Rattle.linda_hold.specs.TicketIndex.{HasNames}
use Rattle.linda_hold.proofs.ViewLaws.{not_found}
use Rattle.linda_hold.proofs.NamingLaws.{names_put, names_gone, names_over, names_same}
use Rattle.linda_hold.proofs.RowLaws.{row_put}
use Rattle.linda_hold.proofs.holds.Holds.insert.Goals as goal

pub invariant_of-self : goal.invariant_of-self
invariant_of-self c = names_same c.self.inside.ticket_index c.put.new.self c.put.ensures.used c.in_err-put.ensures.err
    (map.get c.self.inside.by_id) c.self.invariant

pub replace-old-requires : goal.replace-old-requires
replace-old-requires c = sym c.contains.ensures ∙ c.if-contains.true

pub invariant_of-self-then-contains : goal.invariant_of-self-then-contains
invariant_of-self-then-contains c =
    let none = not_found c.self.inside.by_id c.args.self.now c.self.view_is c.self.invariant.0 c.args.request c.requires in
    as_after (HasNames c.self.inside.ticket_index) (HasNames c.remove.new.self) (map.get c.self.inside.by_id) _ (map.get c.replace-old.new.self) _ _
    (sym c.replace-old.ensures.value) (row_put c.self.inside.by_id c.replace-old.new.self c.args.id c.args.request c.replace-old.ensures.row)
    (names_over c.self.inside.ticket_index c.remove.new.self (λ used. c.remove.ensures.used (c.put.ensures.used used))
    c.args.id c.replace-old.result c.args.request c.put.new.self none c.in_ok-put.ensures.ok c.remove.ensures.gone)
    c.self.invariant

pub returns-then-contains-clause-ok : goal.returns-then-contains-clause-ok
returns-then-contains-clause-ok c = c.replace-old.ensures.row ∙ ap (λ m. map.insert m c.args.id c.args.request) c.self.view_is

pub insert-requires : goal.insert-requires
insert-requires c = no_such (map.get c.self.inside.by_id c.args.id) (sym c.contains.ensures ∙ c.if-contains.false)

pub invariant_of-self-in-Ok : goal.invariant_of-self-in-Ok
invariant_of-self-in-Ok c =
    let none = not_found c.self.inside.by_id c.args.self.now c.self.view_is c.self.invariant.0 c.args.request c.requires in
    let absent = no_such (map.get c.self.inside.by_id c.args.id) (sym c.contains.ensures ∙ c.if-contains.false) in
    as_after (HasNames c.self.inside.ticket_index) (HasNames c.put.new.self) (map.get c.self.inside.by_id) _ (map.get c.insert.new.self) _ _
    absent (row_put c.self.inside.by_id c.insert.new.self c.args.id c.args.request c.in-Ok.ensures.ok)
    (names_put c.self.inside.ticket_index c.put.new.self c.put.ensures.used c.args.id c.args.request none c.in_ok-put.ensures.ok)
    c.self.invariant

pub returns-in-Ok-clause-ok : goal.returns-in-Ok-clause-ok
returns-in-Ok-clause-ok c = c.in-Ok.ensures.ok ∙ ap (λ m. map.insert m c.args.id c.args.request) c.self.view_is

pub invariant_of-self-in-Err : goal.invariant_of-self-in-Err
invariant_of-self-in-Err c =
    let none = not_found c.self.inside.by_id c.args.self.now c.self.view_is c.self.invariant.0 c.args.request c.requires in
    let absent = no_such (map.get c.self.inside.by_id c.args.id) (sym c.contains.ensures ∙ c.if-contains.false) in
    subst (λ m. HasNames c.remove-in-Err.new.self (map.get m)) (sym c.in-Err.ensures.err)
    (undone (HasNames c.self.inside.ticket_index) (HasNames c.remove-in-Err.new.self)
    (map.get c.self.inside.by_id) c.args.id (HasNames c.put.new.self) c.args.request c.args.request _
    absent absent refl
    (names_put c.self.inside.ticket_index c.put.new.self c.put.ensures.used c.args.id c.args.request none c.in_ok-put.ensures.ok)
    (names_gone c.put.new.self c.remove-in-Err.new.self c.remove-in-Err.ensures.used c.args.id c.args.request c.remove-in-Err.ensures.gone)
    c.self.invariant)
