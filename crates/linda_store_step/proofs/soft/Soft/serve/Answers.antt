use Rattle.std.proofs.Common.{is_some, sym, ap, subst, ◌∙◌}
use Rattle.linda_bag.specs.SearchHints.{AreRight}
use Rattle.linda_map_laws.proofs.MapLaws.{get_same}
use Rattle.linda_store_step.specs.Looking.{is_held}
use Rattle.linda_store_step.proofs.FreeLaws.{holding_right}
use Rattle.linda_store_step.proofs.soft.Soft.serve.Goals as goal

-- The tuple that was found is held now.
pub returns-in_ok-insert-in-Some-clause-right : goal.returns-in_ok-insert-in-Some-clause-right
returns-in_ok-insert-in-Some-clause-right g c =
    let bag = g.B.Bag.contents c.args.bag.now in
    let right = subst (λ s. AreRight bag (is_held s.holds) c.args.next c.least_match.new.hints) (sym c.self.view_is) c.least_match.ensures.right in
    let now = c.in_ok-insert-in-Some.ensures.ok in
    c.hold.ensures bag (is_held c.insert.new.self) c.args.next
    (ap (λ h. is_held h c.in-Some.id) now ∙ ap is_some (get_same c.self.inside.holds c.in-Some.id c.args.request))
    (holding_right bag c.self.inside.holds c.insert.new.self c.in-Some.id c.args.request c.args.next c.least_match.new.hints now right)
