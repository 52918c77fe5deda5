use Rattle.std.proofs.Common.{true, false, sym, ap, subst, nat_cmp}
use Rattle.std.specs.BTreeSet.{contains}
use Rattle.linda_bag.specs.SearchHints.{AreRight}
use Rattle.linda_store_step.specs.Looking.{IsLeast, is_held, passed_over}
use Rattle.linda_store_step.proofs.LookingLaws.{least_found}
use Rattle.linda_store_step.proofs.soft.Soft.least_match.Goals as goal

pub returns-then-remove-clause-least : goal.returns-then-remove-clause-least
returns-then-remove-clause-least g c =
    subst
    (λ remove. IsLeast (g.B.Bag.contents c.args.bag.now) c.args.template.now (passed_over remove c.args.self.now.holds) c.least_match.result)
    (sym c.if-remove.true)
    (least_found (g.B.Bag.contents c.args.bag.now) c.args.template.now (is_held c.self.inside.holds) (passed_over true c.args.self.now.holds)
    (λ k. ap (λ s. is_held s.holds k) c.self.view_is)
    c.least_match.result c.least_match.ensures.found c.least_match.ensures.least c.least_match.ensures.none)

pub returns-else-remove-clause-least : goal.returns-else-remove-clause-least
returns-else-remove-clause-least g c =
    subst
    (λ remove. IsLeast (g.B.Bag.contents c.args.bag.now) c.args.template.now (passed_over remove c.args.self.now.holds) c.read_match.result)
    (sym c.if-remove.false)
    (least_found (g.B.Bag.contents c.args.bag.now) c.args.template.now (contains nat_cmp c.new.result) (passed_over false c.args.self.now.holds)
    (λ k. ap (λ keys. contains nat_cmp (record { keys = keys }) k) c.new.ensures.empty)
    c.read_match.result c.read_match.ensures.found c.read_match.ensures.least c.read_match.ensures.none)

-- What is held is what the holds have.
pub least_match-requires : goal.least_match-requires
least_match-requires g c =
    subst (λ s. AreRight (g.B.Bag.contents c.args.bag.now) (is_held s.holds) c.args.next c.args.hints.now) (sym c.self.view_is) c.requires

pub returns-then-remove-clause-right : goal.returns-then-remove-clause-right
returns-then-remove-clause-right g c =
    subst (λ s. AreRight (g.B.Bag.contents c.args.bag.now) (is_held s.holds) c.args.next c.least_match.new.self) c.self.view_is c.least_match.ensures.right

pub read_match-requires : goal.read_match-requires
read_match-requires g c = c.requires.1

pub returns-else-remove-clause-right : goal.returns-else-remove-clause-right
returns-else-remove-clause-right g c = c.read_match.ensures.right (is_held c.args.self.now.holds) c.requires
