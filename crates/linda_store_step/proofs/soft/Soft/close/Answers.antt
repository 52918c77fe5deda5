use Rattle.std.proofs.Common.{not, ◌==◌, sym, subst}
use Rattle.linda_bag.specs.SearchHints.{AreRight}
use Rattle.linda_store_step.specs.Looking.{is_held}
use Rattle.linda_store_step.specs.Soft.{Soft, AreApart}
use Rattle.linda_store_step.proofs.ApartLaws.{fewer_apart}
use Rattle.linda_store_step.proofs.soft.Soft.close.Goals as goal

-- With fewer waits nobody waits and holds either.
pub release_all-requires : goal.release_all-requires
release_all-requires g c =
    let soft : Soft = record { holds = c.self.inside.holds; waits = c.self.inside.waits } in
    subst
    (λ waits. AreApart (record { holds = c.self.inside.holds; waits = waits }))
    (sym c.remove_client.ensures)
    (fewer_apart (λ w. not (c.args.client == w.0.client)) soft (subst AreApart (sym c.self.view_is) c.requires))

pub returns-clause-right : goal.returns-clause-right
returns-clause-right g c = λ next rights.
    c.in_ok-release_all.ensures.right next
    (subst (λ (s : Soft). AreRight (g.B.Bag.contents c.args.bag.now) (is_held s.holds) next c.args.hints.now) (sym c.self.view_is) rights)
