use Rattle.std.proofs.Common.{ap, ◌∙◌, sym}
use Rattle.std.specs.FinMap as map
use Rattle.linda_rising.proofs.MapLaws.{get_at}
use Rattle.linda_rising.proofs.UpToLaws.{none_past}
use Rattle.linda_rising.proofs.rising_map.RisingMap.get.Goals as goal

pub returns-then-id-self : goal.returns-then-id-self
returns-then-id-self g c =
    sym (none_past _ c.args.id c.self.inside.most c.self.invariant.2 c.if-id-self.true)
    ∙ sym (get_at _ c.args.id)
    ∙ ap (λ m. map.get m c.args.id) c.self.view_is

pub returns : goal.returns
returns g c =
    c.get.ensures
    ∙ sym (get_at _ c.args.id)
    ∙ ap (λ m. map.get m c.args.id) c.self.view_is
