use Rattle.std.proofs.Common.{sym, ap, ◌∙◌, subst}
use Rattle.std.specs.FinMap as map
use Rattle.linda_map_laws.proofs.MapLaws.{get_empty, get_other}
use Rattle.linda_bag.specs.Ids.{HasPair}
use Rattle.linda_bag.proofs.SetLaws.{pair_has}
use Rattle.linda_bag.proofs.ids.pair.Goals as goal

pub insert-requires : goal.insert-requires
insert-requires c = ap (λ m. map.get m c.args.one) c.new-both.ensures ∙ get_empty c.args.one

pub insert-requires-2 : goal.insert-requires-2
insert-requires-2 c =
    ap (λ m. map.get m c.args.other) (c.in_ok-insert.ensures.ok ∙ ap (λ m. map.insert m c.args.one tt) c.new-both.ensures)
    ∙ get_other map.empty c.args.one tt c.args.other (λ same. c.requires (sym same))
    ∙ get_empty c.args.other

pub returns : goal.returns
returns c =
    let is = c.in_ok-new.ensures.ok ∙ c.in_ok-insert-2.ensures.ok
    ∙ ap (λ m. map.insert m c.args.other tt) (c.in_ok-insert.ensures.ok ∙ ap (λ m. map.insert m c.args.one tt) c.new-both.ensures) in
    subst (HasPair c.args.one c.args.other) (sym is) (pair_has c.args.one c.args.other)
