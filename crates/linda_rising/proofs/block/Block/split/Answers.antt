use Rattle.std.proofs.Common.{◌≡◌, ◌<◌, ◌/◌, length, subst, sym, ap, ◌∙◌, arith, drop, get_or}
use Rattle.linda_rising.specs.Rows.{ids_of, Rises}
use Rattle.linda_rising.proofs.RowLaws.{rises_take, rises_drop, halves_are}
use Rattle.linda_rising.proofs.block.Block.split.Goals as goal

pub invariant_of-result : goal.invariant_of-result
invariant_of-result g c =
    subst (λ items. Rises (ids_of items)) (sym c.in_ok-rows.ensures.tail) (rises_drop c.self.inside.rows.items (c.len-half.result / 2) c.self.invariant)

pub invariant_of-self-2 : goal.invariant_of-self-2
invariant_of-self-2 g c =
    subst (λ items. Rises (ids_of items)) (sym c.in_ok-rows.ensures.items)
    (rises_take c.self.inside.rows.items (c.len-half.result / 2) (omega (arith, c.len-half.ensures, c.self.inside.rows.ok.0)) c.self.invariant)

pub returns-clause-ok : goal.returns-clause-ok
returns-clause-ok g c =
    let rows = c.self.inside.rows.items in
    let half = c.len-half.result / 2 in
    let e = c.index.result.now in
    let many : 1 < length rows = subst (λ b. 1 < length b.1) (sym c.self.view_is) c.requires in
    let first : e ≡ get_or (drop half rows) 0 e = c.index.ensures ∙ ap (λ items. get_or items 0 e) c.in_ok-rows.ensures.tail in
    rw (sym c.self.view_is, c.in_ok-rows.ensures.items, c.in_ok-rows.ensures.tail)
    (halves_are rows c.self.inside.from half e c.self.invariant (omega (arith, c.len-half.ensures, c.self.inside.rows.ok.0, many))
    (omega (arith, c.len-half.ensures, c.self.inside.rows.ok.0, many)) first)
