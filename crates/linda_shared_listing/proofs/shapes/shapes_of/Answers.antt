use Rattle.std.proofs.Common.{◌++◌, ◌∷◌, [], List, ap, ◌∙◌}
use Rattle.linda_tuple.specs.Template.{Template}
use Rattle.linda_shared_listing.proofs.ShapeLaws.{first_shape, next_shape, all_shapes}
use Rattle.linda_shared_listing.proofs.shapes.shapes_of.Goals as goal

pub loop-init : goal.loop-init
loop-init c =
    first_shape c.args.bag.now c.args.tag.now c.push.new.self.items
    (c.in_ok-push.ensures.items ∙ ap (λ (l : List Template). l ++ c.in_ok-shape_of.field-0 ∷ []) c.new-shapes.ensures.items
    ∙ ap (λ (s : Template). s ∷ []) c.in_ok-shape_of.ensures)

pub returns-in_default : goal.returns-in_default
returns-in_default c = all_shapes c.args.bag.now c.args.tag.now c.loop.last c.loop.shapes.items c.loop.invariant c.in_default.ensures.none

pub loop-preserved : goal.loop-preserved
loop-preserved c =
    next_shape c.args.bag.now c.args.tag.now c.loop.last c.in-Some.fields c.loop.shapes.items c.push-in-loop.new.self.items c.loop.invariant
    (c.in_ok-push-2.ensures.items ∙ ap (λ (s : Template). c.loop.shapes.items ++ s ∷ []) c.in_ok-shape_of-2.ensures)
    c.in-Some.ensures.above c.in-Some.ensures.least
