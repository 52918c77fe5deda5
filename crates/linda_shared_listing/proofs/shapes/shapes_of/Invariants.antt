use Rattle.linda_shared_listing.proofs.ShapeLaws.{AreShapes}
use Rattle.linda_shared_listing.proofs.shapes.shapes_of.Given as goal

-- There is a template for each number of fields up to the last one, if a tuple of the tag has it.
abbrev pub invariant-loop : goal.invariant-loop
invariant-loop l = AreShapes l.bag l.tag l.last l.shapes.items
