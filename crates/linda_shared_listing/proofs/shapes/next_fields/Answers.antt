use Rattle.linda_shared_listing.proofs.ShapeLaws.{kind_none}
use Rattle.linda_shared_listing.proofs.shapes.next_fields.Goals as goal

pub returns-in_default-clause-none : goal.returns-in_default-clause-none
returns-in_default-clause-none c = kind_none c.args.bag.now c.args.tag.now c.args.last c.in_default.ensures.none
