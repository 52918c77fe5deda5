use Rattle.linda_shared_listing.proofs.KindLaws.{next_is, none_is}
use Rattle.linda_shared_listing.proofs.kinds.next_kind.Goals as goal

pub returns-clause-found : goal.returns-clause-found
returns-clause-found c =
    next_is c.args.bag.now c.args.last c.kind_after.result c.kind_after.ensures.past c.kind_after.ensures.counted
    c.kind_after.ensures.some c.kind_after.ensures.least

pub returns-clause-none : goal.returns-clause-none
returns-clause-none c = none_is c.args.bag.now c.args.last c.kind_after.result c.kind_after.ensures.none
