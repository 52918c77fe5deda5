use Rattle.linda_snap.specs.Rising.{first_after}
use Rattle.linda_snap.proofs.RisingLaws.{first_is, none_is}
use Rattle.linda_snap.proofs.cursor.kept_after.Goals as goal

pub returns-in_default-clause-none : goal.returns-in_default-clause-none
returns-in_default-clause-none c = none_is c.args.book.now (first_after c.args.last) c.in_default.ensures.none

pub returns-clause-found : goal.returns-clause-found
returns-clause-found c =
    first_is c.args.book.now (first_after c.args.last) c.in-Some.client (
      c.in-Some.entry.0,
      c.in-Some.entry.1.now,
    ) c.in-Some.ensures.found c.in-Some.ensures.above c.in-Some.ensures.least
