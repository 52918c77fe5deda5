use Rattle.std.proofs.Common.{int_cmp}
use Rattle.std.specs.Cmp.{int_cmp_total}
use Rattle.linda_bag.specs.Ids.{IsOf}
use Rattle.linda_bag.specs.Ints.{ids_at}
use Rattle.linda_bag.proofs.FilingLaws.{same_found, taken}
use Rattle.linda_bag.proofs.ints.unfile_if_any.Goals as goal

pub returns-in_default : goal.returns-in_default
returns-in_default g c = rw c.in_default.is (same_found IsOf int_cmp (ids_at c.args.sets.now) c.args.id)

pub returns-in-Some : goal.returns-in-Some
returns-in-Some g c = rw c.in-Some.is (taken int_cmp_total c.take.ensures)
