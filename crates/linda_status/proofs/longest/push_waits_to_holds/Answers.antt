-- The beginning of the object is written, and then the waits.
use Rattle.std.proofs.Common.{codes}
use Rattle.linda_status.specs.Longest.{json_waits_to_end, json_waits_to_holds}
use Rattle.linda_status.proofs.ListedLaws.{then_pushed}
use Rattle.linda_status.proofs.longest.push_waits_to_holds.Goals as goal

pub returns : goal.returns
unfolding json_waits_to_holds
returns c =
    then_pushed c.push_waits_to_end.result c.args.out.now.items c.extend_from_slice.new.self.items c.push_waits_to_end.new.out.items
    (codes "{\n\"waits\":[") (json_waits_to_end c.args.rows.now)
    c.in_ok-extend_from_slice.ensures.items c.push_waits_to_end.ensures
