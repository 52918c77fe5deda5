use Rattle.std.specs.FinMap as map
use Rattle.linda_hold.proofs.HoldLaws.{own_count}
use Rattle.linda_hold.proofs.holds.Holds.count_of.Goals as goal

pub returns : goal.returns
returns c =
    own_count c.self.inside.by_id c.args.self.now c.self.view_is c.args.client c.count_of.result
    (c.count_of.ensures (map.get c.self.inside.by_id) c.self.invariant)
