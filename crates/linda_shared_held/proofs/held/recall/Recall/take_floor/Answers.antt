use Rattle.std.proofs.Common.{sym}
use Rattle.linda_map_laws.proofs.MapLaws.{one_gone}
use Rattle.linda_shared_held.proofs.FloorLaws.{floor_taken, no_floor}
use Rattle.linda_shared_held.proofs.held.recall.Recall.take_floor.Goals as goal

pub returns-in-Some-clause-floor : goal.returns-in-Some-clause-floor
returns-in-Some-clause-floor c = floor_taken c.args.self.now c.args.client c.in-Some.number (sym c.in-Some.ensures.value)

pub returns-in-Some-clause-taken : goal.returns-in-Some-clause-taken
returns-in-Some-clause-taken c = one_gone c.args.self.now.floors c.remove.new.self c.args.client c.in-Some.ensures.updates

pub returns-in-None-clause-floor : goal.returns-in-None-clause-floor
returns-in-None-clause-floor c = no_floor c.args.self.now c.args.client (sym c.in-None.ensures.value)

pub returns-in-None-clause-taken : goal.returns-in-None-clause-taken
returns-in-None-clause-taken c = one_gone c.args.self.now.floors c.remove.new.self c.args.client c.in-None.ensures.updates
