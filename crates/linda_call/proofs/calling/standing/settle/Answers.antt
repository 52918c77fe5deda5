use Rattle.std.proofs.Common.{◌<◌, length, arith}
use Rattle.linda_call.specs.Standings.{settled}
use Rattle.linda_call.proofs.ListLaws.{changed_next}
use Rattle.linda_call.proofs.calling.standing.settle.Goals as goal

pub loop-standing-preserved : goal.loop-standing-preserved
loop-standing-preserved c =
    let same = c.loop-standing.auto.standing-items in
    let within = c.loop-standing-test.true in
    let low : c.loop-standing.standing-index < length c.loop-standing.standing-items = omega arith in
    changed_next settled c.loop-standing.standing-items _ c.loop-standing.standing-index _ low c.loop-standing.invariant
