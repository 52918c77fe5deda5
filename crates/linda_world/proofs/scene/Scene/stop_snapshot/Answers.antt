use Rattle.std.proofs.Common.{◌<◌, [], length, arith}
use Rattle.linda_world_laws.specs.Steps.{Halts}
use Rattle.linda_world.proofs.SceneLaws.{asked_at, silent_at}
use Rattle.linda_world.proofs.scene.Scene.stop_snapshot.Goals as goal

pub returns : goal.returns
returns g c =
    let within : c.args.server < length c.self.inside.servers.items = omega (arith, c.if-server-len.false, c.len.ensures) in
    asked_at (Halts []) c.args.server c.self.inside.servers.items c.self.inside.members c.self.inside.packets.items
    c.self.inside.packets.items c.index_mut.result.now c.stop.new.self within c.index_mut.ensures.value
    c.args.self.now c.self.view_is c.stop.result c.asked.result c.asked.ensures
    (silent_at (Halts []) c.args.server c.index_mut.result.now c.self.inside.packets.items c.stop.new.self c.stop.result c.stop.ensures)
