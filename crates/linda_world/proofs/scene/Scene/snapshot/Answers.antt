use Rattle.std.proofs.Common.{◌<◌, length, arith}
use Rattle.linda_world_laws.specs.Steps.{Saves}
use Rattle.linda_world.proofs.SceneLaws.{asked_at, silent_at}
use Rattle.linda_world.proofs.scene.Scene.snapshot.Goals as goal

pub returns : goal.returns
returns g c =
    let within : c.args.server < length c.self.inside.servers.items = omega (arith, c.if-server-len.false, c.len.ensures) in
    asked_at Saves c.args.server c.self.inside.servers.items c.self.inside.members c.self.inside.packets.items
    c.self.inside.packets.items c.index_mut.result.now c.snapshot.new.self within c.index_mut.ensures.value
    c.args.self.now c.self.view_is c.snapshot.result c.asked.result c.asked.ensures
    (silent_at Saves c.args.server c.index_mut.result.now c.self.inside.packets.items c.snapshot.new.self c.snapshot.result c.snapshot.ensures)
