use Rattle.std.proofs.Common.{◌<◌, length, arith}
use Rattle.linda_world_laws.specs.Steps.{HangsUp}
use Rattle.linda_world.proofs.SceneLaws.{asked_at}
use Rattle.linda_world.proofs.scene.Scene.close.Goals as goal

pub returns : goal.returns
returns g c =
    let within : c.args.server < length c.self.inside.servers.items = omega (arith, c.if-server-len.false, c.len.ensures) in
    asked_at (HangsUp c.args.client) c.args.server c.self.inside.servers.items c.self.inside.members c.self.inside.packets.items
    c.close.new.packets.items c.index_mut.result.now c.close.new.self within c.index_mut.ensures.value
    c.args.self.now c.self.view_is c.close.result c.asked.result c.asked.ensures c.close.ensures
