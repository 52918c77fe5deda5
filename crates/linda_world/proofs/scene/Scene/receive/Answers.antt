use Rattle.std.proofs.Common.{◌<◌, length, sym, subst}
use Rattle.std.specs.Prelude.{Ok}
use Rattle.linda_client.specs.React.{Receive}
use Rattle.linda_world_laws.specs.World.{World}
use Rattle.linda_world.proofs.SceneLaws.{received_at}
use Rattle.linda_world.proofs.scene.Scene.receive.Goals as goal

pub returns-in-Ok : goal.returns-in-Ok
returns-in-Ok g c =
    let low : c.args.k < length c.self.inside.packets.items = subst (λ (x : World). c.args.k < length x.packets) (sym c.self.view_is) c.requires in
    received_at (Receive c.args.server c.args.reply) c.args.client c.args.k c.self.inside.servers.items c.self.inside.members c.react.new.self
    c.self.inside.packets.items c.react.new.packets.items c.mark_delivered.new.packets.items (Ok c.in-Ok.seen) low c.in-Ok.ensures
    c.mark_delivered.ensures c.args.self.now c.self.view_is
