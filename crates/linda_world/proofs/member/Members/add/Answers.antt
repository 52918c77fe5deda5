use Rattle.std.proofs.Common.{ap, ◌∙◌}
use Rattle.std.specs.FinMap.{insert}
use Rattle.linda_map_laws.proofs.MapLaws.{one_set}
use Rattle.linda_world_laws.specs.World.{Member}
use Rattle.linda_world.proofs.member.Members.add.Goals as goal

pub returns-in-Ok-clause-ok : goal.returns-in-Ok-clause-ok
returns-in-Ok-clause-ok c =
    let member : Member = record { client = c.args.client; got = c.new.result.items } in
    one_set c.self.inside.by_number c.insert.new.self c.args.number member c.in-Ok.ensures.updates
    ∙ ap (λ m. insert m c.args.number member) c.self.view_is
    ∙ ap (λ l. insert c.args.self.now c.args.number (record { client = c.args.client; got = l })) c.new.ensures.items
