use Rattle.std.proofs.Common.{Some, ap, ◌∙◌}
use Rattle.std.specs.Option.{option_map}
use Rattle.linda_map_laws.proofs.MapLaws.{viewed}
use Rattle.linda_world_laws.specs.World.{Member}
use Rattle.linda_world.proofs.member.Members.got.Goals as goal

pub returns-in-Some : goal.returns-in-Some
returns-in-Some c =
    ap (λ l. Some l) c.got.ensures
    ∙ ap (option_map (λ (m : Member). m.got)) (c.in-Some.ensures.value ∙ viewed c.self.inside.by_number c.args.self.now c.self.view_is c.args.number)

pub returns-in-None : goal.returns-in-None
returns-in-None c = ap (option_map (λ (m : Member). m.got)) (c.in-None.ensures.value
    ∙ viewed c.self.inside.by_number c.args.self.now c.self.view_is c.args.number)
