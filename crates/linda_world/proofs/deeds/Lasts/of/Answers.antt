use Rattle.std.proofs.Common.{ap, ◌∙◌}
use Rattle.linda_map_laws.proofs.MapLaws.{viewed}
use Rattle.linda_world.specs.Noted.{noted_number}
use Rattle.linda_world.proofs.deeds.Lasts.of.Goals as goal

pub returns-in-Some : goal.returns-in-Some
returns-in-Some c = ap noted_number (c.in-Some.ensures.value ∙ viewed c.self.inside.by_client c.args.self.now c.self.view_is c.args.client)

pub returns-in-None : goal.returns-in-None
returns-in-None c = ap noted_number (c.in-None.ensures.value ∙ viewed c.self.inside.by_client c.args.self.now c.self.view_is c.args.client)
