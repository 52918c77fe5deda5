use Rattle.std.proofs.Common.{ap, ◌∙◌, is_some}
use Rattle.linda_map_laws.proofs.MapLaws.{viewed}
use Rattle.linda_world.proofs.member.Members.has.Goals as goal

pub returns : goal.returns
returns c = c.contains_key.ensures ∙ ap is_some (viewed c.self.inside.by_number c.args.self.now c.self.view_is c.args.number)
