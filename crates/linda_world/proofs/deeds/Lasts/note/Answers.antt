use Rattle.std.proofs.Common.{ap, ◌∙◌}
use Rattle.std.specs.FinMap.{insert}
use Rattle.linda_map_laws.proofs.MapLaws.{one_set}
use Rattle.linda_world.proofs.deeds.Lasts.note.Goals as goal

pub returns-clause-ok : goal.returns-clause-ok
returns-clause-ok c =
    one_set c.self.inside.by_client c.insert.new.self c.args.client c.args.n c.in_ok-insert.ensures.updates
    ∙ ap (λ m. insert m c.args.client c.args.n) c.self.view_is
