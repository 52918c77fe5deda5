use Rattle.std.proofs.Common.{ap, ◌∙◌}
use Rattle.std.specs.FinMap.{remove}
use Rattle.linda_map_laws.proofs.MapLaws.{one_gone}
use Rattle.linda_shared_accounts.proofs.places.Places.remove.Goals as goal

pub returns : goal.returns
returns c =
    one_gone c.self.inside.entries c.remove-gone.new.self c.args.client c.remove-gone.ensures.updates
    ∙ ap (λ m. remove m c.args.client) c.self.view_is
