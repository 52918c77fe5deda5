use Rattle.std.proofs.Common.{sym, ◌∙◌}
use Rattle.linda_shared_accounts.proofs.PlaceLaws.{viewed}
use Rattle.linda_shared_accounts.proofs.places.Places.get.Goals as goal

pub returns : goal.returns
returns c = c.get.ensures.value ∙ sym (viewed c.self.inside.entries c.args.self.now c.self.view_is c.args.client)
