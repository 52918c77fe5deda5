use Rattle.std.proofs.Common.{is_some, sym, ap, ◌∙◌}
use Rattle.linda_hold.proofs.ViewLaws.{viewed}
use Rattle.linda_hold.proofs.holds.HoldsIdSet.has.Goals as goal

pub returns : goal.returns
returns c = c.contains.ensures ∙ sym (ap is_some (viewed c.self.inside.by_id c.args.self.now c.self.view_is c.args.id))
