use Rattle.linda_world_laws.proofs.ReasonLaws.{reached_right}
use Rattle.linda_world_laws.proofs.laws.holds_have_reasons.Goals as goal

pub returns : goal.returns
returns c = let below = c.laws_below.ensures in reached_right below.sound below.deeds below.steps below.calls
