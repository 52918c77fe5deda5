use Rattle.std.proofs.Common.{length}
use Rattle.linda_store.proofs.turn.+has_welcome.Given as goal

abbrev pub decreases-has_welcome : goal.decreases-has_welcome
decreases-has_welcome l = length l.sends.now
