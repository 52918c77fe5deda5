use Rattle.linda_shared_accounts.specs.Recall.{AreKept}
use Rattle.linda_shared_accounts.proofs.places.Places.numbers_out.Given as goal

abbrev pub invariant-loop-client : goal.invariant-loop-client
invariant-loop-client l = AreKept l.state l.numbers
