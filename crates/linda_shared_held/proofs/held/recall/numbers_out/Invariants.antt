use Rattle.linda_shared_accounts.specs.Recall.{AreKept}
use Rattle.linda_shared_held.proofs.held.recall.numbers_out.Given as goal

abbrev pub invariant-loop : goal.invariant-loop
invariant-loop l = AreKept l.state l.numbers
