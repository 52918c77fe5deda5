use Rattle.std.proofs.Common.{◌≡◌}
use Rattle.linda_shared_held.specs.Parked.{AreBack}
use Rattle.linda_shared_held.proofs.held.finish.put_all_back.Given as goal

abbrev pub invariant-loop-account : goal.invariant-loop-account
invariant-loop-account g l = (l.accounts.total ≡ l.fn.accounts.total) × AreBack l.fn.accounts l.yielded l.accounts
