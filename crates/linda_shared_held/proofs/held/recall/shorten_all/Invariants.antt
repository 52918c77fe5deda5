use Rattle.std.proofs.Common.{◌≡◌, btree_set_len}
use Rattle.linda_shared_accounts.specs.Accounts.{AreShortened}
use Rattle.linda_shared_held.proofs.held.recall.shorten_all.Given as goal

abbrev pub invariant-loop-client : goal.invariant-loop-client
invariant-loop-client g l = (l.accounts.total ≡ l.fn.accounts.total) × AreShortened l.fn.accounts.places l.accounts.places

abbrev pub decreases-loop-client : goal.decreases-loop-client
decreases-loop-client g l = btree_set_len l.clients
