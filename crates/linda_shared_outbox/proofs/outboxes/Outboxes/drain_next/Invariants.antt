use Rattle.std.proofs.Common.{◌≡◌, ℕ, vec_len}
use Rattle.linda_shared_outbox.specs.Waiting.{waits_for}
use Rattle.linda_shared_outbox.proofs.outboxes.Outboxes.drain_next.Given as goal

abbrev pub invariant-loop-client : goal.invariant-loop-client
invariant-loop-client l = (c : ℕ) → waits_for l.self c ≡ waits_for l.fn.self c

abbrev pub decreases-loop-client : goal.decreases-loop-client
decreases-loop-client l = vec_len l.self.waiting
