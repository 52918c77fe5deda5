use Rattle.std.proofs.Common.{◌≡◌}
use Rattle.std.specs.VecDeque.{deque_len, deque_capacity}
use Rattle.linda_shared_queue.proofs.router.post_all.Given as goal

abbrev pub invariant-loop-sent : goal.invariant-loop-sent
invariant-loop-sent g l = deque_capacity l.replies ≡ deque_capacity l.fn.replies

abbrev pub decreases-loop-sent : goal.decreases-loop-sent
decreases-loop-sent g l = deque_len l.replies
