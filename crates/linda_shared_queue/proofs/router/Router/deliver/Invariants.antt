use Rattle.std.proofs.Common.{◌≡◌, ◌<◌, ◌≤◌, [], vec_len, vec_capacity}
use Rattle.std.specs.VecDeque.{deque_capacity}
use Rattle.linda_store_step.specs.declared.size.TheConstants.{MAX_BATCH}
use Rattle.linda_shared_queue.proofs.router.Router.deliver.Given as goal

abbrev pub invariant-loop-answer : goal.invariant-loop-answer
invariant-loop-answer g l =
    (vec_len l.self-inside.answers ≤ MAX_BATCH) × (MAX_BATCH ≤ vec_capacity l.self-inside.answers)
    × (l.self-inside.replies.items ≡ []) × (0 < deque_capacity l.self-inside.replies)

abbrev pub decreases-loop-answer : goal.decreases-loop-answer
decreases-loop-answer g l = vec_len l.self-inside.answers
