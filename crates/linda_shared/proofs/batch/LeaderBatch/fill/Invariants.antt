use Rattle.std.proofs.Common.{◌≡◌, ◌+◌, ◌≤◌, ◌++◌, length, map, vec_len, vec_capacity, nat_lt, deque_len}
use Rattle.linda_store_step.specs.declared.size.TheConstants.{MAX_BATCH}
use Rattle.linda_shared_queue.specs.Queue.{line, asks_next}
use Rattle.linda_shared.specs.Batch.{parcel, has_copy}
use Rattle.linda_shared.proofs.batch.LeaderBatch.fill.Given as goal

-- Each step takes one message in hand, and those in hand and those that wait are the same, in order.
abbrev pub invariant-loop : goal.invariant-loop
invariant-loop g l =
    (map (λ m. m.0) l.self-inside.group.messages ≡ map (λ a. a.client) l.self-inside.group.addresses)
    × (l.self-inside.group.room ≡ MAX_BATCH)
    × (length l.self-inside.group.messages + vec_len l.self-inside.answers ≤ MAX_BATCH)
    × (MAX_BATCH ≤ vec_capacity l.self-inside.answers)
    × (l.counter ≤ length l.self-inside.group.messages)
    × (l.queue.has_asked ≡ asks_next (nat_lt 0 (deque_len l.fn.queue.asking)) (nat_lt 0 (deque_len l.fn.queue.doing)) l.fn.queue.has_asked)
    × (map has_copy l.self-inside.answers.items ≡ l.fn.self.answers)
    × (l.self-inside.group.messages ++ map parcel (line l.queue.has_asked l.queue) ≡ l.fn.self.messages ++ map parcel (line l.queue.has_asked l.fn.queue))
