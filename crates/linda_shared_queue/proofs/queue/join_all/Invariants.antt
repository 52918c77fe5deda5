use Rattle.std.proofs.Common.{◌≡◌, ◌+◌, ◌≤◌, ◌++◌, map, length, vec_len, deque_len, deque_capacity}
use Rattle.linda_shared_queue.specs.Queue.{seen, all_seen}
use Rattle.linda_shared_queue.proofs.queue.join_all.Given as goal

abbrev pub invariant-loop-message : goal.invariant-loop-message
invariant-loop-message g l =
    (l.behind ≡ length l.message-iterator.rest.items)
    × (l.account.asked + l.behind ≡ l.fn.account.asked + vec_len l.fn.messages)
    × (l.account.client ≡ l.fn.account.client)
    × (l.account.deeds ≡ l.fn.account.deeds)
    × (l.account.ring ≡ l.fn.account.ring)
    × (deque_len l.line + l.behind ≤ deque_capacity l.line)
    × (map seen l.line.items ++ all_seen l.message-iterator.rest.items ≡ map seen l.fn.line.items ++ all_seen l.fn.messages.items)
