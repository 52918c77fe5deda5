use Rattle.std.proofs.Common.{◌≡◌, ◌++◌, ℕ, ◌+◌, ◌≤◌, All, length, vec_len, vec_capacity}
use Rattle.linda_shared_outbox.specs.Boxes.{box_of, TakesMore}
use Rattle.linda_shared_outbox.specs.Replies.{replies_to, with_more}
use Rattle.linda_shared_outbox.specs.Waiting.{waits_for}
use Rattle.linda_shared_outbox.proofs.outboxes.Outboxes.post_all.Given as goal

abbrev pub invariant-loop-send : goal.invariant-loop-send
invariant-loop-send l =
    ((c : ℕ) → waits_for l.self c ≡ with_more (replies_to c l.yielded) (waits_for l.fn.self c))
    × (l.yielded ++ l.send-iterator.rest.items ≡ l.fn.sends.items)
    × (vec_len l.self.waiting + length l.send-iterator.rest.items ≤ vec_capacity l.self.waiting)
    × All (λ s. TakesMore (length l.send-iterator.rest.items) (box_of l.self.keys l.self.boxes s.0)) l.send-iterator.rest.items
