use Rattle.std.proofs.Common.{◌≡◌, ℕ, ◌+◌, ◌≤◌, All, length, take, vec_len, vec_capacity}
use Rattle.linda_shared_outbox.specs.Boxes.{box_of, TakesMore}
use Rattle.linda_shared_outbox.specs.Waiting.{waits_for}
use Rattle.linda_shared_outbox.proofs.outboxes.Outboxes.make_places.Given as goal

abbrev pub invariant-loop-send : goal.invariant-loop-send
invariant-loop-send l =
    ((c : ℕ) → waits_for l.self c ≡ waits_for l.fn.self c)
    × (vec_len l.self.waiting + length l.fn.sends ≤ vec_capacity l.self.waiting)
    × All (λ s. TakesMore (length l.fn.sends) (box_of l.self.keys l.self.boxes s.0)) (take l.send-index l.fn.sends)
