use Rattle.std.proofs.Common.{◌≡◌, ◌+◌, ◌≤◌, take, length, vec_len, vec_capacity, Ok}
use Rattle.linda_shared_outbox.specs.Waiting.{waits_for}
use Rattle.linda_shared_accounts.specs.Telling.{receipts_in}
use Rattle.linda_shared_held.specs.Kept.{kept, KeepsAll}
use Rattle.linda_shared_held.specs.Posted.{WentAlone}
use Rattle.linda_shared_held.proofs.held.alone.serve_each.Given as goal

abbrev pub invariant-loop-message : goal.invariant-loop-message
invariant-loop-message g l =
    WentAlone l.fn.server l.fn.count (λ c. waits_for l.fn.boxes c) (take l.message-index l.fn.messages) l.told.items (λ c. waits_for l.boxes c) l.server
    × KeepsAll (kept l.fn.server l.fn.receipts l.fn.boxes) (Ok l.told) (kept l.server l.receipts l.boxes)
    × (vec_len l.told ≡ l.message-index)
    × (length l.fn.messages ≤ vec_capacity l.told)
    × (l.made ≡ l.fn.count + length (receipts_in l.told.items))
    × (l.server.down ≡ l.fn.server.down)
