use Rattle.std.proofs.Common.{◌≡◌, ◌≤◌, take, length, vec_len, vec_capacity}
use Rattle.linda_shared_queue.specs.Heard.{HasHeard}
use Rattle.linda_shared.proofs.shared.Shared.hear_all.Given as goal

abbrev pub invariant-loop-message : goal.invariant-loop-message
invariant-loop-message g l =
    HasHeard l.fn.account (take l.message-index l.fn.messages) l.account l.heard.told.items l.heard.fault l.heard.is_as_before
    × (vec_len l.heard.told ≡ l.message-index)
    × (length l.fn.messages ≤ vec_capacity l.heard.told)
    × (l.place ≡ l.message-index)
