use Rattle.std.proofs.Common.{◌≡◌, ◌++◌}
use Rattle.linda_store.specs.Turn.{replies_for}
use Rattle.linda_store.proofs.turn.push_replies.Given as goal

-- the replies among the sends so far come after the earlier ones
abbrev pub invariant-loop-to : goal.invariant-loop-to
invariant-loop-to l = l.replies.items ≡ l.fn.replies.items ++ replies_for l.client l.yielded
