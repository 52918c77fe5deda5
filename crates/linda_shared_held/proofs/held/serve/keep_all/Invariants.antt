use Rattle.std.proofs.Common.{◌≡◌, ◌++◌, ◌+◌, ◌≤◌, take, vec_len, vec_capacity}
use Rattle.linda_shared_accounts.specs.Telling.{receipts_in}
use Rattle.linda_shared_held.proofs.held.serve.keep_all.Given as goal

abbrev pub invariant-loop-one : goal.invariant-loop-one
invariant-loop-one l =
    (l.receipts.items ≡ l.fn.receipts.items ++ receipts_in (take l.one-index l.told))
    × (vec_len l.receipts ≤ vec_len l.fn.receipts + l.one-index)
    × (vec_capacity l.receipts ≡ vec_capacity l.fn.receipts)
