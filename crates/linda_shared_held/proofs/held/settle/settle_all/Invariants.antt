use Rattle.std.proofs.Common.{◌≡◌, ◌+◌, ◌<◌, ◌^◌, ◌++◌, length, map, reverse, vec_len, vec_capacity}
use Rattle.linda_shared_accounts.specs.Telling.{receipts_in}
use Rattle.linda_shared_accounts.specs.Effect.{told_of}
use Rattle.linda_shared_held.proofs.held.settle.settle_all.Given as goal

abbrev pub invariant-loop-job : goal.invariant-loop-job
invariant-loop-job g l =
    (l.accounts.total + length (receipts_in l.told.items) ≡ l.fn.accounts.total + length (receipts_in l.fn.told.items))
    × (l.accounts.places ≡ l.fn.accounts.places)
    × (l.accounts.total ≡ l.count)
    × (l.count + length (receipts_in l.told.items) ≡ l.fn.count + length (receipts_in l.fn.told.items))
    × (l.count + length (receipts_in l.told.items) < 2 ^ 64)
    × (vec_len l.told ≡ vec_len l.asked)
    × (vec_len l.answered + vec_len l.asked ≡ vec_len l.fn.answered + vec_len l.fn.asked)
    × (vec_capacity l.asked ≡ vec_capacity l.fn.asked)
    × (vec_capacity l.answered ≡ vec_capacity l.fn.answered)
    × (map (λ a. a.told) l.answered.items ++ reverse (map told_of l.told.items) ≡ map (λ a. a.told) l.fn.answered.items
    ++ reverse (map told_of l.fn.told.items))
    × (map (λ a. a.address) l.answered.items ++ reverse (map (λ a. a.address) l.asked.items)
    ≡ map (λ a. a.address) l.fn.answered.items ++ reverse (map (λ a. a.address) l.fn.asked.items))

abbrev pub decreases-loop-job : goal.decreases-loop-job
decreases-loop-job g l = vec_len l.asked
