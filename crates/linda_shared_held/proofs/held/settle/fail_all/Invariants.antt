use Rattle.std.proofs.Common.{◌≡◌, ◌+◌, ◌++◌, map, reverse, replicate, vec_len, vec_capacity}
use Rattle.linda_shared_accounts.specs.declared.effect.Effect.TheVariants as outcomes
use Rattle.linda_shared_held.proofs.held.settle.fail_all.Given as goal

abbrev pub invariant-loop-job : goal.invariant-loop-job
invariant-loop-job g l =
    (l.accounts ≡ l.fn.accounts)
    × (vec_len l.answered + vec_len l.asked ≡ vec_len l.fn.answered + vec_len l.fn.asked)
    × (vec_capacity l.asked ≡ vec_capacity l.fn.asked)
    × (vec_capacity l.answered ≡ vec_capacity l.fn.answered)
    × (map (λ a. a.told) l.answered.items ++ replicate (vec_len l.asked) (outcomes.Failed l.fn.fault)
    ≡ map (λ a. a.told) l.fn.answered.items ++ replicate (vec_len l.fn.asked) (outcomes.Failed l.fn.fault))
    × (map (λ a. a.address) l.answered.items ++ reverse (map (λ a. a.address) l.asked.items)
    ≡ map (λ a. a.address) l.fn.answered.items ++ reverse (map (λ a. a.address) l.fn.asked.items))

abbrev pub decreases-loop-job : goal.decreases-loop-job
decreases-loop-job g l = vec_len l.asked
