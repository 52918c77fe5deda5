-- Numbers that are remembered for clients.
use Rattle.std.specs.Prelude.{◌≡◌, ℕ, IfSome}
use Rattle.std.specs.Ordering.{nat_cmp}
use Rattle.std.specs.BTreeMap.{BTreeMap}
use Rattle.std.specs.BTreeMap as tree
use Rattle.linda_store_state.specs.State.{State}
use Rattle.linda_store_step.specs.Answer.{last_number}

-- Each is the one that the book keeps for its client.
abbrev pub AreKept : State → BTreeMap ℕ ℕ → Type 0
AreKept st numbers = (c : ℕ) → IfSome (tree.get nat_cmp numbers c) (λ n. n ≡ last_number st c)
