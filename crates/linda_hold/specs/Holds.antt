-- Holds: which tuple is held for which request.
use Rattle.std.specs.Prelude.{◌≡◌, ℕ, ◌==◌, List, Option, None, Some, map, filter}
use Rattle.std.specs.Ordering.{nat_cmp}
use Rattle.std.specs.FinMap as map
use Rattle.linda_hold.specs.declared.request.Request.{Request}
use Rattle.linda_hold.specs.declared.long.LongHold.{LongHold}

-- The request that each tuple is held for, by the tuple's id.
abbrev pub HeldFor : Type 0
HeldFor = map.FinMap nat_cmp Request

-- The id of the tuple that is held for a request; none if nothing is held for it.
abbrev pub IsHeldAt : HeldFor → Request → Option ℕ → Type 0
IsHeldAt holds request (Some id) = map.get holds id ≡ Some request
IsHeldAt holds request None = (id : ℕ) → map.get holds id ≡ Some request → ⊥

-- No request holds two tuples.
abbrev pub IsOneEach : HeldFor → Type 0
IsOneEach holds =
    (i k : ℕ) (request : Request) → map.get holds i ≡ Some request → map.get holds k ≡ Some request
    → i ≡ k

-- the ids that are held for a client, in the order of the entries
abbrev pub held_in : ℕ → List (ℕ × Request) → List ℕ
held_in client es = map (λ e. e.0) (filter (λ e. e.1.client == client) es)

-- The tuple is held for the request that is named.
abbrev pub IsHold : HeldFor → LongHold → Type 0
IsHold holds row = map.get holds row.id ≡ Some row.request
