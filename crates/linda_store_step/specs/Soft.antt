-- Soft state of a server, kept in memory only: which tuple is held for which request, and the
-- requests that wait.
use Rattle.std.specs.Prelude.{◌≡◌, ℕ, ◌+◌, ◌≤◌, List, [], length, Some, All, IfSome, IsSome}
use Rattle.std.specs.Ordering.{nat_cmp}
use Rattle.std.specs.FinMap as map
use Rattle.linda_wire.specs.declared.limits.TheConstants.{MAX_ASKS}
use Rattle.linda_tuple.specs.Tuple.{Tuple}
use Rattle.linda_hold.specs.Waits.{Wait, AreDistinct, waits_of}
use Rattle.linda_hold.specs.Holds.{HeldFor, IsOneEach, held_in}

-- tuples by id
abbrev pub Bagged : Type 0
Bagged = map.FinMap nat_cmp Tuple

-- The tuples that are held, by id, each for a request; and the requests that wait, in order of
-- arrival.
pub record Soft : Type 0 where
  pub holds : HeldFor
  pub waits : List Wait

-- nothing is held and nobody waits
abbrev pub no_asks : Soft
no_asks = record { holds = map.empty; waits = [] }

-- how many asks of a client are open: those that wait and those for which a tuple is held
abbrev pub open_asks : ℕ → Soft → ℕ
open_asks client soft =
    length (waits_of client soft.waits) + length (held_in client (map.entries soft.holds))

-- P holds of the client of each request that waits or for which a tuple is held.
pub record OfAsking (P : ℕ → Type 0) (soft : Soft) : Type 0 where
  pub waits : All (λ (w : Wait). P w.0.client) soft.waits
  pub holds : (id : ℕ) → IfSome (map.get soft.holds id) (λ request. P request.client)

-- No request waits and holds.
abbrev pub AreApart : Soft → Type 0
AreApart soft = All (λ (w : Wait). (id : ℕ) → map.get soft.holds id ≡ Some w.0 → ⊥) soft.waits

-- The ranges that holds and waits keep beside a bag: no request is in them twice, no client has
-- more open asks than the limit, and what is held is in the bag.
pub record IsSoft (bag : Bagged) (soft : Soft) : Type 0 where
  pub distinct : AreDistinct soft.waits
  pub one_each : IsOneEach soft.holds
  pub apart : AreApart soft
  pub few : (client : ℕ) → open_asks client soft ≤ MAX_ASKS
  pub there : (id : ℕ) → IsSome (map.get soft.holds id) → IsSome (map.get bag id)
