-- Look-ups of a request: the least id of a tuple that it can have. Those that wait have found none.
use Rattle.std.specs.Prelude.{ℕ, ◌<◌, Bool, ◌&&◌, All, Option, Some, None, is_some}
use Rattle.std.specs.FinMap as map
use Rattle.linda_tuple.specs.Template.{Template}
use Rattle.linda_bag.specs.FreeMatch.{IsFreeMatch}
use Rattle.linda_hold.specs.Waits.{Wait}
use Rattle.linda_hold.specs.Holds.{HeldFor}
use Rattle.linda_store_step.specs.Soft.{Soft, Bagged}

-- The least id of a tuple that the template matches and that is not passed over; none if there is
-- no such tuple.
abbrev pub IsLeast : Bagged → Template → (ℕ → Bool) → Option ℕ → Type 0
IsLeast bag shape passed (Some id) =
    IsFreeMatch bag shape passed id × ((k : ℕ) → k < id → IsFreeMatch bag shape passed k → ⊥)
IsLeast bag shape passed None = (k : ℕ) → IsFreeMatch bag shape passed k → ⊥

-- whether the tuple of this id is held
abbrev pub is_held : HeldFor → ℕ → Bool
is_held holds id = is_some (map.get holds id)

-- What a request passes over: an input the tuples that are held, a read nothing.
abbrev pub passed_over : Bool → HeldFor → ℕ → Bool
passed_over remove holds id = remove && is_held holds id

-- Nobody waits in vain: for each request that waits there is no tuple that it can have.
abbrev pub IsAtRest : Bagged → Soft → Type 0
IsAtRest bag soft =
    All (λ (w : Wait). IsLeast bag w.1.template (passed_over w.1.remove soft.holds) None) soft.waits
