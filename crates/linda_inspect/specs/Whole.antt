-- A bank that is whole before a damage.
use Rattle.std.specs.Prelude.{◌≤◌, ℕ, List, [], ◌∷◌, ◌++◌, take}
use Rattle.linda_store_state.specs.State.{State}
use Rattle.linda_snap.specs.Stands.{StandsOn}
use Rattle.linda_journal.specs.declared.kinds.TheConstants.{CLOSED}

-- A prefix of the bytes that ends at this offset or before it, with a closed gate after it, is a
-- bank of this generation that represents this state.
abbrev pub IsOnFront : List ℕ → ℕ → ℕ → State → Type 0
IsOnFront bytes offset generation st =
    (end : ℕ) × (end ≤ offset) × StandsOn (take end bytes ++ CLOSED ∷ []) generation st
