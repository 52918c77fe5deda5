-- A gate on a disk: what is before it, whether it is closed, and what is after it.
use Rattle.std.specs.Prelude.{◌≡◌, ◌≢◌, ◌≤◌, ℕ, ◌⊎◌, List, [], ◌∷◌, ◌++◌, length}
use Rattle.linda_disk.specs.View.{View, IsDurable}
use Rattle.linda_disk.specs.Run.{LeavesOnly}
use Rattle.linda_disk.specs.Runs.{Law}
use Rattle.linda_journal.specs.declared.kinds.TheConstants.{OPEN, CLOSED}

-- The file begins so, then comes a gate that is closed, and then anything.
pub record ClosesAfter (front file : List ℕ) : Type 0 where
  pub gate : ℕ
  pub rest : List ℕ
  pub parts : file ≡ front ++ gate ∷ rest
  pub closed : gate ≢ OPEN

-- The disk ends so at this offset, and a crash now leaves it so.
pub record IsShut (front : List ℕ) (gate : ℕ) (v : View) : Type 0 where
  pub place : length front ≡ gate
  pub file : ClosesAfter front v.seen
  pub durable : IsDurable v

-- After the gate, which is still closed, comes this body with a closed gate at its end; and a crash
-- now leaves it so.
pub record IsReady (front : List ℕ) (gate : ℕ) (body : List ℕ) (v : View) : Type 0 where
  pub place : length front ≡ gate
  pub value : ℕ
  pub rest : List ℕ
  pub parts : v.seen ≡ front ++ value ∷ (body ++ CLOSED ∷ rest)
  pub closed : value ≢ OPEN
  pub durable : IsDurable v

-- The gate is closed still, or it is open and the body comes after it, with a closed gate at its
-- end.
abbrev pub IsClosedOrOpened : List ℕ → List ℕ → List ℕ → Type 0
IsClosedOrOpened front body file = ClosesAfter front file ⊎ ClosesAfter (front ++ OPEN ∷ body) file

-- Of a file that begins with a gate and this body after it: no more than the gate is there, or it
-- is closed still, or it is open and the body comes after it.
abbrev pub IsLaid : List ℕ → List ℕ → Type 0
IsLaid body file = (length file ≤ 1) ⊎ IsClosedOrOpened [] body file

-- ---- what runs of device calls leave

-- After what is before the gate, it is closed at each moment.
abbrev pub stays_shut : ℕ → Law
stays_shut gate old new = (front : List ℕ) → IsShut front gate old
    → LeavesOnly old new (ClosesAfter front)

-- The gate is closed or opened at each moment.
abbrev pub opens : ℕ → Law
opens gate old new = (front body : List ℕ) → IsReady front gate body old
    → LeavesOnly old new (IsClosedOrOpened front body)

-- The gate is closed, or it is open and the body is after it, at each moment.
abbrev pub puts : ℕ → List ℕ → Law
puts gate bytes old new = (front body : List ℕ) → bytes ≡ body ++ CLOSED ∷ []
    → IsShut front gate old → LeavesOnly old new (IsClosedOrOpened front body)

-- On an empty disk no more than the gate is there at each moment.
abbrev pub lays : Law
lays old new = IsDurable old → old.seen ≡ [] → LeavesOnly old new (λ file. length file ≤ 1)

-- On an empty disk what is laid of these bytes, a body and a closed gate, at each moment.
abbrev pub inscribes : List ℕ → Law
inscribes bytes old new = (body : List ℕ) → bytes ≡ body ++ CLOSED ∷ [] → IsDurable old
    → old.seen ≡ [] → LeavesOnly old new (IsLaid body)
