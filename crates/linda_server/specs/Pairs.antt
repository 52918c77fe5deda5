-- Two disks at a moment, and what crashes leave of the two.
use Rattle.std.specs.Prelude.{◌≡◌, ℕ, ◌+◌, ◌≤◌, List, []}
use Rattle.linda_disk.specs.View.{View}
use Rattle.linda_disk.specs.Run.{LeavesOnly}

-- The left disk and the right one, as contracts see them.
pub record Both : Type 1 where
  pub left : View
  pub right : View

-- A crash of each disk at some moment since old, whichever these are, leaves two images that have
-- P.
pub record PairsSince (old new : Both) (P : List ℕ → List ℕ → Type 0) : Type 0 where
  pub left_later : old.left.moment ≤ new.left.moment
  pub right_later : old.right.moment ≤ new.right.moment
  pub each : (left right : List ℕ) → new.left.left_since old.left.moment left
      → new.right.left_since old.right.moment right → P left right

-- A crash now leaves two images that have P.
abbrev pub PairsNow : Both → (List ℕ → List ℕ → Type 0) → Type 0
PairsNow now P =
    (left right : List ℕ) → now.left.may_leave left → now.right.may_leave right → P left right

-- these two
abbrev pub two : View → View → Both
two left right = record { left = left; right = right }

-- So many calls changed or synced the left disk since old, and so many the right one.
abbrev pub TookCalls : ℕ → ℕ → Both → Both → Type 0
TookCalls left right old new =
    (new.left.moment ≡ old.left.moment + left) × (new.right.moment ≡ old.right.moment + right)

-- A crash now leaves no byte.
abbrev pub IsVoid : View → Type 0
IsVoid v = (image : List ℕ) → v.may_leave image → image ≡ []

-- A crash at any moment since old leaves of either disk only what it could leave then.
pub record LeavesNoOther (old new : Both) : Type 0 where
  pub left : LeavesOnly old.left new.left old.left.may_leave
  pub right : LeavesOnly old.right new.right old.right.may_leave
