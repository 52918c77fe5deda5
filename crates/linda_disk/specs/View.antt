-- A disk at a moment, and what a crash may leave of it.
use Rattle.std.specs.Prelude.{◌≡◌, ℕ, ◌≤◌, ◌⊎◌, List}

-- What contracts see of a disk at a moment.
pub record View : Type 1 where
  -- what a read gives
  pub seen : List ℕ
  -- what a crash now may leave
  pub may_leave : List ℕ → Type 0
  -- the moment, a number that does not fall from call to call
  pub moment : ℕ
  -- what a crash at some moment from that one on might have left
  pub left_since : ℕ → List ℕ → Type 0

-- A crash now leaves what a read gives.
abbrev pub IsDurable : View → Type 0
IsDurable v = (image : List ℕ) → v.may_leave image → image ≡ v.seen

-- What holds of each view of an honest disk.
pub record IsTimed (v : View) : Type 0 where
  -- this moment is one of those since any before it
  pub counts_now : (t : ℕ) (image : List ℕ) → t ≤ v.moment → v.may_leave image
      → v.left_since t image
  -- since this moment there is no other
  pub only_now : (image : List ℕ) → v.left_since v.moment image → v.may_leave image
  -- a crash may leave what a read gives
  pub stays : v.may_leave v.seen

-- A crash may leave nothing that it could not leave before.
abbrev pub LeavesNoMore : View → View → Type 0
LeavesNoMore old new = (image : List ℕ) → new.may_leave image → old.may_leave image

-- What a crash may leave now is one step from what it could leave before.
abbrev pub Follows : (List ℕ → List ℕ → Type 0) → View → View → Type 0
Follows step old new =
    (image : List ℕ) → new.may_leave image
    → (before : List ℕ) × old.may_leave before × step before image

-- Time goes on: what a crash since t might have left is what it might have left before, and what it
-- may leave now.
pub record Elapses (old new : View) : Type 0 where
  pub later : old.moment ≤ new.moment
  pub nothing_else : (t : ℕ) (image : List ℕ) → t ≤ old.moment → new.left_since t image
      → old.left_since t image ⊎ new.may_leave image
  pub nothing_lost : (t : ℕ) (image : List ℕ) → t ≤ old.moment → old.left_since t image
      → new.left_since t image
