-- Runs of device calls: what a crash at any moment of them leaves.
use Rattle.std.specs.Prelude.{ℕ, ◌≤◌, ◌⊎◌, List}
use Rattle.linda_disk.specs.View.{View}

-- A crash at any moment since old leaves an image that has P.
pub record LeavesOnly (old new : View) (P : List ℕ → Type 0) : Type 0 where
  pub later : old.moment ≤ new.moment
  pub each : (image : List ℕ) → new.left_since old.moment image → P image
  -- a crash since an earlier moment leaves what one could leave before, or an image that has P
  pub before : (t : ℕ) (image : List ℕ) → t ≤ old.moment → new.left_since t image
      → old.left_since t image ⊎ P image
