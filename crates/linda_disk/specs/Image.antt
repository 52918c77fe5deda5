-- Images of a file: what a write and a cut do to it, and what a crash may make of them, each as a
-- step from one image to another.
use Rattle.std.specs.Prelude.{◌≡◌, ℕ, ◌+◌, ◌≤◌, max, min, List, ◌++◌, length, take, drop}

-- The file with these bytes at this offset, over what was there and past the end.
abbrev pub overlay : ℕ → List ℕ → List ℕ → List ℕ
overlay at bytes file = take at file ++ bytes ++ drop (at + length bytes) file

-- A write of n bytes that a crash may cut short: any bytes in its range, also past the old end, and
-- the same elsewhere. An image that ends before the range stays as it is.
pub record TornWrite (at n : ℕ) (old new : List ℕ) : Type 0 where
  pub before : take at new ≡ take at old
  pub after : drop (at + n) new ≡ drop (at + n) old
  pub no_shorter : length old ≤ length new
  pub no_longer : length new ≤ max (length old) (at + n)

-- A cut that may not have happened: a front of the file, of some length between. An image that is
-- shorter stays.
pub record TornCut (n : ℕ) (old new : List ℕ) : Type 0 where
  pub no_shorter : min n (length old) ≤ length new
  pub front : take (length new) old ≡ new
