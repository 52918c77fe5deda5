-- Tuples that are listed a piece at a time, each piece of those that are there at its own moment.
use Rattle.std.specs.Prelude.{◌≡◌, ◌≤◌, ◌<◌, ℕ, suc, true, List, [], ◌∷◌, Option, All, Contains}
use Rattle.std.specs.Prelude.{IfSome}
use Rattle.std.specs.Ordering.{nat_cmp}
use Rattle.std.specs.FinMap as fin
use Rattle.linda_tuple.specs.declared.atom.Atom.{Atom}
use Rattle.linda_tuple.specs.Tuple.{Tuple}
use Rattle.linda_shared_listing.specs.Listing.{is_wanted}

-- the tuples that are there at a moment, by id
abbrev pub Tuples : Type 0
Tuples = fin.FinMap nat_cmp Tuple

-- The ids rise from `from` on, and `next` is above all of them.
abbrev pub AreRising : ℕ → List ℕ → Option ℕ → Type 0
AreRising from [] next = IfSome next (λ n. from ≤ n)
AreRising from (id ∷ ids) next = (from ≤ id) × AreRising (suc id) ids next

-- The ids were listed by pieces, one at each of these moments, and `next` is the id from which the
-- next piece goes on.
pub record IsGathered (tag : Option Atom) (from : ℕ) (moments : List Tuples) (ids : List ℕ)
    (next : Option ℕ) : Type 0 where
  -- None is listed twice;
  pub rising : AreRising from ids next
  -- and each that is asked for, and was there at all of these moments, is listed.
  pub listed : (id : ℕ) → from ≤ id → IfSome next (λ n. id < n)
      → All (λ bag. is_wanted bag tag id ≡ true) moments → Contains ids id
