-- The first numbers, from one on, of which something is so.
use Rattle.std.specs.Prelude.{◌≡◌, ◌≤◌, ◌<◌, ℕ, suc, Bool, true, false, List, [], ◌∷◌}
use Rattle.std.specs.Prelude.{Option, None, Some, min}

module _ (is_so : ℕ → Bool) where
  -- It is the least number from `from` on of which it is so.
  pub record IsLeast (from number : ℕ) : Type 0 where
    pub above : from ≤ number
    pub so : is_so number ≡ true
    pub least : (k : ℕ) → from ≤ k → k < number → is_so k ≡ false

  -- It is that number, or nothing if it is so of no number from there on.
  abbrev pub IsNext : ℕ → Option ℕ → Type 0
  IsNext from None = (k : ℕ) → from ≤ k → is_so k ≡ false
  IsNext from (Some number) = IsLeast from number

  -- The numbers are the first ones from `from` on, none left out between them, and `next` is the
  -- one after them, or nothing if there is none.
  abbrev pub AreFirst : ℕ → List ℕ → Option ℕ → Type 0
  AreFirst from [] next = IsNext from next
  AreFirst from (number ∷ numbers) next = IsLeast from number × AreFirst (suc number) numbers next

-- The lesser of two numbers; the one that is there if the other is not.
abbrev pub lesser_of : Option ℕ → Option ℕ → Option ℕ
lesser_of None other = other
lesser_of (Some one) None = Some one
lesser_of (Some one) (Some other) = Some (min one other)
