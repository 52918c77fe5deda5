-- Lawful formats: what is read is so spelled, what is spelled is read again, and what is left was
-- there.
use Rattle.std.specs.Prelude.{◌≡◌, ℕ, ◌<◌, ◌≤◌, List, ◌++◌, length, get_or, Ok, Err}
use Rattle.linda_codec.specs.declared.fault.ReadFault.{ReadFault}
use Rattle.linda_codec.specs.declared.fault.ReadFault.TheVariants.{Memory, Short, BadKind, BadBool}
use Rattle.linda_codec.specs.declared.fault.ReadFault.TheVariants.{BadText}
use Rattle.linda_codec.specs.declared.fault.ReadFault.TheVariants.{TooMany, LongText}
use Rattle.linda_codec.specs.Steps.{Read}
use Rattle.linda_codec.specs.Formats.{Format}

-- Each item is a byte.
abbrev pub IsBytes : List ℕ → Type 0
IsBytes bytes = (i : ℕ) → get_or bytes i 0 < 256

-- What was taken from the front of bytes, and the rest.
pub record Takes (bytes text rest : List ℕ) : Type 0 where
  pub parts : bytes ≡ text ++ rest
  pub rest_fits : IsBytes rest

-- The bytes left that a fault counts are some of so many; no reader reports memory.
abbrev pub IsLeftOf : ℕ → ReadFault → Type 0
IsLeftOf n Memory = ⊥
IsLeftOf n Short = Unit {0}
IsLeftOf n (BadKind left) = (0 < left) × (left ≤ n)
IsLeftOf n (BadBool left) = (0 < left) × (left ≤ n)
IsLeftOf n (BadText left) = (0 < left) × (left ≤ n)
IsLeftOf n (TooMany left) = (0 < left) × (left ≤ n)
IsLeftOf n (LongText left) = (0 < left) × (left ≤ n)

-- What reading so many bytes gave leaves no more, and counts no more.
abbrev pub IsBounded : {A : Type 0} → ℕ → Read A → Type 0
IsBounded n (Ok x) = length x.1 ≤ n
IsBounded n (Err fault) = IsLeftOf n fault

-- What was taken from the front of bytes spells the value, which fits.
abbrev pub IsSpelled : {A : Type 0} → (A → List ℕ) → (A → Type 0) → List ℕ → A × List ℕ → Type 0
IsSpelled spell Fits bytes x = Takes bytes (spell x.0) x.1 × Fits x.0

-- What is read is so spelled and fits, what fits is read again, and what is left was there.
pub record IsFormat {A : Type 0} (f : Format A) : Type 0 where
  pub takes : (bytes : List ℕ) (x : A × List ℕ) → IsBytes bytes → f.read bytes ≡ Ok x
      → IsSpelled f.spell f.Fits bytes x
  pub again : (value : A) (rest : List ℕ) → f.Fits value
      → f.read (f.spell value ++ rest) ≡ Ok (value, rest)
  pub bounded : (bytes : List ℕ) → IsBounded (length bytes) (f.read bytes)
