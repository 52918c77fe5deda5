-- Reading at an offset: where a fault is reported, and what is read there.
use Rattle.std.specs.Prelude.{◌≡◌, ℕ, ◌-◌, ◌<◌, ◌≤◌, List, ◌++◌, length, drop, Result, Ok, Err}
use Rattle.std.specs.Prelude.{IfOk, IfErr, IsOk, IsErrOf}
use Rattle.linda_codec.specs.declared.fault.ReadFault.{ReadFault}
use Rattle.linda_codec.specs.declared.fault.ReadFault.TheVariants.{Memory, Short, BadKind, BadBool}
use Rattle.linda_codec.specs.declared.fault.ReadFault.TheVariants.{BadText}
use Rattle.linda_codec.specs.declared.fault.ReadFault.TheVariants.{TooMany, LongText}
use Rattle.linda_codec.specs.Steps.{Read, Reader, Gives}
use Rattle.linda_codec.specs.Formats.{Format}

-- A fault given by its offset, if so many bytes were there in all.
abbrev pub placed : ℕ → ReadFault → ReadFault
placed n Memory = Memory
placed n Short = Short
placed n (BadKind left) = BadKind (n - left)
placed n (BadBool left) = BadBool (n - left)
placed n (BadText left) = BadText (n - left)
placed n (TooMany left) = TooMany (n - left)
placed n (LongText left) = LongText (n - left)

-- What reading gave, with the offset of the next byte, or the offset of the fault.
abbrev pub settled : {A : Type 0} → ℕ → Read A → Result (A × ℕ) ReadFault
settled n (Ok x) = Ok (x.0, n - length x.1)
settled n (Err fault) = Err (placed n fault)

-- What a reader gives from that offset on; past the end there are no bytes.
abbrev pub read_at : {A : Type 0} → Reader A → List ℕ → ℕ → Result (A × ℕ) ReadFault
read_at read bytes at = settled (length bytes) (read (drop at bytes))

-- The offset that a fault gives, if it gives one, is one of those.
abbrev pub IsPlace : ℕ → ℕ → ReadFault → Type 0
IsPlace from to Memory = Unit {0}
IsPlace from to Short = Unit {0}
IsPlace from to (BadKind at) = (from ≤ at) × (at < to)
IsPlace from to (BadBool at) = (from ≤ at) × (at < to)
IsPlace from to (BadText at) = (from ≤ at) × (at < to)
IsPlace from to (TooMany at) = (from ≤ at) × (at < to)
IsPlace from to (LongText at) = (from ≤ at) × (at < to)

-- A value that fits is spelled from the first offset to the second.
abbrev pub IsSpelledAt : {A : Type 0} → Format A → List ℕ → ℕ → A × ℕ → Type 0
IsSpelledAt f bytes at x =
    f.Fits x.0 × (x.1 ≤ length bytes) × (drop at bytes ≡ f.spell x.0 ++ drop x.1 bytes)

-- If a value is spelled from the offset on, it is the answer, with the offset of the byte after it,
-- unless memory runs out.
abbrev pub ReadsSpelled : {A : Type 0} → Format A → List ℕ → ℕ → Result (A × ℕ) ReadFault → Type 0
ReadsSpelled {A = A} f bytes at answer =
    (value : A) (rest : List ℕ) → f.Fits value → drop at bytes ≡ f.spell value ++ rest
    → Gives (λ x. x) answer (Ok (value, length bytes - length rest))

-- What was read at the offset: a value and the offset of the byte after it, or the first fault.
pub record IsReadAt {A : Type 0} (f : Format A) (bytes : List ℕ) (at : ℕ)
    (read : Result (A × ℕ) ReadFault) : Type 0 where
  -- What is read is spelled so.
  pub found : IfOk read (IsSpelledAt f bytes at)
  -- What is spelled so is read, unless memory runs out.
  pub only : ReadsSpelled f bytes at read
  -- Which fault it is, and at which offset.
  pub exact : Gives (λ x. x) read (read_at f.read bytes at)
  -- The offset of a fault is within what was read.
  pub place : IfErr read (IsPlace at (length bytes))
  -- Memory runs out only if a value is at the offset.
  pub memory : IsErrOf read Memory → IsOk (f.read (drop at bytes))
