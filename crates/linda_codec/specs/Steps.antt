-- Reading from left to right: the steps that the readers of all formats and texts are made of. F is
-- the type of a reader's faults, and memory is the fault that says that memory ran out.
use Rattle.std.specs.Prelude.{◌≡◌, ◌≢◌, ℕ, zero, suc, List, [], ◌∷◌, Result, Ok, Err}
use Rattle.linda_codec.specs.declared.fault.ReadFault.{ReadFault}
use Rattle.linda_codec.specs.declared.fault.ReadFault.TheVariants.{Memory}

-- What reading gives: the value and the bytes after it, or the first fault. A fault's number counts
-- the bytes left, from the byte at fault to the end.
abbrev pub ReadOr : Type 0 → Type 0 → Type 0
ReadOr F A = Result (A × List ℕ) F

-- A step, and the next one with what it gave; the first fault ends both.
infixl 10 ◌>>=◌
abbrev pub ◌>>=◌ : {F A B : Type 0} → Result A F → (A → Result B F) → Result B F
(Ok x) >>= f = f x
(Err fault) >>= f = Err fault

-- The bytes that reading leaves after the value, or the fault.
abbrev pub left_by : {F A : Type 0} → ReadOr F A → Result (List ℕ) F
left_by (Ok x) = Ok x.1
left_by (Err fault) = Err fault

-- What the code returned, seen by view, is what reading gives, unless memory ran out.
abbrev pub GivesUnless : {F X Y : Type 0} → F → (X → Y) → Result X F → Result Y F → Type 0
GivesUnless memory view (Ok x) read = read ≡ Ok (view x)
GivesUnless memory view (Err fault) read = fault ≢ memory → read ≡ Err fault

-- What the code returned, seen by view, is what reading gives; it takes no memory, so none can run
-- out.
abbrev pub GivesWithout : {F X Y : Type 0} → F → (X → Y) → Result X F → Result Y F → Type 0
GivesWithout memory view (Ok x) read = read ≡ Ok (view x)
GivesWithout memory view (Err fault) read = (fault ≢ memory) × (read ≡ Err fault)

-- ---- bytes, with the faults of ReadFault

abbrev pub Read : Type 0 → Type 0
Read A = ReadOr ReadFault A

-- A reader of a value from the front of bytes.
abbrev pub Reader : Type 0 → Type 0
Reader A = List ℕ → Read A

abbrev pub Gives : {X Y : Type 0} → (X → Y) → Result X ReadFault → Result Y ReadFault → Type 0
Gives view result read = GivesUnless Memory view result read

abbrev pub GivesAlways : {X Y : Type 0} → (X → Y) → Result X ReadFault → Result Y ReadFault → Type 0
GivesAlways view result read = GivesWithout Memory view result read

-- That many values, one after the other.
unfoldable pub many_at : {A : Type 0} → Reader A → ℕ → Reader (List A)
many_at read zero bytes = Ok ([], bytes)
many_at read (suc n) bytes = do
  first ← read bytes
  others ← many_at read n first.1
  Ok (first.0 ∷ others.0, others.1)
