-- Reading at an offset: where a fault is reported, and what is read there.
use Rattle.std.specs.Prelude.{ℕ, ◌-◌, List, length, drop, Result, Ok, Err}
use Rattle.linda_text.specs.declared.fault.TextFault.{TextFault}
use Rattle.linda_text.specs.declared.fault.TextFault.TheVariants.{Memory, SyntaxAt}
use Rattle.linda_text.specs.declared.fault.TextFault.TheVariants.{TooManyFields, TextTooLong}
use Rattle.linda_text.specs.declared.fault.TextFault.TheVariants.{NumberRange}
use Rattle.linda_text.specs.Steps.{Read, Reader}

-- A fault given by its offset, if so many bytes were there in all.
abbrev pub placed : ℕ → TextFault → TextFault
placed n Memory = Memory
placed n (SyntaxAt left) = SyntaxAt (n - left)
placed n TooManyFields = TooManyFields
placed n TextTooLong = TextTooLong
placed n NumberRange = NumberRange

-- What reading gave, with the offset of the next byte, or the offset of the fault.
abbrev pub settled : {A : Type 0} → ℕ → Read A → Result (A × ℕ) TextFault
settled n (Ok x) = Ok (x.0, n - length x.1)
settled n (Err fault) = Err (placed n fault)

-- What a reader gives from that offset on; past the end there are no bytes.
abbrev pub read_at : {A : Type 0} → Reader A → List ℕ → ℕ → Result (A × ℕ) TextFault
read_at read bytes at = settled (length bytes) (read (drop at bytes))

-- What reading all of so many bytes gave, with the offset of the fault.
abbrev pub told : {A : Type 0} → ℕ → Result A TextFault → Result A TextFault
told n (Ok a) = Ok a
told n (Err fault) = Err (placed n fault)
