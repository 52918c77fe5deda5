-- Reading texts from left to right, by the steps of linda_codec, with the faults of texts.
use Rattle.std.specs.Prelude.{List, ℕ, Result}
use Rattle.linda_codec.specs.Steps.{ReadOr, GivesUnless, GivesWithout}
use Rattle.linda_text.specs.declared.fault.TextFault.{TextFault}
use Rattle.linda_text.specs.declared.fault.TextFault.TheVariants.{Memory}

abbrev pub Read : Type 0 → Type 0
Read A = ReadOr TextFault A

-- A reader of a value from the front of bytes.
abbrev pub Reader : Type 0 → Type 0
Reader A = List ℕ → Read A

abbrev pub Gives : {X Y : Type 0} → (X → Y) → Result X TextFault → Result Y TextFault → Type 0
Gives view result read = GivesUnless Memory view result read

abbrev pub GivesAlways : {X Y : Type 0} → (X → Y) → Result X TextFault → Result Y TextFault → Type 0
GivesAlways view result read = GivesWithout Memory view result read
