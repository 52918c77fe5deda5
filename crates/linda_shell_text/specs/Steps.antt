-- Reading an event from left to right, by the steps of linda_codec, with the faults of events.
use Rattle.std.specs.Prelude.{ℕ, List, Result, Ok, Err}
use Rattle.linda_codec.specs.Steps.{ReadOr, GivesUnless, GivesWithout}
use Rattle.linda_text.specs.declared.fault.TextFault.{TextFault}
use Rattle.linda_text.specs.declared.fault.TextFault.TheVariants.{Memory}
use Rattle.linda_text.specs.Places.{placed}
use Rattle.linda_shell_text.specs.declared.fault.EventTextFault.{EventTextFault}
use Rattle.linda_shell_text.specs.declared.fault.EventTextFault.TheVariants.{Text, TooManyNested}

abbrev pub Read : Type 0 → Type 0
Read A = ReadOr EventTextFault A

-- A reader of a value from the front of bytes.
abbrev pub Reader : Type 0 → Type 0
Reader A = List ℕ → Read A

-- What reading a text below an event gave.
abbrev pub lifted : {A : Type 0} → Result A TextFault → Result A EventTextFault
lifted (Ok x) = Ok x
lifted (Err fault) = Err (Text fault)

abbrev pub Gives : {X Y : Type 0} → (X → Y) → Result X EventTextFault → Result Y EventTextFault
    → Type 0
Gives view result read = GivesUnless (Text Memory) view result read

abbrev pub GivesAlways : {X Y : Type 0} → (X → Y) → Result X EventTextFault
    → Result Y EventTextFault → Type 0
GivesAlways view result read = GivesWithout (Text Memory) view result read

-- A fault given by its offset, if there were so many bytes in all.
abbrev pub settled_fault : ℕ → EventTextFault → EventTextFault
settled_fault n (Text fault) = Text (placed n fault)
settled_fault n TooManyNested = TooManyNested

-- What reading all of so many bytes gave, with the offset of the fault.
abbrev pub told : {A : Type 0} → ℕ → Result A EventTextFault → Result A EventTextFault
told n (Ok a) = Ok a
told n (Err fault) = Err (settled_fault n fault)
