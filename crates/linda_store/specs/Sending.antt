-- Sending of a buffer: what has gone out of it.
use Rattle.std.specs.Prelude.{ℕ, List, [], take, Option, Result, Ok, Err}
use Rattle.std.specs.Io.KnownBytes.{Appends}
use Rattle.linda_store.specs.declared.end.ConverseFault.{ConverseFault}
use Rattle.linda_store.specs.declared.end.ConverseFault.TheVariants as faults

-- All of the bytes if all went well, and else some first ones.
abbrev pub HasSent : {A E : Type 0} → Option (List ℕ) → Option (List ℕ) → List ℕ → Result A E
    → Type 0
HasSent old new bytes (Ok done) = Appends old new bytes
HasSent old new bytes (Err fault) = (k : ℕ) × Appends old new (take k bytes)

-- Of bytes that are made before they are sent, all if all went well, some first ones if writing
-- failed, and none if memory ran out; no other fault comes.
abbrev pub HasWritten : {A : Type 0} → Option (List ℕ) → Option (List ℕ) → List ℕ
    → Result A ConverseFault → Type 0
HasWritten old new bytes (Ok done) = Appends old new bytes
HasWritten old new bytes (Err faults.Write) = (k : ℕ) × Appends old new (take k bytes)
HasWritten old new bytes (Err faults.Memory) = Appends old new []
HasWritten old new bytes (Err faults.Read) = ⊥
HasWritten old new bytes (Err faults.Turns) = ⊥
HasWritten old new bytes (Err faults.Down) = ⊥
