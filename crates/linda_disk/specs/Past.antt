-- Record of a file: the bytes that it held when it was opened, and the calls since.
use Rattle.std.specs.Prelude.{ℕ, zero, suc, List, [], ◌∷◌, ◌++◌}
use Rattle.linda_disk.specs.declared.past.Spelling.{Spelling, fold-Spelling}
use Rattle.linda_disk.specs.declared.past.Spelling.TheOpen.{Spelling-F}
use Rattle.linda_disk.specs.declared.past.Link.{Link, fold-Link}
use Rattle.linda_disk.specs.declared.past.Link.TheOpen.{Link-F}
use Rattle.linda_disk.specs.declared.call.DeviceCall.TheVariants.{Write, Cut, Sync}
use Rattle.linda_disk.specs.DiskHistory.{DiskHistory, after}

-- one byte more, with those before it already seen
abbrev pub bytes_step : Spelling-F (List ℕ) → List ℕ
bytes_step Spelling-F.Empty = []
bytes_step (Spelling-F.With before byte) = before.value ++ byte ∷ []

-- The bytes that are spelled so.
abbrev pub bytes_of : Spelling → List ℕ
bytes_of = fold-Spelling (List ℕ) bytes_step

-- The history of a file that held these bytes too when it was opened.
abbrev pub with_more : List ℕ → DiskHistory → DiskHistory
with_more bytes h = record { first = h.first ++ bytes; calls = h.calls }

-- one link, with the record before it already seen
abbrev pub history_step : Link-F DiskHistory → DiskHistory
history_step Link-F.Opened = record { first = []; calls = [] }
history_step (Link-F.Held before bytes) = with_more bytes.value.items before.value
history_step (Link-F.Wrote before at bytes) = after (Write at (bytes_of bytes.value)) before.value
history_step (Link-F.Cut before n) = after (Cut n) before.value
history_step (Link-F.Synced before) = after Sync before.value

-- The history that a record says.
abbrev pub history_of : Link → DiskHistory
history_of = fold-Link DiskHistory history_step

-- The first of these bytes, or this one if there are none.
abbrev pub first_or : ℕ → List ℕ → ℕ
first_or byte [] = byte
first_or byte (first ∷ more) = first

-- The first byte of a file after a write at an offset, with the one before it.
abbrev pub first_after : ℕ → ℕ → List ℕ → ℕ
first_after byte zero bytes = first_or byte bytes
first_after byte (suc at) bytes = byte
