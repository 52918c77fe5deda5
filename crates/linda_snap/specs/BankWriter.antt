-- A new bank that is written in steps while its server goes on: what is after its first gate,
-- and what is still to come.
use Rattle.std.specs.Prelude.{◌≡◌, ◌≤◌, ◌<◌, ◌+◌, ◌^◌, ◌++◌, ◌⊎◌, ℕ, List, [], All, length, IfSome}
use Rattle.std.specs.Prelude.{IfNone}
use Rattle.linda_codec.specs.Formats.{number, short_number}
use Rattle.linda_store_state.specs.declared.deed.Deed.{Deed}
use Rattle.linda_store_state.specs.DeedFormat.{written}
use Rattle.linda_store_state.specs.State.{State, IsState}
use Rattle.linda_store_state.specs.Proper.{AreDone}
use Rattle.linda_journal.specs.Bank.{magic}
use Rattle.linda_journal.specs.declared.limits.TheConstants.{MIN_BYTES}
use Rattle.linda_journal.specs.Records.{IsRecord, IsUnspelled, payload, bytes_for, spell_records}
use Rattle.linda_journal.specs.Renewal.{IsLast}
use Rattle.linda_snap.specs.declared.bank_writer.BankWriter.{BankWriter}
use Rattle.linda_snap.specs.declared.bank_writer.BankChunk.{BankChunk}
use Rattle.linda_snap.specs.declared.bank_writer.BankChunk.TheVariants.{More, Last}
use Rattle.linda_snap.specs.Clients.{OwesClients}
use Rattle.linda_snap.specs.SnapshotEncoder.{Tuples, Owes, IsSafe, IsThrough}
use Rattle.linda_snap.specs.Snapshot.{spell_state, FitsState}
use Rattle.linda_snap.specs.Stands.{deeds_in}

-- What is written first: the letters, the generation and the length of the snapshot.
abbrev pub heading : ℕ → ℕ → List ℕ
heading generation len = magic written ++ (number.spell generation ++ short_number.spell len)

-- `front` is written after the first gate of the new bank, and the server is in the state `st`:
pub record Follows (s : BankWriter) (front : List ℕ) (st : State) : Type 0 where
  -- it began in this state,
  pub begun : State
  pub ranges : IsState begun
  pub short : length (spell_state written begun) < 2 ^ 32
  pub len : s.len ≡ length (spell_state written begun)
  pub low : 1 ≤ s.generation
  pub high : s.generation < 2 ^ 64
  -- what was done since is in these records, so many, of whose bytes the `tail` is written;
  pub records : List (List Deed)
  pub count : s.records ≡ length records
  pub good : All (IsRecord written) records
  pub done : AreDone begun (deeds_in records) st
  pub tail : List ℕ
  pub left : List ℕ
  pub spelled : s.since.bytes.items ≡ spell_records written records
  pub parts : s.since.bytes.items ≡ tail ++ left
  pub place : s.since.written ≡ length tail
  -- and all of the bank, with the gate at its end, is within the limit.
  pub within : MIN_BYTES + 1 + s.len + length s.since.bytes.items ≤ s.limit
  -- The heading is written, a body and then the tail.
  pub body : List ℕ
  pub front_is : front
      ≡ heading s.generation (length (spell_state written begun)) ++ (body ++ tail)
  -- The snapshot writer owes the rest of the body; once there is none, the clients do; and once
  -- there are none either, the body is the whole snapshot.
  pub owes : IfSome s.snapshot (λ d. Owes begun d body st.bag × (d.next ≤ st.next) × (tail ≡ []))
  pub lists : IfNone s.snapshot (IfSome s.clients (λ c. OwesClients begun c body × (tail ≡ [])))
  pub whole : IfNone s.snapshot (IfNone s.clients
      ((body ≡ spell_state written begun) × FitsState written begun))

-- All tuples of the snapshot are written.
pub record IsBehindTuples (s : BankWriter) (front : List ℕ) (st : State) : Type 0 where
  pub follows : Follows s front st
  pub through : IfSome s.snapshot (λ d. IsThrough follows.begun d)

-- The tuple of this id may be taken.
abbrev pub IsSafeFor : BankWriter → Tuples → ℕ → Type 0
IsSafeFor s now id = IfSome s.snapshot (λ d. IsSafe d now id)

-- The records of these deeds have no room: one of the deeds has no spelling in the form of new
-- banks, or with them the bank would pass its limit.
abbrev pub HasNoRoomFor : BankWriter → List Deed → Type 0
HasNoRoomFor s ds =
    IsUnspelled written ds
    ⊎ (s.limit < MIN_BYTES + 1 + s.len
    + (length s.since.bytes.items + bytes_for (length ds) (length (payload written ds))))

-- With these last bytes after what is written, the new bank is complete and represents the state;
-- it has so many records, and keeps within its limit.
pub record Completes (s : BankWriter) (front bytes : List ℕ) (st : State) : Type 0 where
  pub begun : State
  pub ranges : IsState begun
  pub fits : FitsState written begun
  pub records : List (List Deed)
  pub done : AreDone begun (deeds_in records) st
  pub last : IsLast s.generation (spell_state written begun) records front bytes
  pub count : s.records ≡ length records
  pub within : 1 + length front + length bytes ≤ s.limit

-- what is to be written next
abbrev pub bytes_in : BankChunk → List ℕ
bytes_in (More bytes) = bytes.items
bytes_in (Last bytes) = bytes.items

-- These bytes are to be written next: more of the bank, or the last ones.
abbrev pub IsNext : BankChunk → BankWriter → List ℕ → State → Type 0
IsNext (More bytes) s front st = Follows s (front ++ bytes.items) st
IsNext (Last bytes) s front st = Completes s front bytes.items st
