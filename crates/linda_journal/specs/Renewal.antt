-- Renewal of a disk that is not in use: its gate is closed, then all is written after it, then it
-- opens.
use Rattle.std.specs.Prelude.{◌≡◌, ◌≢◌, ℕ, ◌+◌, ◌-◌, ◌/◌, ◌<◌, ◌≤◌, ◌^◌, ◌⊎◌, List, [], ◌∷◌}
use Rattle.std.specs.Prelude.{◌++◌, All, length}
use Rattle.linda_tuple.specs.declared.form.Form.{Form}
use Rattle.linda_store_state.specs.declared.deed.Deed.{Deed}
use Rattle.linda_store_state.specs.DeedFormat.{written}
use Rattle.linda_disk.specs.View.{View, IsDurable}
use Rattle.linda_disk.specs.Run.{LeavesOnly}
use Rattle.linda_disk.specs.Runs.{Law}
use Rattle.linda_journal.specs.declared.kinds.TheConstants.{OPEN, CLOSED}
use Rattle.linda_journal.specs.declared.limits.TheConstants.{MIN_BYTES, PIECE}
use Rattle.linda_journal.specs.Gate.{IsReady}
use Rattle.linda_journal.specs.Records.{IsRecord, spell_records}
use Rattle.linda_journal.specs.Bank.{IsCandidate, IsBank, IsNoneOrNew, behind_gate}

-- Bytes that are no bank.
abbrev pub IsNoBank : List ℕ → Type 0
IsNoBank file = IsCandidate file → ⊥

-- There is a first gate, and it is closed: the bytes are no bank, no matter what is written after
-- it.
abbrev pub IsClosed : List ℕ → Type 0
IsClosed file = (0 < length file) × ((rest : List ℕ) → file ≡ OPEN ∷ rest → ⊥)

-- Its first gate is open, or there are fewer bytes than a bank has.
abbrev pub IsOpenOrShort : List ℕ → Type 0
IsOpenOrShort file = (length file < MIN_BYTES) ⊎ ((rest : List ℕ) × (file ≡ OPEN ∷ rest))

-- The same bytes, or no bank.
abbrev pub IsSameOrNone : List ℕ → List ℕ → Type 0
IsSameOrNone old file = (file ≡ old) ⊎ IsNoBank file

-- After a first gate that is still closed comes all of the new bank in this form, of this
-- generation and with this body, up to the closed gate of its journal at this offset; and a crash
-- now leaves it so.
pub record IsWhole (form : Form) (generation : ℕ) (body : List ℕ) (end : ℕ) (v : View)
    : Type 0 where
  pub low : 1 ≤ generation
  pub fits : generation < 2 ^ 64
  pub short : length body < 2 ^ 32
  pub place : end ≡ MIN_BYTES + length body
  pub ready : IsReady [] 0 (behind_gate form generation body) v

-- After a first gate that is closed come these bytes of a new bank, up to this offset; and a crash
-- now leaves it so.
pub record IsFilled (front : List ℕ) (at : ℕ) (v : View) : Type 0 where
  pub gate : ℕ
  pub rest : List ℕ
  pub parts : v.seen ≡ gate ∷ (front ++ rest)
  pub closed : gate ≢ OPEN
  pub place : at ≡ 1 + length front
  pub durable : IsDurable v

-- The same with records: after a first gate that is still closed comes all of the new bank, with
-- these records in its journal, up to the closed gate at this offset.
pub record IsWholeWith (form : Form) (generation : ℕ) (body : List ℕ) (records : List (List Deed))
    (end : ℕ) (v : View) : Type 0 where
  pub low : 1 ≤ generation
  pub fits : generation < 2 ^ 64
  pub short : length body < 2 ^ 32
  pub good : All (IsRecord form) records
  pub place : end ≡ MIN_BYTES + length body + length (spell_records form records)
  pub ready : IsReady [] 0 (behind_gate form generation body ++ spell_records form records) v

-- With these last bytes after what is written, all of the new bank is there: its body, these
-- records and the closed gate.
pub record IsLast (generation : ℕ) (body : List ℕ) (records : List (List Deed))
    (front bytes : List ℕ) : Type 0 where
  pub low : 1 ≤ generation
  pub fits : generation < 2 ^ 64
  pub short : length body < 2 ^ 32
  pub good : All (IsRecord written) records
  pub parts : front ++ bytes
      ≡ (behind_gate written generation body ++ spell_records written records) ++ CLOSED ∷ []

-- Bytes that are no bank, or the new one with these records.
abbrev pub IsNoneOrNewWith : Form → ℕ → List ℕ → List (List Deed) → List ℕ → Type 0
IsNoneOrNewWith form generation body records file =
    IsNoBank file ⊎ IsBank form file generation body records

-- In how many pieces so many bytes are written: all are full but the last one, which has at least
-- one byte if there are any.
abbrev pub pieces : ℕ → ℕ
pieces bytes = (bytes - 1) / PIECE + 1

-- So many calls changed or synced a disk. Before them two more, a write and a sync, closed its
-- first gate, unless it was closed already on a disk of as many bytes as a bank has.
abbrev pub TakesCalls : ℕ → View → View → Type 0
TakesCalls calls old new =
    (IsOpenOrShort old.seen × (new.moment ≡ old.moment + (2 + calls)))
    ⊎ ((MIN_BYTES ≤ length old.seen) × IsClosed old.seen × (new.moment ≡ old.moment + calls))

-- ---- what runs of device calls leave

-- What was there, or no bank.
abbrev pub shuts : Law
shuts old new = LeavesOnly old new (IsSameOrNone old.seen)

-- No bank, if the bytes before this offset are those of a new one after a closed gate.
abbrev pub fills : ℕ → Law
fills at old new = (front : List ℕ) → IsFilled front at old → LeavesOnly old new IsNoBank

-- No bank, or the whole new one, of this generation and with its end at this offset.
abbrev pub unlocks : ℕ → ℕ → Law
unlocks generation end old new = (body : List ℕ) (records : List (List Deed))
    → IsWholeWith written generation body records end old
    → LeavesOnly old new (IsNoneOrNewWith written generation body records)

abbrev pub unlocks_empty : ℕ → ℕ → Law
unlocks_empty generation end old new = (body : List ℕ)
    → IsWhole written generation body end old
    → LeavesOnly old new (IsNoneOrNew written generation body)

-- No bank, or the new one that these last bytes make whole.
abbrev pub finishes : ℕ → ℕ → List ℕ → Law
finishes generation at bytes old new = (front body : List ℕ) (records : List (List Deed))
    → IsFilled front at old → IsLast generation body records front bytes
    → LeavesOnly old new (IsNoneOrNewWith written generation body records)

-- On an empty disk no bank, or the new one with this body.
abbrev pub creates : ℕ → List ℕ → Law
creates generation body old new = IsDurable old → old.seen ≡ []
    → LeavesOnly old new (IsNoneOrNew written generation body)
