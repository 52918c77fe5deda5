-- The next bank of a server, while it is written in steps on the disk that is not in use.
use Rattle.std.specs.Prelude.{◌≡◌, ◌<◌, ◌≤◌, ◌+◌, ℕ, List, All, Option, Some, None, Result, Ok, Err}
use Rattle.std.specs.Prelude.{IfSome, length}
use Rattle.linda_wire.specs.declared.message.Message.{Message}
use Rattle.linda_wire.specs.declared.message.Message.TheVariants.{Hello, Out, Ask, Accept, Cancel}
use Rattle.linda_wire.specs.declared.message.Message.TheVariants.{Leave}
use Rattle.linda_store_state.specs.State.{State}
use Rattle.linda_disk.specs.View.{View}
use Rattle.linda_disk.specs.declared.disk.Disk.{Ghosts}
use Rattle.linda_journal.specs.declared.bank.Bank.{Bank}
use Rattle.linda_journal.specs.Renewal.{IsFilled}
use Rattle.linda_snap.specs.declared.entry.TheConstants.{MAX_KEPT_BYTES}
use Rattle.linda_snap.specs.declared.bank_writer.BankWriter.{BankWriter}
use Rattle.linda_snap.specs.SnapshotEncoder.{Tuples}
use Rattle.linda_snap.specs.BankWriter.{Completes, Follows, IsSafeFor}
use Rattle.linda_server.specs.declared.disks.Disks.{Disks}
use Rattle.linda_server.specs.declared.disks.Disks.TheVariants.{InUse, Shut, Away}
use Rattle.linda_server.specs.declared.next.NextBank.{NextBank}
use Rattle.linda_server.specs.Server.{IsBankStill, end_in_use}
use Rattle.linda_server.specs.Switch.{IsTakenOver}

-- ---- what is on the disk

-- On that disk `front` comes after a first gate that is closed, and the bank follows the state.
pub record IsBegun (next : NextBank) (is_honest : Type 0) (other : View) (st : State) : Type 0 where
  pub front : List ℕ
  pub follows : Follows next.writer front st
  pub place : next.at ≡ 1 + length front
  pub filled : is_honest → IsFilled front next.at other

module _ {D : Type 0} {g : Ghosts D} where
  -- It is begun so on the disk that is not in use, is of the next generation, and has the same
  -- limit.
  abbrev pub IsBegunOn : NextBank → Disks (Bank D g) D → State → Type 0
  IsBegunOn next (InUse pair) st = IsBegun next (g.honest pair.other) (g.view pair.other) st
      × (next.writer.generation ≡ pair.bank.generation + 1)
      × (next.writer.limit ≡ pair.bank.limit)
  IsBegunOn next (Shut left right) st = ⊥
  IsBegunOn next Away st = ⊥

  -- If there is a next bank, it is begun so.
  abbrev pub IsNextFor : Option NextBank → Disks (Bank D g) D → State → Type 0
  IsNextFor next disks st = IfSome next (λ n. IsBegunOn n disks st)

  -- On the disk that is not in use these bytes come after a closed first gate, if it is honest.
  abbrev pub IsFilledOn : List ℕ → ℕ → Disks (Bank D g) D → Type 0
  IsFilledOn front at (InUse pair) = g.honest pair.other → IsFilled front at (g.view pair.other)
  IsFilledOn front at (Shut left right) = ⊥
  IsFilledOn front at Away = ⊥

  -- So they do, and with these last ones a bank is there for the state.
  abbrev pub IsLastOn : BankWriter → List ℕ → List ℕ → ℕ → Disks (Bank D g) D → State → Type 0
  IsLastOn s front bytes at disks st = IsFilledOn front at disks × Completes s front bytes st

  -- That disk has so many bytes, if it is honest.
  abbrev pub IsWithin : ℕ → Disks (Bank D g) D → Type 0
  IsWithin at (InUse pair) = g.honest pair.other → at ≤ length (g.view pair.other).seen
  IsWithin at (Shut left right) = ⊥
  IsWithin at Away = ⊥

  -- A step of it, of so many bytes at most and one entry more: more of it is written, and the bank
  -- in use is as it was; or it is in use now, with all that was noted (`advance`).
  abbrev pub StepsOn : {E : Type 0} → ℕ → NextBank → Disks (Bank D g) D
      → Result (Option NextBank) E → Disks (Bank D g) D → Type 0
  StepsOn most next old (Ok (Some later)) new =
      (next.at < later.at) × (later.at ≤ next.at + (most + MAX_KEPT_BYTES)) × IsBankStill old new
  StepsOn most next old (Ok None) new =
      IsTakenOver next.writer.records old new
      × (end_in_use new < next.at + (most + MAX_KEPT_BYTES))
  StepsOn most next old (Err fault) new = Unit {0}

-- There is one still, and more of it is written: so many bytes at most, and one entry of a
-- snapshot.
pub record HasGrown (most : ℕ) (old new : Option NextBank) : Type 0 where
  pub was : NextBank
  pub now : NextBank
  pub were : old ≡ Some was
  pub are : new ≡ Some now
  pub more : was.at < now.at
  pub few : now.at ≤ was.at + (most + MAX_KEPT_BYTES)

-- ---- what is done meanwhile

-- The tuple of this id may be taken.
abbrev pub IsSafeIn : Option NextBank → Tuples → ℕ → Type 0
IsSafeIn next now id = IfSome next (λ n. IsSafeFor n.writer now id)

-- So may the tuple that the message may take.
abbrev pub IsSpared : BankWriter → Tuples → Message → Type 0
IsSpared s now (Hello version client fresh) = Unit {0}
IsSpared s now (Out n tuple) = Unit {0}
IsSpared s now (Ask ticket remove shape) = Unit {0}
IsSpared s now (Accept n ticket id) = IsSafeFor s now id
IsSpared s now (Cancel ticket) = Unit {0}
IsSpared s now (Leave n) = Unit {0}

-- So it is for each of these messages.
abbrev pub AreSpared : BankWriter → Tuples → List (ℕ × Message) → Type 0
AreSpared s now ms = All (λ m. IsSpared s now m.1) ms

-- It is the old bank, of the same generation and limit and at the same place, and what followed the
-- one state follows the other.
pub record KeepsUp (old : Option NextBank) (st : State) (next : NextBank) (now : State)
    : Type 0 where
  pub was : NextBank
  pub is : old ≡ Some was
  pub generation : next.writer.generation ≡ was.writer.generation
  pub limit : next.writer.limit ≡ was.writer.limit
  pub place : next.at ≡ was.at
  pub follows : (front : List ℕ) → Follows was.writer front st
      → Follows next.writer front now
