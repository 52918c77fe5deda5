-- Room on the disk that is not in use, and another limit of the bank in use.
use Rattle.std.specs.Prelude.{◌≡◌, ◌↔◌, ℕ, length, Result, IfErr}
use Rattle.linda_disk.specs.declared.disk.Disk.{Ghosts}
use Rattle.linda_disk.specs.declared.fault.DiskFault.{DiskFault}
use Rattle.linda_disk.specs.declared.fault.DiskFault.TheVariants.{Device}
use Rattle.linda_disk.specs.Disk.{TellsFailures}
use Rattle.linda_disk.specs.Runs.{Law}
use Rattle.linda_journal.specs.declared.bank.Bank.{Bank}
use Rattle.linda_server.specs.declared.disks.Disks.{Disks}
use Rattle.linda_server.specs.Disks.{AreRelated}

module _ {D : Type 0} (g : Ghosts D) where
  -- A disk that is made longer or shorter: `law` says what a crash at any moment left. A write that
  -- found no room is counted, and no fault.
  pub record Resizes {T : Type 0} (law : Law) (old : D) (result : Result T DiskFault) (new : D)
      : Type 0 where
    pub any_moment : g.honest old → law (g.view old) (g.view new)
    pub honest : g.honest old ↔ g.honest new
    pub cause : IfErr result
        (λ fault. TellsFailures Device fault (g.failures old) (g.failures new))

module _ {D : Type 0} {g : Ghosts D} where
  -- The bank in use is as it was, and the file of the other disk has so many bytes, if it is
  -- honest.
  abbrev pub IsReserved : ℕ → Disks (Bank D g) D → Disks (Bank D g) D → Type 0
  IsReserved bytes old new =
      AreRelated (λ b c. c ≡ b) (λ d e. g.honest d → length (g.view e).seen ≡ bytes) old new

  -- The two are one bank, except for the most bytes that it may have.
  pub record IsSameButLimit (old new : Bank D g) : Type 0 where
    pub disk : new.disk ≡ old.disk
    pub form : new.form ≡ old.form
    pub generation : new.generation ≡ old.generation
    pub end : new.end ≡ old.end
    pub records : new.records ≡ old.records
    pub spent : new.is_spent ≡ old.is_spent

  -- So it is of the bank in use, and the other disk is as it was.
  abbrev pub HasOtherLimit : Disks (Bank D g) D → Disks (Bank D g) D → Type 0
  HasOtherLimit old new = AreRelated IsSameButLimit (λ d e. e ≡ d) old new
