-- Room on the bank in use that is written ahead of its use.
use Rattle.std.specs.Prelude.{◌≡◌, ◌≤◌, ℕ, Bool, true, length, replicate, min, max}
use Rattle.linda_disk.specs.View.{IsDurable}
use Rattle.linda_disk.specs.Lengthens.{HasMore}
use Rattle.linda_disk.specs.declared.disk.Disk.{Ghosts}
use Rattle.linda_journal.specs.declared.bank.Bank.{Bank}
use Rattle.linda_journal.specs.declared.kinds.TheConstants.{CLOSED}
use Rattle.linda_journal.specs.Preallocation.{IsSameBank}
use Rattle.linda_server.specs.declared.disks.Disks.{Disks}
use Rattle.linda_server.specs.declared.disks.Disks.TheVariants.{InUse, Shut, Away}
use Rattle.linda_server.specs.Disks.{AreRelated}

module _ {D : Type 0} {g : Ghosts D} where
  -- The disk of the bank in use is durable, if it is honest.
  abbrev pub IsUsedDurable : Disks (Bank D g) D → Type 0
  IsUsedDurable (InUse pair) = g.honest pair.bank.disk → IsDurable (g.view pair.bank.disk)
  IsUsedDurable (Shut left right) = ⊥
  IsUsedDurable Away = ⊥

  -- It is the same bank, and its file has closed gates more, and so many bytes, within the limit;
  -- or, at false, it is as it was.
  pub record IsLonger (to : ℕ) (there : Bool) (old new : Bank D g) : Type 0 where
    pub same : IsSameBank old new
    pub more : g.honest old.disk
        → (n : ℕ) × HasMore (g.view old.disk).seen (replicate n CLOSED) there (g.view new.disk).seen
    pub long : g.honest old.disk → there ≡ true → min to old.limit ≤ length (g.view new.disk).seen
    pub within : g.honest old.disk → length (g.view new.disk).seen
        ≤ max (length (g.view old.disk).seen) (min to old.limit)

  -- So it is of the bank in use, and the other disk is as it was.
  abbrev pub IsAhead : ℕ → Bool → Disks (Bank D g) D → Disks (Bank D g) D → Type 0
  IsAhead to there old new = AreRelated (IsLonger to there) (λ d e. e ≡ d) old new
