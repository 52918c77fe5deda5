-- Room of a bank that is written ahead of its use, after the closed gate at its end.
use Rattle.std.specs.Prelude.{◌≡◌, ◌≤◌, ◌↔◌, ℕ, Bool, true, List, length, replicate, min, max}
use Rattle.std.specs.Prelude.{Result, IfOk, IfErr, OnOk}
use Rattle.linda_store_state.specs.declared.deed.Deed.{Deed}
use Rattle.linda_disk.specs.declared.disk.Disk.{Ghosts}
use Rattle.linda_disk.specs.declared.fault.DiskFault.{DiskFault}
use Rattle.linda_disk.specs.declared.fault.DiskFault.TheVariants.{Device}
use Rattle.linda_disk.specs.Disk.{TellsFailures}
use Rattle.linda_disk.specs.Lengthens.{Begins, HasMore}
use Rattle.linda_disk.specs.View.{IsDurable}
use Rattle.linda_disk.specs.Run.{LeavesOnly}
use Rattle.linda_journal.specs.declared.bank.Bank.{Bank}
use Rattle.linda_journal.specs.declared.kinds.TheConstants.{CLOSED}
use Rattle.linda_journal.specs.Bank.{IsBank, IsSettled}

-- The file of a durable disk has so many bytes at least: closed gates came after what it had; or,
-- at false, it is as it was (`reach`).
pub record Reaches {D : Type 0} (g : Ghosts D) (to : ℕ) (old : D) (result : Result Bool DiskFault)
    (new : D) : Type 0 where
  -- At each moment the file begins with all that it had.
  pub any_moment : g.honest old → LeavesOnly (g.view old) (g.view new) (Begins (g.view old).seen)
  pub more : g.honest old → IfOk result (λ b. (n : ℕ)
      × HasMore (g.view old).seen (replicate n CLOSED) b (g.view new).seen)
  pub long : g.honest old → IfOk result (λ b. b ≡ true → to ≤ length (g.view new).seen)
  pub within : g.honest old
      → OnOk result (length (g.view new).seen ≤ max (length (g.view old).seen) to)
  pub durable : g.honest old → OnOk result (IsDurable (g.view new))
  pub honest : g.honest old ↔ g.honest new
  pub cause : IfErr result (λ fault. TellsFailures Device fault (g.failures old) (g.failures new))

module _ {D : Type 0} {g : Ghosts D} where
  -- The two are one bank, except for what is after its end on the disk.
  pub record IsSameBank (old new : Bank D g) : Type 0 where
    pub form : new.form ≡ old.form
    pub generation : new.generation ≡ old.generation
    pub limit : new.limit ≡ old.limit
    pub end : new.end ≡ old.end
    pub records : new.records ≡ old.records
    pub spent : new.is_spent ≡ old.is_spent

  -- The bank's file has this length at least, within the limit, or, at false, it is as it was
  -- (`preallocate`).
  pub record Preallocates (to : ℕ) (old : Bank D g) (result : Result Bool DiskFault)
      (new : Bank D g) : Type 0 where
    -- A crash at any moment leaves the same bank,
    pub any_moment : (body : List ℕ) (records : List (List Deed)) → g.honest old.disk
        → IsSettled old.form old.generation body records old.end (g.view old.disk)
        → LeavesOnly (g.view old.disk) (g.view new.disk)
        (λ file. IsBank old.form file old.generation body records)
    -- and at Ok it is there, with the same end.
    pub done : (body : List ℕ) (records : List (List Deed)) → g.honest old.disk
        → IsSettled old.form old.generation body records old.end (g.view old.disk)
        → OnOk result (IsSettled old.form old.generation body records old.end (g.view new.disk))
    pub same : OnOk result (IsSameBank old new)
    -- What the file has more is closed gates.
    pub more : g.honest old.disk → IfOk result (λ b. (n : ℕ)
        × HasMore (g.view old.disk).seen (replicate n CLOSED) b (g.view new.disk).seen)
    pub long : g.honest old.disk
        → IfOk result (λ b. b ≡ true → min to old.limit ≤ length (g.view new.disk).seen)
    pub within : g.honest old.disk → OnOk result (length (g.view new.disk).seen
        ≤ max (length (g.view old.disk).seen) (min to old.limit))
    -- After a fault the bank is spent.
    pub off : IfErr result (λ fault. new.is_spent ≡ true)
    pub cause : IfErr result
        (λ fault. TellsFailures Device fault (g.failures old.disk) (g.failures new.disk))
    pub honest : g.honest old.disk ↔ g.honest new.disk
