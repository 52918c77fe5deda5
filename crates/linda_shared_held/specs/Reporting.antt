-- The end of a server that sessions share: all seats are back, and what was reported to them is
-- stored.
use Rattle.std.specs.Prelude.{◌≡◌, ◌⊎◌, ℕ, ◌+◌, ◌<◌, List, All, true, false, Result, IfOk, IfErr}
use Rattle.std.specs.Prelude.{OnOk, IsErrOf}
use Rattle.std.specs.FinMap as map
use Rattle.linda_disk.specs.declared.disk.Disk.{Ghosts}
use Rattle.linda_server.specs.declared.durable.Durable.{Durable}
use Rattle.linda_shared_accounts.specs.declared.fault.SharedFault.{SharedFault}
use Rattle.linda_shared_accounts.specs.declared.fault.SharedFault.TheVariants as faults
use Rattle.linda_shared_accounts.specs.declared.receipt.Receipt.{Receipt}
use Rattle.linda_shared_accounts.specs.Accounts.{Places, deeds_back, seats_out, receipts_at}
use Rattle.linda_shared_accounts.specs.Compare.{IsToldSo, LastIsKept, Names}
use Rattle.linda_shared_held.specs.declared.held.finish.Report.{Report}

-- It returns what was reported to all seats, once they are back (`finish`). These are their places.
pub record Reports {D : Type 0} {g : Ghosts D} (s : Durable D g) (count : ℕ)
    (receipts : List Receipt)
    (result : Result Report SharedFault)
    (places : Places) : Type 0 where
  pub deeds : IfOk result (λ r. (r.deeds ≡ deeds_back places) × (r.deeds ≡ count))
  pub back : OnOk result (seats_out places ≡ 0)
  pub ids : IfOk result (λ r. r.ids + 1 ≡ s.store.state.next)
  pub told : OnOk result (All (IsToldSo places) receipts)
  pub kept : OnOk result
      ((c : ℕ) → LastIsKept s.store.state (receipts_at (map.get places c)))
  -- It is Down before all, and exactly if the server is down; then a seat is missing exactly if one
  -- is out.
  pub up : OnOk result (s.down ≡ false)
  pub down : IsErrOf result faults.Down → s.down ≡ true
  pub first : s.down ≡ true → IsErrOf result faults.Down
  pub missing : IsErrOf result faults.SeatMissing → 0 < seats_out places
  pub out : s.down ≡ false → 0 < seats_out places → IsErrOf result faults.SeatMissing
  pub fault : IfErr result (λ fault. (fault ≡ faults.Down) ⊎ ((fault ≡ faults.SeatMissing)
      ⊎ Names places s.store.state receipts fault))
