-- Comparison of what was reported to seats with what was stored.
use Rattle.std.specs.Prelude.{◌≡◌, ◌≢◌, ◌⊎◌, List, Some, Contains}
use Rattle.std.specs.FinMap as map
use Rattle.circular_buffer.specs.Buffer.{last_item}
use Rattle.linda_store_state.specs.State.{State}
use Rattle.linda_shared_accounts.specs.declared.fault.SharedFault.{SharedFault}
use Rattle.linda_shared_accounts.specs.declared.fault.SharedFault.TheVariants as faults
use Rattle.linda_shared_accounts.specs.declared.receipt.Receipt.{Receipt}
use Rattle.linda_shared_accounts.specs.Receipts.{client_in, number_in, IsKept}
use Rattle.linda_shared_accounts.specs.Agreement.{AgreesWith}
use Rattle.linda_shared_accounts.specs.Accounts.{Places, receipts_at}

-- the receipts that were reported to the client of this one, as far as they are parked
abbrev pub ring_for : Places → Receipt → List Receipt
ring_for ps r = receipts_at (map.get ps (client_in r))

-- The client of the receipt has this one, if it still has a receipt of that number.
abbrev pub IsToldSo : Places → Receipt → Type 0
IsToldSo ps r = AgreesWith (ring_for ps r) r

-- The last of the ring is what the book keeps.
abbrev pub LastIsKept : State → List Receipt → Type 0
LastIsKept st ring = (mine : Receipt) → last_item ring ≡ Some mine → IsKept st mine

-- The fault names a receipt that was reported to a client, and among those stored there is another
-- one of its client and number.
pub record NamesAnother (ps : Places) (rs : List Receipt) (fault : SharedFault) : Type 0 where
  pub mine : Receipt
  pub told : Contains (ring_for ps mine) mine
  pub named : fault ≡ faults.Receipt (client_in mine) (number_in mine)
  pub other : Receipt
  pub stored : Contains rs other
  pub its : client_in other ≡ client_in mine
  pub number : number_in other ≡ number_in mine
  pub differs : other ≢ mine

-- The fault names the last of these, and the book keeps something else.
pub record NamesLast (st : State) (ring : List Receipt) (fault : SharedFault) : Type 0 where
  pub mine : Receipt
  pub told : last_item ring ≡ Some mine
  pub named : fault ≡ faults.Receipt (client_in mine) (number_in mine)
  pub differs : IsKept st mine → ⊥

-- The fault names the last receipt that was reported to a client, and the book keeps something
-- else.
pub record NamesNotKept (ps : Places) (st : State) (fault : SharedFault) : Type 0 where
  pub mine : Receipt
  pub told : last_item (ring_for ps mine) ≡ Some mine
  pub named : fault ≡ faults.Receipt (client_in mine) (number_in mine)
  pub differs : IsKept st mine → ⊥

-- The fault names a receipt that was reported to a client, and that differs from what was stored.
abbrev pub Names : Places → State → List Receipt → SharedFault → Type 0
Names ps st rs fault = NamesAnother ps rs fault ⊎ NamesNotKept ps st fault
