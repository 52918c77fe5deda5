-- Rings, the last receipts of one client, as contracts see them.
use Rattle.std.specs.Prelude.{◌≡◌, ◌⊎◌, ℕ, ◌<◌, ◌≤◌, List, [], ◌∷◌, ◌++◌, length, Option, Some}
use Rattle.std.specs.Prelude.{None, All, Contains}
use Rattle.std.specs.Prelude.{slice_get}
use Rattle.std.specs.List.{AllAdjacentBelow}
use Rattle.circular_buffer.specs.Buffer.{keep_last, last_item}
use Rattle.linda_shared_accounts.specs.declared.receipt.Receipt.{Receipt}
use Rattle.linda_shared_accounts.specs.declared.limits.TheConstants.{RING_SIZE}
use Rattle.linda_shared_accounts.specs.Receipts.{client_in, number_in}

pub record Ring : Type 0 where
  pub client : ℕ
  pub receipts : List Receipt

abbrev pub ring_of : ℕ → List Receipt → Ring
ring_of client receipts = record { client = client; receipts = receipts }

-- the number of a receipt, 0 if there is none
abbrev pub number_at : Option Receipt → ℕ
number_at None = 0
number_at (Some r) = number_in r

-- the number of the last one, 0 if there is none
abbrev pub last_number : List Receipt → ℕ
last_number receipts = number_at (last_item receipts)

-- Each number is below the next one.
abbrev pub AreRising : List Receipt → Type 0
AreRising receipts = AllAdjacentBelow (λ r q. number_in r < number_in q) receipts (length receipts)

-- At most so many, all of the client, by rising numbers.
pub record IsRing (client : ℕ) (receipts : List Receipt) : Type 0 where
  pub few : length receipts ≤ RING_SIZE
  pub all_its : All (λ r. client_in r ≡ client) receipts
  pub rising : AreRising receipts

-- It is of that client, and its number is above all others.
pub record IsNext (client : ℕ) (receipts : List Receipt) (r : Receipt) : Type 0 where
  pub its : client_in r ≡ client
  pub above : last_number receipts < number_in r

-- the receipts with one more; the oldest is dropped if there is no room
abbrev pub with_receipt : List Receipt → Receipt → List Receipt
with_receipt receipts r = keep_last RING_SIZE (receipts ++ r ∷ [])

-- ---- a ring that is cut

-- It keeps so many of the last receipts, and one at least, if there is one.
pub record IsCut (old new : List Receipt) : Type 0 where
  pub many : ℕ
  pub some : 1 ≤ many
  pub is : new ≡ keep_last many old

-- Each receipt whose number is above the floor is still there.
abbrev pub KeepsAbove : ℕ → List Receipt → List Receipt → Type 0
KeepsAbove floor old new = (r : Receipt) → Contains old r → floor < number_in r → Contains new r

-- No more than one is left, or the first one's number is above the floor, and so all are.
abbrev pub IsAbove : ℕ → List Receipt → Type 0
IsAbove floor receipts = (length receipts ≤ 1) ⊎ (floor < number_at (slice_get receipts 0))
