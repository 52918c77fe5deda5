-- Accounts as contracts see them: how many deeds were reported in all, and a place for each client
-- that has or had a seat.
use Rattle.std.specs.Prelude.{◌≡◌, ◌⊎◌, ℕ, Bool, true, false, ◌==◌, if◌then◌else◌, List, [], Option}
use Rattle.std.specs.Prelude.{Some, None, IfSome}
use Rattle.std.specs.List.{sum_by}
use Rattle.std.specs.Ordering.{nat_cmp}
use Rattle.std.specs.Map.{values_of}
use Rattle.std.specs.FinMap as map
use Rattle.circular_buffer.specs.Buffer.{keep_last}
use Rattle.linda_shared_accounts.specs.declared.receipt.Receipt.{Receipt}
use Rattle.linda_shared_accounts.specs.declared.place.Place.{Place}
use Rattle.linda_shared_accounts.specs.declared.place.Place.TheVariants as places
use Rattle.linda_shared_accounts.specs.Ring.{IsRing, ring_of}
use Rattle.linda_shared_accounts.specs.Account.{Account, account_of}

-- a place for each client whose seat is out or parked for good, or to which deeds were reported
abbrev pub Places : Type 0
Places = map.FinMap nat_cmp Place

pub record Accounts : Type 0 where
  pub total : ℕ
  pub places : Places

abbrev pub accounts_of : ℕ → Places → Accounts
accounts_of total places = record { total = total; places = places }

-- ---- one place

-- whether a client with this place can have no seat now: its seat is out, or is parked for good
abbrev pub is_away : Option Place → Bool
is_away None = false
is_away (Some places.Out) = true
is_away (Some (places.Parked ring deeds for_good)) = for_good

-- 1 if the seat is out, else 0
abbrev pub weight_out : Place → ℕ
weight_out places.Out = 1
weight_out (places.Parked ring deeds for_good) = 0

-- how many deeds were reported to the seat that is parked, 0 if it is out
abbrev pub deeds_at : Place → ℕ
deeds_at places.Out = 0
deeds_at (places.Parked ring deeds for_good) = deeds

-- the receipts that are parked
abbrev pub receipts_at : Option Place → List Receipt
receipts_at None = []
receipts_at (Some places.Out) = []
receipts_at (Some (places.Parked ring deeds for_good)) = ring.receipts

-- What is parked is the client's own.
abbrev pub IsPlaceOf : ℕ → Place → Type 0
IsPlaceOf c places.Out = Unit {0}
IsPlaceOf c (places.Parked ring deeds for_good) =
    (ring.client ≡ c) × IsRing ring.client ring.receipts

-- the account that a client with this place gets
abbrev pub account_at : ℕ → Option Place → Account
account_at c None = account_of c 0 0 []
account_at c (Some places.Out) = account_of c 0 0 []
account_at c (Some (places.Parked ring deeds for_good)) = account_of c deeds 0 ring.receipts

-- the place of an account that comes back: none if no deed was reported to it, unless it is parked
-- for good
abbrev pub place_for : Account → Bool → Option Place
place_for a true = Some (places.Parked (ring_of a.client a.ring) a.deeds true)
place_for a false =
    if a.deeds == 0 then None else Some (places.Parked (ring_of a.client a.ring) a.deeds false)

-- what is parked, with only the last receipt, if it is not parked for good
abbrev pub shortened : Place → Place
shortened places.Out = places.Out
shortened (places.Parked ring deeds true) = places.Parked ring deeds true
shortened (places.Parked ring deeds false) =
    places.Parked (ring_of ring.client (keep_last 1 ring.receipts)) deeds false

-- the same of a client's place, if it has one
abbrev pub shortened_at : Option Place → Option Place
shortened_at None = None
shortened_at (Some place) = Some (shortened place)

-- ---- all of them

-- how many seats are out
abbrev pub seats_out : Places → ℕ
seats_out ps = sum_by weight_out (values_of (map.entries ps))

-- how many deeds were reported to the parked seats
abbrev pub deeds_back : Places → ℕ
deeds_back ps = sum_by deeds_at (values_of (map.entries ps))

-- the places with another one for this client, or none
abbrev pub with_place : Places → ℕ → Option Place → Places
with_place ps c None = map.remove ps c
with_place ps c (Some place) = map.insert ps c place

-- So many seats are out, so many deeds were reported to those that are back, and what is parked is
-- each client's own.
pub record Tallies (out back : ℕ) (ps : Places) : Type 0 where
  pub out_is : out ≡ seats_out ps
  pub back_is : back ≡ deeds_back ps
  pub own : (c : ℕ) → IfSome (map.get ps c) (IsPlaceOf c)

-- An account comes back: its client's seat is out, and none of its messages is on its way.
pub record ComesBack (ps : Places) (a : Account) : Type 0 where
  pub out : map.get ps a.client ≡ Some places.Out
  pub all_here : a.asked ≡ 0

-- Each place is as before, or its ring keeps only its last receipt.
abbrev pub AreShortened : Places → Places → Type 0
AreShortened old new =
    (c : ℕ) → (map.get new c ≡ map.get old c) ⊎ (map.get new c ≡ shortened_at (map.get old c))
