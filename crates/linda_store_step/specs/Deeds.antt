-- Questions about a list of deeds: a client's numbers, and what became of a tuple.
use Rattle.std.specs.Prelude.{◌≡◌, ℕ, ◌-◌, ◌≤◌, List, ◌++◌, length, filter, Contains, Some, None}
use Rattle.std.specs.List.{slice_get}
use Rattle.linda_tuple.specs.Tuple.{Tuple}
use Rattle.linda_book.specs.Entries.{number_in}
use Rattle.linda_store_state.specs.declared.deed.Deed.{Deed}
use Rattle.linda_store_state.specs.declared.deed.Deed.TheVariants.{Take, Pass}
use Rattle.linda_store_state.specs.Deed.{client_of, number_of, takes, outs_of}
use Rattle.linda_store_state.specs.State.{empty_state}
use Rattle.linda_store_state.specs.After.{bag_after, book_after}

-- the number of a client's last deed, 0 if it did none
abbrev pub last_in : List Deed → ℕ → ℕ
last_in ds c = number_in (book_after empty_state ds c)

-- A client's numbers go up to that of its last deed, and each belongs to only one deed.
pub record NumbersEachOnce (ds : List Deed) : Type 0 where
  pub low : (d : Deed) → Contains ds d → number_of d ≤ last_in ds (client_of d)
  pub one :
      (d e : Deed) → Contains ds d → Contains ds e → client_of d ≡ client_of e
      → number_of d ≡ number_of e
      → d ≡ e

-- The tuple under this id went to the client: it was put, the client took it, no other deed did,
-- and it is in no bag after these deeds and any later ones.
pub record HandsOver (ds : List Deed) (c id : ℕ) (tuple : Tuple) : Type 0 where
  pub number : ℕ
  pub taken : Contains ds (Take c number id)
  pub once : length (filter (takes id) ds) ≡ 1
  pub counted : 1 ≤ id
  pub put : slice_get (outs_of ds) (id - 1) ≡ Some tuple
  pub gone : (later : List Deed) → bag_after empty_state (ds ++ later) id ≡ None

-- The client got nothing for this number: it passed on, and by that number it takes nothing.
pub record PassesOn (ds : List Deed) (c n : ℕ) : Type 0 where
  pub id : ℕ
  pub passed : Contains ds (Pass c n id)
  pub untaken : (other : ℕ) → Contains ds (Take c n other) → ⊥
