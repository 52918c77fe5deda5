-- Proper lists of deeds, which a server can do.
use Rattle.std.specs.Prelude.{◌≡◌, ◌+◌, ◌<◌, false, List, ◌∷◌, ◌++◌, None, IsSome, IfSome}
use Rattle.std.specs.FinMap as map
use Rattle.linda_wire.specs.declared.limits.TheConstants.{MAX_CLIENTS}
use Rattle.linda_wire.specs.declared.limits.TheConstants.{NUMBER_LIMIT}
use Rattle.linda_book.specs.Entries.{left_in, number_in}
use Rattle.linda_store_state.specs.declared.deed.Deed.{Deed}
use Rattle.linda_store_state.specs.Deed.{client_of, number_of, put_by, taken_by}
use Rattle.linda_store_state.specs.State.{State}
use Rattle.linda_store_state.specs.After.{IsAfter}

-- what a deed asks of the next id, if it puts a tuple, and of the bag, if it takes one
abbrev pub HasRoom : State → Deed → Type 0
HasRoom st d =
    IfSome (put_by d) (λ _. st.next < NUMBER_LIMIT)
    × IfSome (taken_by d) (λ id. IsSome (map.get st.bag id))

-- The deed may be done in this state: its number is the client's next and below the limit, the
-- client has not left, a new client comes only while there is a place for it, an Out only while
-- there are ids, and a Take takes a tuple that is there.
pub record IsAllowed (st : State) (d : Deed) : Type 0 where
  pub number : number_of d ≡ number_in (map.get st.book (client_of d)) + 1
  pub stays : left_in (map.get st.book (client_of d)) ≡ false
  pub below : number_of d < NUMBER_LIMIT
  pub client : map.get st.book (client_of d) ≡ None → map.len st.book < MAX_CLIENTS
  pub room : HasRoom st d

-- Each deed of the list is allowed in the state after those before it.
abbrev pub IsProper : State → List Deed → Type 0
IsProper st ds =
    (before : List Deed) (d : Deed) (later : List Deed) (mid : State)
    → ds ≡ before ++ d ∷ later → IsAfter st before mid → IsAllowed mid d

-- These deeds are a proper list from the first state, and lead to the other.
pub record AreDone (st : State) (ds : List Deed) (new : State) : Type 0 where
  pub proper : IsProper st ds
  pub after : IsAfter st ds new
