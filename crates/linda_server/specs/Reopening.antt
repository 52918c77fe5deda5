-- Reopening of a server that went down, and what it comes back with.
use Rattle.std.specs.Prelude.{◌≡◌, ◌⊎◌, ◌-◌, Bool, false, nat_le, List, [], length, Option, Some}
use Rattle.std.specs.Prelude.{None}
use Rattle.std.specs.List.{slice_get}
use Rattle.std.specs.FinMap.{get}
use Rattle.linda_book.specs.Entries.{number_in}
use Rattle.linda_store_state.specs.declared.deed.Deed.{Deed}
use Rattle.linda_store_state.specs.Deed.{client_of, number_of}
use Rattle.linda_store_state.specs.State.{State}
use Rattle.linda_store_state.specs.After.{IsAfter}
use Rattle.linda_store_step.specs.Soft.{no_asks}
use Rattle.linda_store_step.specs.Store.{Store}

-- The deed is there, and its number is not above the last one that is kept of its client.
abbrev pub is_done : State → Option Deed → Bool
is_done st None = false
is_done st (Some d) = nat_le (number_of d) (number_in (get st.book (client_of d)))

-- It is so of the last of these deeds.
abbrev pub has_done : State → List Deed → Bool
has_done st ds = is_done st (slice_get ds (length ds - 1))

-- All of the lost deeds are done, or none of them, and these are the ones; nothing is held and
-- nobody waits.
pub record IsReopened (before : State) (lost deeds : List Deed) (new : Store) : Type 0 where
  pub which : (deeds ≡ []) ⊎ (deeds ≡ lost)
  pub after : IsAfter before deeds new.state
  pub soft_is : new.soft ≡ no_asks
