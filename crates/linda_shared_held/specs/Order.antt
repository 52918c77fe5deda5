-- Order of a server, of the receipts that are kept of it, and of the count of its deeds: it always
-- holds.
use Rattle.std.specs.Prelude.{◌≡◌, ℕ, ◌+◌, Bool, false, List, [], ◌++◌, length, Option}
use Rattle.std.specs.Prelude.{if◌then◌else◌}
use Rattle.linda_wire.specs.declared.reply.Reply.{Reply}
use Rattle.linda_store_state.specs.declared.deed.Deed.{Deed}
use Rattle.linda_store_state.specs.State.{State, IsState}
use Rattle.linda_store_state.specs.Proper.{AreDone}
use Rattle.linda_store_step.specs.Store.{Store}
use Rattle.linda_snap.specs.Stands.{Stands}
use Rattle.linda_shared_accounts.specs.declared.receipt.Receipt.{Receipt}
use Rattle.linda_shared_accounts.specs.Receipts.{deeds_in, AreTrue}
use Rattle.linda_shared_held.specs.Covered.{BoxesCovered}

-- the state of a server; while it is down, the one before the call in which it went down
abbrev pub known : State → Store → Bool → State
known before store is_down = if is_down then before else store.state

-- The state is the one after the deeds since the opening: some before the base, and after it those
-- of the receipts; while the server is down there may be others after these, which were reported to
-- nobody. The receipts have the replies to their deeds, and the count is that of the deeds that
-- were reported.
pub record IsInOrder (opening base : State) (receipts : List Receipt) (count : ℕ) (is_down : Bool)
    (state : State) : Type 0 where
  pub ranges : IsState opening
  pub earlier : List Deed
  pub to_base : AreDone opening earlier base
  pub untold : List Deed
  pub to_state : AreDone base (deeds_in receipts ++ untold) state
  pub none_untold : is_down ≡ false → untold ≡ []
  pub replies : AreTrue base [] receipts
  pub counted : count ≡ length earlier + length receipts

-- While a server is up, the receipts lead from the base to its state, with the replies to their
-- deeds.
pub record IsReplayed (base : State) (receipts : List Receipt) (state : State) : Type 0 where
  pub done : AreDone base (deeds_in receipts) state
  pub replies : AreTrue base [] receipts

-- So many deeds lead from the opening to the state.
pub record CountsDeeds (opening : State) (count : ℕ) (state : State) : Type 0 where
  pub deeds : List Deed
  pub done : AreDone opening deeds state
  pub counted : length deeds ≡ count

-- Two images represent the state after the receipts' deeds, and maybe others after them. What waits
-- in the outboxes is covered in that state.
pub record StandsBehind (base : State) (receipts : List Receipt) (waits : ℕ → Option (List Reply))
    (left right : List ℕ) : Type 0 where
  pub untold : List Deed
  pub state : State
  pub done : AreDone base (deeds_in receipts ++ untold) state
  pub stands : Stands left right state
  pub covered : BoxesCovered state waits
