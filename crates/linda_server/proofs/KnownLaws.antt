-- What is known of two disks without a server.
use Rattle.std.proofs.Common.{ℕ, Bool, true, false, if◌then◌else◌, List, [], ◌++◌, sym}
use Rattle.std.proofs.Common.{subst, append-nil}
use Rattle.linda_wire.specs.declared.reply.Reply.{Reply}
use Rattle.linda_store_state.specs.declared.deed.Deed.{Deed}
use Rattle.linda_store_state.specs.State.{State, empty_state}
use Rattle.linda_store_state.specs.Proper.{IsProper, AreDone}
use Rattle.linda_store.specs.Sound.{AreBacked}
use Rattle.linda_disk.specs.declared.disk.Disk.{Ghosts}
use Rattle.linda_server.specs.Pairs.{two, PairsNow}
use Rattle.linda_server.specs.Calls.{IsWithOrWithout}

-- Of deeds that go on, those that are found go on.
pub found_proper : (ds hand : List Deed) (b : Bool) → IsProper empty_state ds → IsProper empty_state (ds ++ hand)
    → IsProper empty_state (ds ++ (if b then hand else []))
found_proper ds hand true proper goes_on = goes_on
found_proper ds hand false proper goes_on = subst (IsProper empty_state) (sym (append-nil ds)) proper

-- What is known of two disks: the state that they represent, and that the deeds go on with those that were in hand.
pub record AreKnown {D : Type 0} (g : Ghosts D) (ds hand : List Deed) (all : List (ℕ × Reply)) (left right : D) : Type 0 where
  pub before : State
  pub done : AreDone empty_state ds before
  pub goes_on : IsProper empty_state (ds ++ hand)
  pub backed : AreBacked ds all
  pub honest_left : g.honest left
  pub honest_right : g.honest right
  pub there : PairsNow (two (g.view left) (g.view right)) (IsWithOrWithout before hand)
