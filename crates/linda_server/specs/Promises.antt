-- Promises that hold after every life of a server.
use Rattle.std.specs.Prelude.{◌≡◌, ℕ, false, if◌then◌else◌}
use Rattle.std.specs.Prelude.{List, [], ◌∷◌, ◌++◌, All, Some, IsSome}
use Rattle.std.specs.FinMap.{get}
use Rattle.linda_wire.specs.declared.message.Message.{Message}
use Rattle.linda_wire.specs.declared.reply.Reply.{Reply}
use Rattle.linda_book.specs.declared.kept_reply.KeptReply.{KeptReply}
use Rattle.linda_store_state.specs.declared.deed.Deed.{Deed}
use Rattle.linda_store_state.specs.Deed.{is_taken}
use Rattle.linda_store_state.specs.State.{State, IsState, empty_state}
use Rattle.linda_store_state.specs.Once.{IsTakenOnce}
use Rattle.linda_store_state.specs.Proper.{AreDone}
use Rattle.linda_store_step.specs.Soft.{no_asks}
use Rattle.linda_store_step.specs.Answer.{reply_of_kept}
use Rattle.linda_store_step.specs.History.{says, History, Happens, history_of}
use Rattle.linda_store_step.specs.Reported.{number_of_message}
use Rattle.linda_store_step.specs.Covered.{IsCovered}
use Rattle.linda_store.specs.Sound.{AreBacked}
use Rattle.linda_disk.specs.declared.disk.Disk.{Ghosts}
use Rattle.linda_snap.specs.Stands.{Stands}
use Rattle.linda_server.specs.declared.durable.Durable.{Durable}
use Rattle.linda_server.specs.Lives.{found_of, Serving, Life}

module _ {D : Type 0} {g : Ghosts D} where
  -- its state; while it is down, the one before the call in which it went down
  abbrev pub state_of : Durable D g → State
  state_of s = if s.down then s.before.value else s.store.state

  -- A message that bears the number of what is kept for its client gets the kept reply, no matter
  -- what else it says; no deed is done, nothing else is sent, and nothing changes.
  abbrev pub RepeatsWhatIsKept : Durable D g → Type 0
  RepeatsWhatIsKept s =
      (c n : ℕ) (kept : KeptReply) (m : Message) (all : History)
      → get s.store.state.book c ≡ Some (n, kept) → number_of_message m ≡ Some n
      → Happens s.store.state s.store.soft (says c m ∷ []) all
      → all ≡ history_of s.store.state s.store.soft [] ((c, reply_of_kept n kept) ∷ [])

  -- What holds of a server with these deeds and sends.
  pub record KeepsItsWord (ds : List Deed) (all : List (ℕ × Reply)) (s : Durable D g) : Type 0 where
    -- its deeds, each allowed when it was done, lead from nothing to its state
    pub done : AreDone empty_state ds (state_of s)
    pub ranges : IsState (state_of s)
    pub once : IsTakenOnce ds
    -- each reply that was ever sent and reports a deed is the one to a deed that is there,
    pub backed : AreBacked ds all
    -- and it is kept until its client has done a later one
    pub covered : All (IsCovered (state_of s)) all
    pub again : s.down ≡ false → RepeatsWhatIsKept s

  -- What holds of a server that was opened when these deeds were in hand: nothing is held and
  -- nobody waits, and each tuple that was held before is there as it was, unless a deed that was in
  -- hand took it.
  pub record IsFreed (ds hand : List Deed) (all : List (ℕ × Reply)) (s : Durable D g) : Type 0 where
    pub nobody : s.store.soft ≡ no_asks
    pub back : (old : Durable D g) (id : ℕ) → Life ds all (Serving old) → old.down ≡ false
        → IsSome (get old.store.soft.holds id) → is_taken id (found_of s.store.state hand) ≡ false
        → IsSome (get s.store.state.bag id)
        × (get s.store.state.bag id ≡ get old.store.state.bag id)

-- These two files represent the state after the deeds so far and those that were in hand, or none
-- of the latter.
pub record IsReady (ds hand : List Deed) (left right : List ℕ) : Type 0 where
  pub state : State
  pub stands : Stands left right state
  pub done : AreDone empty_state (ds ++ found_of state hand) state

module _ {D : Type 0} (g : Ghosts D) where
  -- What holds of two disks without a server, when these deeds were in hand: as they read, they
  -- represent a state, which `open` finds (`only`).
  pub record AreReady (ds hand : List Deed) (all : List (ℕ × Reply)) (left right : D) : Type 0 where
    pub backed : AreBacked ds all
    pub ready : ∥ IsReady ds hand (g.view left).seen (g.view right).seen ∥₁
