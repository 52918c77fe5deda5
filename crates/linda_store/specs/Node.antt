-- Nodes as contracts see them: what one may answer, and what is left of a call in which it was
-- stopped.
use Rattle.std.specs.Prelude.{◌≡◌, ◌≢◌, ℕ, ◌≤◌, Bool, true, false, List, [], ◌∷◌, length, Result}
use Rattle.std.specs.Prelude.{Ok, Err}
use Rattle.std.specs.Global.{Vec}
use Rattle.linda_wire.specs.declared.message.Message.{Message}
use Rattle.linda_wire.specs.declared.reply.Reply.{Reply}
use Rattle.linda_store_state.specs.declared.deed.Deed.{Deed}
use Rattle.linda_store_state.specs.State.{State}
use Rattle.linda_store_state.specs.After.{IsAfter}
use Rattle.linda_store_step.specs.Soft.{Soft, no_asks}
use Rattle.linda_store_step.specs.History.{Coming, says, hangs_up, History, Happens, comings}
use Rattle.linda_store_step.specs.History.{history_of}
use Rattle.linda_store_step.specs.Course.{IsFront}
use Rattle.linda_store.specs.declared.work.Work.{Work}
use Rattle.linda_store.specs.declared.work.Work.TheVariants as works
use Rattle.linda_store_step.specs.declared.size.TheConstants.{MAX_BATCH}
use Rattle.linda_store.specs.declared.node.NodeFault.{NodeFault}
use Rattle.linda_store.specs.declared.node.NodeFault.TheVariants as faults

-- A node: its state, what it holds and lets wait, whether it is down, and whether it is of a kind
-- that may be full; and, if it is down, the deeds that may have been done in the call in which it
-- went down. Its state is then the one before that call.
pub record Node : Type 0 where
  pub state : State
  pub soft : Soft
  pub is_down : Bool
  pub may_fill : Bool
  pub lost : List Deed

-- What a node answers: what it sends and to whom; or that it has no room, or that it is down.
pub data NodeAnswer : Type 0 where
  Sent : (sends : List (ℕ × Reply)) → NodeAnswer
  IsFull : NodeAnswer
  IsDown : NodeAnswer

-- what a call of a node answered
abbrev pub node_answer : Result (Vec (ℕ × Reply)) NodeFault → NodeAnswer
node_answer (Ok sends) = Sent sends.items
node_answer (Err faults.Full) = IsFull
node_answer (Err faults.Down) = IsDown

-- The deeds that may be left of a call that was broken off: some first ones of those that some
-- first things of what came led to.
pub record MayRemain (old : Node) (xs : List Coming) (ds : List Deed) : Type 0 where
  pub first : List Coming
  pub is_first : IsFront first xs
  pub all : History
  pub happens : Happens old.state old.soft first all
  pub front : IsFront ds all.deeds

-- A node that was up did all that came, and is up.
pub record IsDone (old : Node) (xs : List Coming) (deeds : List Deed) (sends : List (ℕ × Reply))
    (new : Node) : Type 0 where
  pub was_up : old.is_down ≡ false
  pub is_up : new.is_down ≡ false
  pub kind : new.may_fill ≡ old.may_fill
  pub happens : Happens old.state old.soft xs (history_of new.state new.soft deeds sends)

-- A node that was up had no room for the deeds that what came asks for, and did nothing.
pub record HadNoRoom (old : Node) (xs : List Coming) (new : Node) : Type 0 where
  pub was_up : old.is_down ≡ false
  pub kind : old.may_fill ≡ true
  pub deeds : (all : History) → Happens old.state old.soft xs all → all.deeds ≢ []
  pub unchanged : new ≡ old

-- The node is down now, and its state is as before. If it was up, some first deeds of what came may
-- have been done; if it was down, nothing has changed.
pub record WentDown (old : Node) (xs : List Coming) (new : Node) : Type 0 where
  pub is_down : new.is_down ≡ true
  pub kind : new.may_fill ≡ old.may_fill
  pub state_same : new.state ≡ old.state
  pub from_up : old.is_down ≡ false → MayRemain old xs new.lost
  pub from_down : old.is_down ≡ true → new ≡ old

-- What a node may answer to what came, with the deeds that it did, and the node after it.
abbrev pub Works : Node → List Coming → NodeAnswer → List Deed → Node → Type 0
Works old xs (Sent sends) ds new = IsDone old xs ds sends new
Works old xs IsFull ds new = HadNoRoom old xs new × (ds ≡ [])
Works old xs IsDown ds new = WentDown old xs new × (ds ≡ [])

-- What a node may answer to a message of a client, and the node after it.
abbrev pub Handles : Node → ℕ → Message → NodeAnswer → Node → Type 0
Handles old c m answer new = (ds : List Deed) × Works old (says c m ∷ []) answer ds new

-- What a node may answer to several messages, one after another, and the node after them.
abbrev pub HandlesAll : Node → List (ℕ × Message) → NodeAnswer → Node → Type 0
HandlesAll old ms answer new = (ds : List Deed) × Works old (comings ms) answer ds new

-- What a node may answer to the closing of a client, which makes no deed, and the node after it; it
-- is never full.
abbrev pub Closes : Node → ℕ → NodeAnswer → Node → Type 0
Closes old c (Sent sends) new = IsDone old (hangs_up c ∷ []) [] sends new
Closes old c IsFull new = ⊥
Closes old c IsDown new = WentDown old (hangs_up c ∷ []) new

-- What a node may answer if it is to write a snapshot, and the node after it: unless it goes down
-- nothing changes.
abbrev pub Snaps : {A : Type 0} → Node → Result A NodeFault → Node → Type 0
Snaps old (Ok done) new = (old.is_down ≡ false) × (new ≡ old)
Snaps old (Err faults.Full) new = (old.is_down ≡ false) × ((old.may_fill ≡ true) × (new ≡ old))
Snaps old (Err faults.Down) new = WentDown old [] new

-- A node was stopped and opened again: it is up, nothing is held and nobody waits. These deeds were
-- added: some first ones of what was in hand; or, if it was down, of the call in which it went
-- down.
pub record IsOpened (old : Node) (xs : List Coming) (ds : List Deed) (new : Node) : Type 0 where
  pub is_up : new.is_down ≡ false
  pub kind : new.may_fill ≡ old.may_fill
  pub soft_is : new.soft ≡ no_asks
  pub from_up : old.is_down ≡ false → MayRemain old xs ds
  pub from_down : old.is_down ≡ true → IsFront ds old.lost
  pub state_is : IsAfter old.state ds new.state

-- What a node may answer to a stop, and the node after it; it is never full.
abbrev pub Stops : Node → List Coming → Result (Vec Deed) NodeFault → Node → Type 0
Stops old xs (Ok deeds) new = IsOpened old xs deeds.items new
Stops old xs (Err faults.Full) new = ⊥
Stops old xs (Err faults.Down) new = WentDown old xs new

-- what comes to a node with a piece of work
abbrev pub in_hand : Work → List Coming
in_hand (works.Messages messages) = comings messages.items
in_hand works.Snapshot = []

-- The work is not too large for one call.
abbrev pub IsBatch : Work → Type 0
IsBatch (works.Messages messages) = length messages.items ≤ MAX_BATCH
IsBatch works.Snapshot = Unit {0}
