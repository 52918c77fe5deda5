-- Endings of a synchronization: what it commits to, what that gets, and whom it cancels.
use Rattle.std.specs.Prelude.{◌≡◌, ℕ, ◌+◌, ◌<◌, ◌≤◌, false, true, ◌↔◌, List, Option, Some, None}
use Rattle.std.specs.Prelude.{All, Contains, IsSomeAnd, slice_get}
use Rattle.linda_tuple.specs.Tuple.{Tuple}
use Rattle.linda_tuple.specs.Matching.{Matches, bindings_of}
use Rattle.linda_event.specs.Trees.{Tree, Kind, input, read, alarm, always}
use Rattle.linda_event.specs.Paths as paths
use Rattle.linda_wire.specs.declared.message.Message.TheVariants as messages
use Rattle.linda_wire.specs.declared.reply.Reply.TheVariants as replies
use Rattle.linda_client.specs.declared.arrived_tuple.PendingAccept.{PendingAccept}
use Rattle.linda_client.specs.declared.outcome.Got.{Got}
use Rattle.linda_client.specs.declared.outcome.Got.TheVariants.{Took, Copied, Alarm, Always}
use Rattle.linda_client.specs.declared.outcome.Outcome.{Outcome}
use Rattle.linda_client.specs.declared.outcome.Outcome.TheVariants.{Stored, Synced, Dropped, Left}
use Rattle.linda_client.specs.declared.task.Task.TheVariants.{Idle}
use Rattle.linda_client.specs.Pending.{Pending, ask_at, ticket_count}
use Rattle.linda_client.specs.Client.{Client, pending_in, servers}
use Rattle.linda_client.specs.Packets.{Packet, is_spared, spared}
use Rattle.linda_client.specs.Reaction.{Reaction}
use Rattle.linda_client.specs.React.{Call, Receive}

-- The outcome is the end of a synchronization: it committed, or was abandoned.
abbrev pub EndsSync : Option Outcome → Type 0
EndsSync None = ⊥
EndsSync (Some (Stored server id)) = ⊥
EndsSync (Some (Synced base got labels raised)) = Unit {0}
EndsSync (Some (Dropped raised)) = Unit {0}
EndsSync (Some Left) = ⊥

-- What a base can get when the clock is there: an input takes a tuple that its template matches,
-- and a read copies one, each with what the template binds; an alarm rings once its time has come;
-- and a value is always there.
abbrev pub CanGet : ℕ → Kind → Got → Type 0
CanGet clock (input template) (Took server id row bindings)
    = Matches template row × (bindings ≡ bindings_of template row)
CanGet clock (read template) (Copied server id row bindings)
    = Matches template row × (bindings ≡ bindings_of template row)
CanGet clock (alarm time) Alarm = time ≤ clock
CanGet clock (always value) (Always own) = own ≡ value
CanGet clock _ _ = ⊥

-- There is a base of this number, and it can get this.
abbrev pub BaseGets : ℕ → Tree → ℕ → Got → Type 0
BaseGets clock event base got =
    IsSomeAnd (slice_get (paths.bases_of event) base) (λ kind. CanGet clock kind got)

-- A commitment to a base of an event: it got what that base can get, with the labels above the base
-- and the nack numbers of all nodes that are not above it.
pub record IsCommitment (clock : ℕ) (event : Tree) (base : ℕ) (got : Got) (labels raised : List ℕ)
    : Type 0 where
  pub gets : BaseGets clock event base got
  pub labels_are : labels ≡ paths.labels event base
  pub raised_are : raised ≡ paths.raised event base

-- The end of a synchronization on an event: a commitment to one base, or all nack numbers are
-- raised.
abbrev pub EndsAs : ℕ → Tree → Option Outcome → Type 0
EndsAs clock event (Some (Synced base got labels raised)) =
    IsCommitment clock event base got labels raised
EndsAs clock event (Some (Dropped raised)) = raised ≡ paths.all_nacks event
EndsAs clock event _ = ⊥

-- the server and the ticket that are spared at an end: only what was taken spares its own
abbrev pub spared_for : Pending → Got → Option (ℕ × ℕ)
spared_for pending (Took server id row bindings) = spared pending
spared_for pending _ = None

abbrev pub spared_at : Pending → Option Outcome → Option (ℕ × ℕ)
spared_at pending (Some (Synced base got labels raised)) = spared_for pending got
spared_at pending _ = None

-- A ticket of the synchronization is to be cancelled at a server.
pub record IsDue (count : ℕ) (pending : Pending) (own : Option (ℕ × ℕ)) (server ticket : ℕ)
    : Type 0 where
  pub server_is : server < count
  pub from : pending.first ≤ ticket
  pub below : ticket < pending.first + ticket_count pending
  pub apart : is_spared own (server, ticket) ≡ false

-- the packet is a Cancel
abbrev pub IsCancel : Packet → Type 0
IsCancel (server, messages.Cancel ticket) = Unit {0}
IsCancel _ = ⊥

-- The end of the pending synchronization: nothing is pending after it, it ends as its event says,
-- and what is sent are Cancels: of each ticket to each server unless it is spared, and no others.
pub record IsEnd (c : Client) (pending : Pending) (r : Reaction) : Type 0 where
  pub idle : r.client.task ≡ Idle
  pub ends : EndsAs r.client.clock pending.event r.outcome
  pub cancels : (server ticket : ℕ)
      → Contains r.packets (server, messages.Cancel ticket)
      ↔ IsDue (servers c) pending (spared_at pending r.outcome) server ticket
  pub only : All IsCancel r.packets

-- A Taken that answers the unanswered Accept by server, number and id, whose tuple the input base
-- of this number gets.
pub record IsTaking (c : Client) (call : Call) (base server id : ℕ) (row : Tuple) : Type 0 where
  pub pending : Pending
  pub own : PendingAccept
  pub pending_is : pending_in c.task ≡ Some pending
  pub accepted : pending.accepted ≡ Some own
  pub answers : call ≡ Receive own.server (replies.Taken own.n own.id row)
  pub server_is : server ≡ own.server
  pub id_is : id ≡ own.id
  pub asked : IsSomeAnd (ask_at pending own.ticket) (λ ask. (ask.base ≡ base) × (ask.remove ≡ true))

-- What was got was not taken, or by such a Taken.
abbrev pub GotBy : Client → Call → ℕ → Got → Type 0
GotBy c call base (Took server id row bindings) = IsTaking c call base server id row
GotBy c call base _ = Unit {0}

-- What an outcome says was taken was taken by such a Taken.
abbrev pub TakenBy : Client → Call → Option Outcome → Type 0
TakenBy c call (Some (Synced base got labels raised)) = GotBy c call base got
TakenBy c call _ = Unit {0}
