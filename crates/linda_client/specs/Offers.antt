-- Offers that a client has in hand, what it does with one that comes, and what becomes of one in
-- hand.
use Rattle.std.specs.Prelude.{◌≡◌, ◌<◌, ℕ, [], ◌∷◌, ◌⊎◌, Some, None, Contains, IsSome, IsSomeAnd}
use Rattle.std.specs.Prelude.{true}
use Rattle.linda_tuple.specs.Tuple.{Tuple}
use Rattle.linda_wire.specs.declared.message.Message.TheVariants as messages
use Rattle.linda_wire.specs.declared.reply.Reply.TheVariants as replies
use Rattle.linda_client.specs.declared.arrived_tuple.PendingAccept.{PendingAccept}
use Rattle.linda_client.specs.declared.arrived_tuple.ArrivedTuple.{ArrivedTuple}
use Rattle.linda_client.specs.declared.ask.Ask.{Ask}
use Rattle.linda_client.specs.Pending.{Pending, ask_at, is_fit}
use Rattle.linda_client.specs.Client.{Client, asked_in, next_at, pending_in, servers}
use Rattle.linda_client.specs.Reaction.{Reaction, send}
use Rattle.linda_client.specs.React.{Call, Receive, next_accept}

-- An offer of this server, for this ticket, of this id is saved.
pub record IsSaved (pending : Pending) (server ticket id : ℕ) : Type 0 where
  pub arrival : ArrivedTuple
  pub there : Contains pending.saved arrival
  pub server_is : arrival.server ≡ server
  pub ticket_is : arrival.ticket ≡ ticket
  pub id_is : arrival.id ≡ id

-- It is the accepted one, which is not answered yet.
pub record IsAccepted (pending : Pending) (server ticket id : ℕ) : Type 0 where
  pub own : PendingAccept
  pub there : pending.accepted ≡ Some own
  pub server_is : own.server ≡ server
  pub ticket_is : own.ticket ≡ ticket
  pub id_is : own.id ≡ id

-- An offer that comes, of a tuple for a ticket, from a server. If the ticket is not open, a Cancel
-- of it goes to that server, and that is all. If it is open and the offer fits, it is saved if an
-- Accept is unanswered, and accepted if none is.
pub record IsTreated (c : Client) (server ticket id : ℕ) (row : Tuple) (r : Reaction) : Type 0 where
  pub stray : asked_in (pending_in c.task) ticket ≡ None
      → r ≡ send ((server, messages.Cancel ticket) ∷ []) c
  pub saved : (pending : Pending) (ask : Ask) → pending_in c.task ≡ Some pending
      → ask_at pending ticket ≡ Some ask → is_fit ask true row ≡ true
      → IsSome pending.accepted
      → IsSomeAnd (pending_in r.client.task) (λ later. IsSaved later server ticket id)
  pub accepted : (pending : Pending) (ask : Ask) → pending_in c.task ≡ Some pending
      → ask_at pending ticket ≡ Some ask → is_fit ask true row ≡ true
      → pending.accepted ≡ None
      → IsSomeAnd (pending_in r.client.task)
      (λ later. later.accepted ≡ Some (next_accept c server ticket id))

-- An offer is in hand: it is saved, or accepted, by an Accept of which P holds.
abbrev pub InHand : (PendingAccept → Type 0) → Pending → ℕ → ℕ → ℕ → Type 0
InHand P pending server ticket id = IsSaved pending server ticket id
    ⊎ ((a : IsAccepted pending server ticket id) × P a.own)

-- It is in hand then too: the synchronization goes on, and it is saved, or accepted, by an Accept
-- of which P holds or by one of the next number.
pub record StaysInHand (P : PendingAccept → Type 0) (c : Client) (pending : Pending)
    (server ticket id : ℕ)
    (r : Reaction) : Type 0 where
  pub later : Pending
  pub after : pending_in r.client.task ≡ Some later
  pub event : later.event ≡ pending.event
  pub first : later.first ≡ pending.first
  pub hand : InHand (λ a. P a ⊎ (a.n ≡ next_at c server)) later server ticket id

-- The Accept of it is answered by this call.
pub record AcceptIsAnswered (P : PendingAccept → Type 0) (call : Call) (pending : Pending)
    (server ticket id : ℕ) : Type 0 where
  pub accepted : IsAccepted pending server ticket id
  pub holds : P accepted.own
  pub answer : (call ≡ Receive server (replies.Gone accepted.own.n))
      ⊎ ((row : Tuple) × (call ≡ Receive server (replies.Taken accepted.own.n id row)))

-- What becomes of an offer that is in hand: its ticket is cancelled at its server, it stays in
-- hand, or its Accept is answered.
abbrev pub Becomes : (PendingAccept → Type 0) → Call → Client → Pending → ℕ → ℕ → ℕ → Reaction
    → Type 0
Becomes P call c pending server ticket id r =
    Contains r.packets (server, messages.Cancel ticket)
    ⊎ (StaysInHand P c pending server ticket id r
    ⊎ AcceptIsAnswered P call pending server ticket id)

-- Each offer that comes is treated so.
abbrev pub TreatsOffers : Client → Call → Reaction → Type 0
TreatsOffers c call r = (server ticket id : ℕ) (row : Tuple)
    → call ≡ Receive server (replies.Offer ticket id row) → IsTreated c server ticket id row r

-- Each offer that is in hand, saved or accepted under a number beyond the last that is known to be
-- done, becomes so.
abbrev pub KeepsOffers : Client → Call → Reaction → Type 0
KeepsOffers c call r =
    (pending : Pending) → pending_in c.task ≡ Some pending → (last server ticket id : ℕ)
    → server < servers c
    → (ask : Ask) → ask_at pending ticket ≡ Some ask
    → InHand (λ a. last < a.n) pending server ticket id
    → Becomes (λ a. last < a.n) call c pending server ticket id r
