-- Promises that hold in every world that a run leads to, whatever is lost, repeated, delayed or
-- stopped.
use Rattle.std.specs.Prelude.{◌≡◌, ℕ, ◌-◌, ◌≤◌, Bool, true, false, ◌⊎◌, List, ◌++◌, Option, Some}
use Rattle.std.specs.Prelude.{All, Contains, IfSome, IsSome}
use Rattle.std.specs.List.{slice_get}
use Rattle.std.specs.FinMap as map
use Rattle.linda_hold.specs.declared.request.Request.{Request}
use Rattle.linda_wire.specs.declared.message.Message.TheVariants as messages
use Rattle.linda_wire.specs.declared.reply.Reply.TheVariants as replies
use Rattle.linda_tuple.specs.Tuple.{Tuple}
use Rattle.linda_store_state.specs.declared.deed.Deed.{Deed}
use Rattle.linda_store_state.specs.Deed.{outs_of}
use Rattle.linda_store_step.specs.Replies.{reports_deed, ReportsOne}
use Rattle.linda_store_step.specs.Deeds.{HandsOver, PassesOn}
use Rattle.linda_client.specs.Client.{asked_in, pending_in}
use Rattle.linda_world_laws.specs.declared.packet.Body.{Body}
use Rattle.linda_world_laws.specs.declared.packet.Body.TheVariants as bodies
use Rattle.linda_world_laws.specs.declared.packet.Packet.{Packet}
use Rattle.linda_world_laws.specs.World.{Server, Member, Members, World, Handed, sent_by, sent_from}

-- P holds of each client.
abbrev pub OfEach : World → (ℕ → Member → Type 0) → Type 0
OfEach w P = (c : ℕ) (m : Member) → map.get w.members c ≡ Some m → P c m

-- Nothing is at two places of the list.
abbrev pub IsOnce : {X : Type 0} → List X → Type 0
IsOnce {X} xs = (i k : ℕ) (x : X) → slice_get xs i ≡ Some x → slice_get xs k ≡ Some x → i ≡ k

-- No pair of a server and an id was given twice, be it to one client or to two.
pub record IsGivenOnce (w : World) : Type 0 where
  pub one_client : (c d : ℕ) (m n : Member) (pair : ℕ × ℕ)
      → map.get w.members c ≡ Some m → map.get w.members d ≡ Some n → Contains m.got pair
      → Contains n.got pair → c ≡ d
  pub one_place : OfEach w (λ c m. IsOnce m.got)

-- P holds of the deeds of this server, which is there.
abbrev pub OfServer : List Server → ℕ → (List Deed → Type 0) → Type 0
OfServer servers s P = (server : Server) × ((slice_get servers s ≡ Some server) × P server.deeds)

-- Deeds stay: each server has those of before, and more after them.
abbrev pub DeedsStay : World → World → Type 0
DeedsStay w new = (s : ℕ) (old : Server) → slice_get w.servers s ≡ Some old
    → OfServer new.servers s (λ ds. (more : List Deed) × (ds ≡ old.deeds ++ more))

-- What the client was given was put once, under this id at this server, and taken once, by this
-- client; and no later bag has it.
abbrev pub IsRightful : World → ℕ → ℕ × ℕ → Type 0
IsRightful w c pair = OfServer w.servers pair.0 (λ ds. (row : Tuple) × HandsOver ds c pair.1 row)

-- A reply that reports a deed is the book's for a deed of its server, which stays.
abbrev pub IsBacked : List Server → ℕ → ℕ → Body → Type 0
IsBacked servers s c (bodies.Message m) = Unit {0}
IsBacked servers s c (bodies.Reply r) =
    reports_deed r ≡ true → OfServer servers s (λ ds. ReportsOne ds c r)

-- A Gone reports an Accept that passed: nothing was taken by its number, and nothing ever will be.
abbrev pub IsGone : List Server → ℕ → ℕ → Body → Type 0
IsGone servers s c (bodies.Message m) = Unit {0}
IsGone servers s c (bodies.Reply (replies.Gone n)) = OfServer servers s (λ ds. PassesOn ds c n)
IsGone servers s c (bodies.Reply _) = Unit {0}

-- P holds of each packet: of its server, its client and what it carries.
abbrev pub OfPackets : (ℕ → ℕ → Body → Type 0) → List Packet → Type 0
OfPackets P ps = All (λ (p : Packet). P p.server p.client p.body) ps

-- No tuple is taken twice.
pub record IsSafe (w : World) : Type 0 where
  pub given_once : IsGivenOnce w
  pub rightful : OfEach w (λ c m. All (IsRightful w c) m.got)
  pub backed : OfPackets (IsBacked w.servers) w.packets
  pub gone : OfPackets (IsGone w.servers) w.packets

-- A tuple that a client is given now is the one that was put under its id.
abbrev pub IsHanded : World → ℕ → Option Handed → Type 0
IsHanded w c handed =
    IfSome handed (λ h. OfServer w.servers h.server (λ ds. HandsOver ds c h.id h.tuple))

-- A Cancel of this request was sent to this server, be it delivered or not.
abbrev pub HasCancel : List Packet → ℕ → Request → Type 0
HasCancel ps s request = (is_delivered : Bool)
    × Contains ps (record (sent_by request.client
    (s, messages.Cancel request.ticket)) { delivered = is_delivered })

-- These deeds put the tuple under this id.
pub record IsPut (ds : List Deed) (id : ℕ) (tuple : Tuple) : Type 0 where
  pub counted : 1 ≤ id
  pub put : slice_get (outs_of ds) (id - 1) ≡ Some tuple

-- An Offer of the tuple that was put under this id, for this request, was sent, and never
-- delivered.
pub record HasOffer (ps : List Packet) (s : ℕ) (ds : List Deed) (request : Request) (id : ℕ)
    : Type 0 where
  pub tuple : Tuple
  pub put : IsPut ds id tuple
  pub sent : Contains ps (sent_from s (request.client, replies.Offer request.ticket id tuple))

-- The ticket of the request is open at its client.
pub record IsOpenAt (ms : Members) (request : Request) : Type 0 where
  pub member : Member
  pub known : map.get ms request.client ≡ Some member
  pub is_open : IsSome (asked_in (pending_in member.client.task) request.ticket)

-- Each tuple that is held at a server that is up is held for a reason: its ticket is open, or a
-- Cancel of that was sent, or an Offer of this very tuple was never delivered.
abbrev pub AreHeldRightly : World → Type 0
AreHeldRightly w = (s : ℕ) (server : Server) (id : ℕ) (request : Request)
    → slice_get w.servers s ≡ Some server → server.node.is_down ≡ false
    → map.get server.node.soft.holds id ≡ Some request
    → IsOpenAt w.members request
    ⊎ (HasCancel w.packets s request ⊎ HasOffer w.packets s server.deeds request id)
