-- Every packet goes to a server that is there, and each Ask is that of an open ticket.
use Rattle.std.proofs.Common.{◌≡◌, ℕ, ◌+◌, ◌<◌, [], ◌∷◌, refl, sym, subst, arith}
use Rattle.std.specs.Prelude.{Option, Some, None, All, IfSome, IsSomeAnd, Ok, option_to_list}
use Rattle.std.proofs.lemmas.List.Elements.{All-append, All-cons, All-map, All-nil, All-weaker}
use Rattle.linda_wire.specs.declared.message.Message.TheVariants as messages
use Rattle.linda_client.specs.declared.arrived_tuple.PendingAccept.{PendingAccept}
use Rattle.linda_client.specs.declared.task.Task.{Task}
use Rattle.linda_client.specs.declared.task.Task.TheVariants.{Idle, Putting, Syncing, Leaving, Left}
use Rattle.linda_client.specs.Pending.{Pending}
use Rattle.linda_client.specs.Client.{Client, IsClient, IsTaskOf, IsUsed, asked_in, next_at, pending_in, servers}
use Rattle.linda_client.specs.Packets.{Packet, accept_packet, ask_packets, cancels_but, open_asks, sent_again, unanswered}
use Rattle.linda_client.specs.Reaction.{Reaction}
use Rattle.linda_client.specs.React.{Call, new_pending, out_server, react}
use Rattle.linda_client.specs.Progress.{IsSoundPacket}
use Rattle.linda_client.proofs.CancelLaws.{all_cancels}
use Rattle.linda_client.proofs.Course.{Course, abandons, accepts, begins, commits, course, gives_up, puts, rejects, repeats}
use Rattle.linda_client.proofs.LeaveLaws.{all_leaves}
use Rattle.linda_client.proofs.ListLaws.{all_there}
use Rattle.linda_client.proofs.PacketLaws.{all_asks}
use Rattle.linda_client.proofs.RangeLaws.{out_within, rises}

asks_sound : (d : Client) (pending : Pending) → pending_in d.task ≡ Some pending → All (IsSoundPacket d) (ask_packets (servers d) pending)
asks_sound d pending there =
    all_asks (IsSoundPacket d) (servers d) pending
    (λ s k ask within open_at. (
      within,
      subst (λ o. IsSomeAnd (asked_in o k) (λ x. (x.remove ≡ ask.remove) × (x.template ≡ ask.template))) (sym there)
          (subst (λ o. IsSomeAnd o (λ x. (x.remove ≡ ask.remove) × (x.template ≡ ask.template))) (sym open_at) (refl, refl)),
    ))

cancels_sound : (d : Client) (count : ℕ) (own : Option (ℕ × ℕ)) (pending : Pending) → servers d ≡ count → All (IsSoundPacket d) (cancels_but count own pending)
cancels_sound d count own pending same =
    all_cancels (IsSoundPacket d) count own pending (λ s k due. let low = due.server_is in let within : s < servers d = omega arith in (within, tt))

module _ (c : Client) (is : IsClient c) where
  one : (d : Client) (p : Packet) → IsSoundPacket d p → All (IsSoundPacket d) (p ∷ [])
  one d p sound = All-cons (IsSoundPacket d) p [] sound (All-nil (IsSoundPacket d))

  unanswered_sound : (t : Task) → IsTaskOf c t → All (IsSoundPacket c) (unanswered t)
  unanswered_sound Idle h = All-nil (IsSoundPacket c)
  unanswered_sound (Putting server n row) h = one c (server, messages.Out n row) (h.0, tt)
  unanswered_sound (Syncing pending) h = by pending.accepted h.accepted
    where
      by : (o : Option PendingAccept) → IfSome o (λ a. IsUsed c a.server a.n) → All (IsSoundPacket c) (option_to_list (accept_packet o))
      by None used = All-nil (IsSoundPacket c)
      by (Some a) used = one c (a.server, messages.Accept a.n a.ticket a.id) (used.0, tt)
  unanswered_sound (Leaving all) h = All-map (IsSoundPacket c) (λ p. (p.0, messages.Leave p.1)) all
      (All-weaker (λ (p : ℕ × ℕ). IsUsed c p.0 p.1 × (p.1 + 1 ≡ next_at c p.0))
      (λ (p : ℕ × ℕ). IsSoundPacket c (p.0, messages.Leave p.1)) (λ p own. (own.0.0, tt)) all h.last)
  unanswered_sound Left h = All-nil (IsSoundPacket c)

  open_sound : (o : Option Pending) → pending_in c.task ≡ o → All (IsSoundPacket c) (open_asks c o)
  open_sound None there = All-nil (IsSoundPacket c)
  open_sound (Some pending) there = asks_sound c pending there

  again_sound : All (IsSoundPacket c) (sent_again c)
  again_sound = All-append (IsSoundPacket c) (unanswered c.task) (open_asks c (pending_in c.task))
      (unanswered_sound c.task is.task) (open_sound (pending_in c.task) refl)

  sound_on : (call : Call) (r : Reaction) → servers r.client ≡ servers c → Course c call r → All (IsSoundPacket r.client) r.packets
  sound_on call r same (rejects a within other) = one c (a.server, messages.Cancel a.ticket) (within, tt)
  sound_on call r same (repeats packets repeated there other) = all_there (IsSoundPacket c) packets (sent_again c) there again_sound
  sound_on call r same (puts row idle number outs) = let low = out_within c is in
      let within : out_server c < servers r.client = omega arith in one r.client _ (within, tt)
  sound_on call r same (begins event called idle within room) = asks_sound r.client (new_pending c event) refl
  sound_on call r same (accepts pending rest a task turn low input more) = let within : a.server < servers r.client = omega arith in one r.client _ (within, tt)
  sound_on call r same (commits pending clock own base got task answered spares gets by) = cancels_sound r.client (servers c) own pending refl
  sound_on call r same (abandons pending task none) = cancels_sound r.client (servers c) None pending refl
  sound_on call r same (gives_up called idle more) =
      all_leaves (IsSoundPacket r.client) c (λ s low. let within : s < servers r.client = omega arith in (within, tt))
  sound_on call r same _ = All-nil (IsSoundPacket r.client)

-- Every packet of a call is sound.
pub sound : (c : Client) (call : Call) (r : Reaction) → IsClient c → react c call ≡ Ok r → All (IsSoundPacket r.client) r.packets
sound c call r is e = sound_on c is call r (rises c call r is e).same_servers (course c is call r e)
