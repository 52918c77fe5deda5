-- What a server's call comes to in the world.
use Rattle.std.proofs.Common.{◌≡◌, ℕ, zero, suc, ◌<◌, List, [], ◌∷◌, ◌++◌, length, map, All, Option, Some, None, set}
use Rattle.std.proofs.Common.{slice_get, get_or, refl, sym, ap, ◌∙◌, subst, append-nil}
use Rattle.std.specs.Prelude.{Result, Ok, Err}
use Rattle.std.specs.Prelude.{nat_lt, ◌≤◌, true}
use Rattle.std.specs.List.{list_all}
use Rattle.std.proofs.lemmas.Bool.{cond-true, cond-false, lt-ltb, le-ltb}
use Rattle.std.proofs.lemmas.Option.{same_Some, slice_get_read}
use Rattle.linda_store_step.specs.declared.size.TheConstants.{MAX_BATCH}
use Rattle.linda_world_laws.specs.declared.seen.Seen.{Seen}
use Rattle.linda_world.specs.Refusal.{early_refusal_by, early_refusal_of_packet, is_message_at, refusal_at, refusal_by, refusal_of_packet, refusal_of_stop}
use Rattle.std.specs.FinMap.{get, insert}
use Rattle.linda_wire.specs.declared.message.Message.{Message}
use Rattle.linda_wire.specs.declared.reply.Reply.{Reply}
use Rattle.linda_client.specs.React.{Call, Receive}
use Rattle.linda_world_laws.specs.declared.packet.Body.{Body}
use Rattle.linda_world_laws.specs.declared.packet.Body.TheVariants as bodies
use Rattle.linda_world_laws.specs.declared.packet.Packet.{Packet}
use Rattle.linda_world_laws.specs.World.{Server, Members, World, delivered, delivered_at}
use Rattle.linda_world_laws.specs.Steps.{Told, Task, Takes, HasReacted, HasServed, Carries, Delivers}
use Rattle.linda_world.specs.declared.fault.WorldFault.{WorldFault}
use Rattle.linda_world.specs.declared.fault.WorldFault.TheVariants as faults
use Rattle.linda_world.specs.Answer.{Tells, Serves, ServesOrNot}
use Rattle.linda_world.specs.Member.{refusal_of, refusal_to, ReactsIn}
use Rattle.linda_world.specs.Scene.{IsShownAs, AsksOrNot, TriesOrNot, answer_of, seen_of}
use Rattle.linda_world_laws.proofs.MarkLaws.{all_delivered_front, delivered_front}

-- a server whose deeds stayed leaves all deeds as they were
same_deeds : (servers : List Server) (s : ℕ) (server now : Server) → slice_get servers s ≡ Some server → now.deeds ≡ server.deeds
    → map (λ (v : Server). v.deeds) (set servers s now) ≡ map (λ (v : Server). v.deeds) servers
same_deeds [] s server now there same = refl
same_deeds (v ∷ vs) zero server now there same =
    ap (λ d. d ∷ map (λ (v : Server). v.deeds) vs) (same ∙ ap (λ (s : Server). s.deeds) (sym (same_Some v server there)))
same_deeds (v ∷ vs) (suc s) server now there same = ap (λ l. v.deeds ∷ l) (same_deeds vs s server now there same)

module _ (task : Task) (s : ℕ) (servers : List Server) (members : Members) (ps later : List Packet)
    (server now : Server) (there : slice_get servers s ≡ Some server) where
  abbrev here : World
  here = record { servers = servers; members = members; packets = ps }

  -- It is a step, with these packets delivered.
  pub marked_step : (ks : List ℕ) (told : Told) → All (λ k. k < length ps) ks → Serves task s server ps told now later
      → HasServed task s ks here told (record { servers = set servers s now; members = members; packets = delivered ks later })
  marked_step ks told low serves = record {
    server = server;
    there = there;
    answer = serves.answer;
    deeds = serves.deeds;
    node = serves.node;
    done = serves.done;
    servers = ap (set servers s) serves.server_is;
    members = refl;
    packets = ap (delivered ks) serves.packets_are ∙ all_delivered_front ks ps _ low;
    told_is = serves.told_is;
  }

  -- Or memory ran out.
  pub short_of : now.deeds ≡ server.deeds → later ≡ ps → IsShownAs here (record { servers = set servers s now; members = members; packets = later })
  short_of same packets = record { deeds = same_deeds servers s server now there same; got = λ d. refl; packets = packets }

  pub asked_step : {E : Type 0} (refused : Option WorldFault) (result : Result Told E) → refused ≡ None → ServesOrNot task s server ps result now later
      → AsksOrNot (HasServed task s []) refused here (seen_of result) (record { servers = set servers s now; members = members; packets = later })
  asked_step refused (Ok (Ok seen)) allowed serves =
      (allowed, marked_step [] (Ok seen) (Rattle.std.proofs.lemmas.List.Elements.All-nil (λ k. k < length ps)) serves)
  asked_step refused (Ok (Err at)) allowed serves =
      (allowed, marked_step [] (Err at) (Rattle.std.proofs.lemmas.List.Elements.All-nil (λ k. k < length ps)) serves)
  asked_step refused (Err short) allowed same = (allowed, short_of same.0 same.1)

-- A server that is there is asked.
pub server_there : (w : World) (s : ℕ) → s < length w.servers → refusal_at w s ≡ None
server_there w s within = cond-true (nat_lt s (length w.servers)) None (Some faults.NoServer) (lt-ltb s (length w.servers) within)

-- a server that is there is asked, if the servers are those of a vector
pub there_at : (s : ℕ) (servers : List Server) (members : Members) (ps : List Packet) (w : World)
    → (let scene : World = record { servers = servers; members = members; packets = ps } in scene) ≡ w → s < length servers → refusal_at w s ≡ None
there_at s servers members ps w w_is within = subst (λ (x : World). refusal_at x s ≡ None) w_is
    (server_there (record { servers = servers; members = members; packets = ps }) s within)

-- A server that is there is stopped at work on messages to it that are few enough.
stop_lawful : (w : World) (s : ℕ) (ks : List ℕ) → s < length w.servers → list_all (is_message_at w.packets s) ks ≡ true
    → length ks ≤ MAX_BATCH → refusal_of_stop w s ks ≡ None
stop_lawful w s ks within are few =
    cond-true (nat_lt s (length w.servers)) _ (Some faults.NoServer) (lt-ltb s (length w.servers) within)
    ∙ cond-true (list_all (is_message_at w.packets s) ks) _ (Some faults.NoPacket) are
    ∙ cond-false (nat_lt MAX_BATCH (length ks)) (Some faults.TooManyPackets) None (le-ltb MAX_BATCH (length ks) few)

pub stop_allowed : (s : ℕ) (ks : List ℕ) (servers : List Server) (members : Members) (ps : List Packet) (w : World)
    → (let scene : World = record { servers = servers; members = members; packets = ps } in scene) ≡ w
    → s < length servers → list_all (is_message_at ps s) ks ≡ true → length ks ≤ MAX_BATCH → refusal_of_stop w s ks ≡ None
stop_allowed s ks servers members ps w w_is within are few =
    subst (λ (x : World). refusal_of_stop x s ks ≡ None) w_is (stop_lawful (record { servers = servers; members = members; packets = ps }) s ks within are few)

-- a server was asked, if the servers are those of a vector, and the answer has another name
pub asked_at : {E : Type 0} (task : Task) (s : ℕ) (servers : List Server) (members : Members) (ps later : List Packet) (server now : Server)
    → s < length servers → server ≡ get_or servers s server
    → (w : World) → (let scene : World = record { servers = servers; members = members; packets = ps } in scene) ≡ w
    → (told : Result Told E) (result : Result Seen WorldFault) → result ≡ seen_of told → ServesOrNot task s server ps told now later
    → AsksOrNot (HasServed task s []) (refusal_at w s) w result (record { servers = set servers s now; members = members; packets = later })
asked_at task s servers members ps later server now within there w w_is told result result_is serves =
    subst (λ (x : World). AsksOrNot (HasServed task s []) (refusal_at x s) x result
    (record { servers = set servers s now; members = members; packets = later })) w_is
    (subst (λ r. AsksOrNot (HasServed task s []) (refusal_at (record { servers = servers; members = members; packets = ps }) s)
    (record { servers = servers; members = members; packets = ps }) r (record { servers = set servers s now; members = members; packets = later }))
    (sym result_is)
    (asked_step task s servers members ps later server now (slice_get_read servers (length servers) s server refl within there)
    (refusal_at (record { servers = servers; members = members; packets = ps }) s) told
    (server_there (record { servers = servers; members = members; packets = ps }) s within) serves))

-- what sends nothing leaves any packets
pub silent_serves : (task : Task) (s : ℕ) (server : Server) (ps : List Packet) (now : Server) (told : Told)
    → Serves task s server [] told now [] → Serves task s server ps told now ps
silent_serves task s server ps now told serves = record {
  answer = serves.answer;
  deeds = serves.deeds;
  node = serves.node;
  done = serves.done;
  server_is = serves.server_is;
  packets_are = sym (append-nil ps) ∙ ap (λ l. ps ++ l) serves.packets_are;
  told_is = serves.told_is;
}

pub silent_at : {E : Type 0} (task : Task) (s : ℕ) (server : Server) (ps : List Packet) (now : Server) (told : Result Told E)
    → ServesOrNot task s server [] told now [] → ServesOrNot task s server ps told now ps
silent_at task s server ps now (Ok told) serves = silent_serves task s server ps now told serves
silent_at task s server ps now (Err short) same = (same.0, refl)

-- What was returned is answered so: a step, or memory that ran out.
pub done_at : (Comes : World → Told → World → Type 0) (refused : Option WorldFault) (w new : World) (told : Told) (result : Result Seen WorldFault)
    → result ≡ answer_of told → refused ≡ None → Comes w told new
    → AsksOrNot Comes refused w result new
done_at Comes refused w new (Ok seen) result result_is allowed comes = subst (λ r. AsksOrNot Comes refused w r new) (sym result_is) (allowed, comes)
done_at Comes refused w new (Err s) result result_is allowed comes = subst (λ r. AsksOrNot Comes refused w r new) (sym result_is) (allowed, comes)

pub short_at : {E : Type 0} (Comes : World → Told → World → Type 0) (refused : Option WorldFault) (w new : World)
    (short : E) (result : Result Seen WorldFault) → result ≡ seen_of (Err short) → refused ≡ None → IsShownAs w new
    → AsksOrNot Comes refused w result new
short_at Comes refused w new short result result_is allowed shown = subst (λ r. AsksOrNot Comes refused w r new) (sym result_is) (allowed, shown)

-- A server's call is a step, or leaves what is shown, if the servers are those of a vector.
module _ (task : Task) (s : ℕ) (servers : List Server) (members : Members) (ps later : List Packet)
    (server now : Server) (within : s < length servers) (there : server ≡ get_or servers s server)
    (w : World) (w_is : (let scene : World = record { servers = servers; members = members; packets = ps } in scene) ≡ w) where
  here_at : slice_get servers s ≡ Some server
  here_at = slice_get_read servers (length servers) s server refl within there

  pub served_at : (ks : List ℕ) (told : Told) (final : List Packet) → All (λ k. k < length ps) ks
      → Serves task s server ps told now later → final ≡ delivered ks later
      → HasServed task s ks w told (record { servers = set servers s now; members = members; packets = final })
  served_at ks told final low serves final_is =
      subst (λ (x : World). HasServed task s ks x told (record { servers = set servers s now; members = members; packets = final })) w_is
      (subst (λ l. HasServed task s ks (record { servers = servers; members = members; packets = ps }) told
      (record { servers = set servers s now; members = members; packets = l })) (sym final_is)
      (marked_step task s servers members ps later server now here_at ks told low serves))

  pub shown_at : now.deeds ≡ server.deeds → later ≡ ps → IsShownAs w (record { servers = set servers s now; members = members; packets = later })
  shown_at same packets = subst (λ (x : World). IsShownAs x (record { servers = set servers s now; members = members; packets = later })) w_is
      (short_of task s servers members ps later server now here_at same packets)

-- A client that reacts does not refuse the call.
pub reacts_allowed : (call : Call) (c : ℕ) (olds news : Members) (ps later : List Packet) (told : Told)
    → ReactsIn call c olds ps told news later → refusal_to (get olds c) call ≡ None
reacts_allowed call c olds news ps later told is = ap (λ o. refusal_to o call) is.known ∙ ap refusal_of is.reacts.answer

-- A client's call that is not refused is a step, with this packet delivered.
pub received_at : (call : Call) (c k : ℕ) (servers : List Server) (olds news : Members) (ps later final : List Packet) (told : Told)
    → k < length ps → ReactsIn call c olds ps told news later → final ≡ delivered_at k later
    → (w : World) → (let scene : World = record { servers = servers; members = olds; packets = ps } in scene) ≡ w
    → (refusal_to (get w.members c) call ≡ None) × HasReacted call c (k ∷ []) w told (record { servers = servers; members = news; packets = final })
received_at call c k servers olds news ps later final told low is final_is w w_is =
    subst (λ (x : World). (refusal_to (get x.members c) call ≡ None)
    × HasReacted call c (k ∷ []) x told (record { servers = servers; members = news; packets = final })) w_is (
      reacts_allowed call c olds news ps later told is,
      record {
        member = is.member;
        known = is.known;
        reaction = is.reacts.reaction;
        answer = is.reacts.answer;
        servers = refl;
        members = is.members ∙ ap (insert olds c) is.reacts.member_is;
        packets = final_is ∙ ap (delivered_at k) is.reacts.packets_are ∙ delivered_front k ps _ low;
        told_is = is.reacts.told_is;
      },
    )

-- A packet that is there is delivered: a message to its server, or a reply to its client.
module _ (w new : World) (k : ℕ) (p : Packet) (result : Result Seen WorldFault) (there : slice_get w.packets k ≡ Some p) where
  -- whatever refusal may come before it is copied
  carried_early : (body : Body) (early : Option WorldFault) → p.body ≡ body
      → Tells (λ told. (refusal_by w p body ≡ None) × Carries body p k w told new)
      (λ fault. (refusal_by w p body ≡ Some fault) × (new ≡ w)) ((early ≡ None) × IsShownAs w new) result
      → TriesOrNot (λ x told then. Delivers (slice_get x.packets k) k x told then) (refusal_of_packet w (slice_get w.packets k)) early w result new
  carried_early body early body_is is =
      subst (λ o. Tells (λ told. (refusal_of_packet w o ≡ None) × Delivers o k w told new)
      (λ fault. (refusal_of_packet w o ≡ Some fault) × (new ≡ w)) ((early ≡ None) × IsShownAs w new) result) (sym there)
      (subst (λ b. Tells (λ told. (refusal_by w p b ≡ None) × Carries b p k w told new)
      (λ fault. (refusal_by w p b ≡ Some fault) × (new ≡ w)) ((early ≡ None) × IsShownAs w new) result) (sym body_is) is)

  early_is : (body : Body) → p.body ≡ body → early_refusal_of_packet w (slice_get w.packets k) ≡ early_refusal_by w p body
  early_is body body_is = ap (early_refusal_of_packet w) there ∙ ap (early_refusal_by w p) body_is

  pub heard : (m said : Message) → p.body ≡ bodies.Message m → said ≡ m
      → AsksOrNot (HasServed (Takes p.client said) p.server (k ∷ [])) (refusal_at w p.server) w result new
      → TriesOrNot (λ x told then. Delivers (slice_get x.packets k) k x told then)
      (refusal_of_packet w (slice_get w.packets k)) (early_refusal_of_packet w (slice_get w.packets k)) w result new
  heard m said body same is =
      subst (λ o. TriesOrNot (λ x told then. Delivers (slice_get x.packets k) k x told then) (refusal_of_packet w (slice_get w.packets k)) o w result new)
      (sym (early_is (bodies.Message m) body))
      (carried_early (bodies.Message m) (refusal_at w p.server) body
      (subst (λ y. AsksOrNot (HasServed (Takes p.client y) p.server (k ∷ [])) (refusal_at w p.server) w result new) same is))

  -- a reply is copied first, so nothing is asked before
  pub answered : (r said : Reply) → p.body ≡ bodies.Reply r → said ≡ r
      → AsksOrNot (HasReacted (Receive p.server said) p.client (k ∷ [])) (refusal_to (get w.members p.client) (Receive p.server said)) w result new
      → TriesOrNot (λ x told then. Delivers (slice_get x.packets k) k x told then)
      (refusal_of_packet w (slice_get w.packets k)) (early_refusal_of_packet w (slice_get w.packets k)) w result new
  answered r said body same is =
      subst (λ o. TriesOrNot (λ x told then. Delivers (slice_get x.packets k) k x told then) (refusal_of_packet w (slice_get w.packets k)) o w result new)
      (sym (early_is (bodies.Reply r) body))
      (carried_early (bodies.Reply r) None body
      (by result (subst (λ y. AsksOrNot (HasReacted (Receive p.server y) p.client (k ∷ []))
      (refusal_to (get w.members p.client) (Receive p.server y)) w result new) same is)))
    where
      Wanted : Result Seen WorldFault → Type 0
      Wanted x = Tells (λ told. (refusal_by w p (bodies.Reply r) ≡ None) × Carries (bodies.Reply r) p k w told new)
          (λ fault. (refusal_by w p (bodies.Reply r) ≡ Some fault) × (new ≡ w)) ((early_refusal_by w p (bodies.Reply r) ≡ None) × IsShownAs w new) x

      by : (x : Result Seen WorldFault)
          → AsksOrNot (HasReacted (Receive p.server r) p.client (k ∷ [])) (refusal_to (get w.members p.client) (Receive p.server r)) w x new → Wanted x
      by (Ok seen) h = h
      by (Err (faults.Down s)) h = h
      by (Err faults.Memory) h = (refl, h.1)
      by (Err faults.NoClient) h = h
      by (Err faults.NoServer) h = h
      by (Err faults.NoPacket) h = h
      by (Err faults.ClientKnown) h = h
      by (Err faults.TooManyPackets) h = h
      by (Err (faults.Client fault)) h = h
