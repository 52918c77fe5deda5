-- What a server's call comes to, by its node's answer.
use Rattle.std.proofs.Common.{◌≡◌, ℕ, true, false, List, [], ◌∷◌, ◌++◌, map, option_to_list, refl, sym, ap, ◌∙◌, subst, append-nil}
use Rattle.std.specs.Prelude.{Option, None, Result, Ok, Err}
use Rattle.std.specs.Global.{Vec}
use Rattle.linda_wire.specs.declared.message.Message.{Message}
use Rattle.linda_wire.specs.declared.reply.Reply.{Reply}
use Rattle.linda_store_state.specs.declared.deed.Deed.{Deed}
use Rattle.linda_store_step.specs.History.{says}
use Rattle.linda_store_step.specs.Reported.{reported_deed}
use Rattle.linda_store_step.specs.Deeds.{last_in as last_number}
use Rattle.linda_store.specs.declared.node.NodeFault.{NodeFault}
use Rattle.linda_store.specs.Node.{Node, Sent, IsFull, IsDown, Handles, Works}
use Rattle.linda_store.specs.Sound.{IsSound}
use Rattle.linda_world_laws.specs.declared.packet.Packet.{Packet}
use Rattle.linda_world_laws.specs.declared.seen.Seen.{Seen}
use Rattle.linda_world_laws.specs.World.{Server, sent_from}
use Rattle.linda_world_laws.specs.Steps.{Told, Task, Takes, Does, without_room}
use Rattle.linda_world.specs.Answer.{Serves}

abbrev pub seen_served : Seen
seen_served = record { client = None; outcome = None; fault = None; full = false }

abbrev pub seen_full : Seen
seen_full = record { client = None; outcome = None; fault = None; full = true }

abbrev saw : Seen → Told
saw seen = Ok seen

-- what a snapshot, and what a stop, is refused with
abbrev pub refused_by : NodeFault → Result (Unit {0}) NodeFault
refused_by fault = Err fault

abbrev pub stop_failed : NodeFault → Result (Vec Deed) NodeFault
stop_failed fault = Err fault

-- A law of the layers below: which deed a message did.
abbrev pub Learned : Type 0
Learned = (ds es : List Deed) (old new : Node) (c : ℕ) (m : Message) (sends : List (ℕ × Reply))
    → IsSound ds old → Works old (says c m ∷ []) (Sent sends) es new → es ≡ option_to_list (reported_deed c m (last_number ds c) sends)

module _ (task : Task) (s : ℕ) (was : Server) (ds : List Deed) (old new : Node)
    (was_is : (let server : Server = record { deeds = ds; node = old } in server) ≡ was) (ps later : List Packet) (es : List Deed) where
  abbrev here : Server
  here = record { deeds = ds; node = old }

  pub sent_served : (sends : List (ℕ × Reply)) (now : List Deed) (seen : Seen) → seen ≡ seen_served
      → Does task old (Sent sends) es new → now ≡ ds ++ es → later ≡ ps ++ map (sent_from s) sends
      → Serves task s was ps (Ok seen) (record { deeds = now; node = new }) later
  sent_served sends now seen seen_is done now_is packets = subst (λ v. Serves task s v ps (Ok seen) (record { deeds = now; node = new }) later) was_is (record {
    answer = Sent sends;
    deeds = es;
    node = new;
    done = done;
    server_is = ap (λ l. record { deeds = l; node = new }) now_is;
    packets_are = packets;
    told_is = ap saw seen_is;
  })

  pub full_served : (seen : Seen) → seen ≡ seen_full → Does task old IsFull es new → es ≡ [] → later ≡ ps ++ map (sent_from s) (without_room task)
      → Serves task s was ps (Ok seen) (record { deeds = ds; node = new }) later
  full_served seen seen_is done none packets = subst (λ v. Serves task s v ps (Ok seen) (record { deeds = ds; node = new }) later) was_is (record {
    answer = IsFull;
    deeds = es;
    node = new;
    done = done;
    server_is = ap (λ l. record { deeds = l; node = new }) (sym (append-nil ds) ∙ ap (λ l. ds ++ l) (sym none));
    packets_are = packets;
    told_is = ap saw seen_is;
  })

  pub down_served : Does task old IsDown es new → es ≡ [] → Serves task s was ps (Err s) (record { deeds = ds; node = new }) ps
  down_served done none = subst (λ v. Serves task s v ps (Err s) (record { deeds = ds; node = new }) ps) was_is (record {
    answer = IsDown;
    deeds = es;
    node = new;
    done = done;
    server_is = ap (λ l. record { deeds = l; node = new }) (sym (append-nil ds) ∙ ap (λ l. ds ++ l) (sym none));
    packets_are = sym (append-nil ps);
    told_is = refl;
  })

-- A node took a message: the deed that was reported is the one that it did.
pub took : Learned → (s c : ℕ) (m : Message) (was : Server) (ds : List Deed) (old new : Node)
    → (let server : Server = record { deeds = ds; node = old } in server) ≡ was → (ps later : List Packet)
    → (sends : List (ℕ × Reply)) (last : ℕ) (deed : Option Deed) (now : List Deed) (seen : Seen)
    → seen ≡ seen_served → IsSound was.deeds was.node → Handles old c m (Sent sends) new
    → last ≡ last_number ds c → deed ≡ reported_deed c m last sends → now ≡ ds ++ option_to_list deed → later ≡ ps ++ map (sent_from s) sends
    → Serves (Takes c m) s was ps (Ok seen) (record { deeds = now; node = new }) later
took learned s c m was ds old new was_is ps later sends last deed now seen seen_is sound works last_is deed_is now_is packets =
    let es_are : works.0 ≡ option_to_list deed =
    learned ds works.0 old new c m sends (subst (λ (v : Server). IsSound v.deeds v.node) (sym was_is) sound) works.1
    ∙ ap (λ n. option_to_list (reported_deed c m n sends)) (sym last_is) ∙ ap option_to_list (sym deed_is) in
    sent_served (Takes c m) s was ds old new was_is ps later works.0 sends now seen seen_is works.1 (now_is ∙ ap (λ l. ds ++ l) (sym es_are)) packets
