-- The courses that a step can take. The events are gone through once, here; what a step keeps goes over the courses.
use Rattle.std.proofs.Common.{◌≡◌, ℕ, true, List, [], ◌∷◌, Contains, ◌⊎◌, inl, inr, refl, sym, ap, ◌∙◌, subst, slice_get}
use Rattle.std.specs.Prelude.{Option, Some, None}
use Rattle.std.proofs.lemmas.Option.{same_Some}
use Rattle.linda_wire.specs.declared.message.Message.{Message}
use Rattle.linda_wire.specs.declared.reply.Reply.{Reply}
use Rattle.linda_event.specs.Trees.{tree_of}
use Rattle.linda_store_step.specs.History.{comings}
use Rattle.linda_store_step.specs.Replies.{reports_deed, ReportsOne}
use Rattle.linda_client.specs.React as calls
use Rattle.linda_client.specs.React.{Call, Receive, Resend, Abandon, Leave}
use Rattle.linda_world_laws.specs.declared.event.WorldEvent.{WorldEvent}
use Rattle.linda_world_laws.specs.declared.event.WorldEvent.TheVariants as events
use Rattle.linda_world_laws.specs.declared.packet.Body.{Body}
use Rattle.linda_world_laws.specs.declared.packet.Body.TheVariants as bodies
use Rattle.linda_world_laws.specs.declared.packet.Packet.{Packet}
use Rattle.linda_world_laws.specs.World.{World, delivered}
use Rattle.linda_world_laws.specs.Steps.{Told, Task, Takes, HangsUp, Saves, Halts, HasReacted, HasServed, AreMessagesAt, Carries, Delivers, Steps}
use Rattle.linda_world_laws.specs.Promises.{OfPackets, OfServer, IsBacked}
use Rattle.linda_world_laws.proofs.DeliverLaws.{of_one, same_or_delivered}

-- Why a client is called, and which packets count as delivered by that: of its own, or a reply is delivered to it.
pub data IsCalled (w : World) : Call → ℕ → List ℕ → Type 0 where
  own : (call : Call) (c : ℕ) → ((s : ℕ) (r : Reply) → call ≡ Receive s r → ⊥) → IsCalled w call c []
  carried : (k : ℕ) (p : Packet) (r : Reply) → slice_get w.packets k ≡ Some p → p.body ≡ bodies.Reply r → IsCalled w (Receive p.server r) p.client (k ∷ [])

-- Why a server is asked for something: a message is delivered to it, or it is stopped at work on such, or neither.
pub data IsAsked (w : World) : Task → ℕ → List ℕ → Type 0 where
  takes : (k : ℕ) (p : Packet) (m : Message) → slice_get w.packets k ≡ Some p → p.body ≡ bodies.Message m → IsAsked w (Takes p.client m) p.server (k ∷ [])
  hangs_up : (c s : ℕ) → IsAsked w (HangsUp c) s []
  saves : (s : ℕ) → IsAsked w Saves s []
  halts : (s : ℕ) (ks : List ℕ) (ms : List (ℕ × Message)) → AreMessagesAt w.packets s ks ms → IsAsked w (Halts (comings ms)) s ks

pub data Course (w : World) (told : Told) (new : World) : Type 0 where
  reacts : (call : Call) (c : ℕ) (ks : List ℕ) → IsCalled w call c ks → HasReacted call c ks w told new → Course w told new
  serves : (task : Task) (s : ℕ) (ks : List ℕ) → IsAsked w task s ks → HasServed task s ks w told new → Course w told new

carries : (w new : World) (told : Told) (k : ℕ) (p : Packet) (body : Body) → slice_get w.packets k ≡ Some p
    → p.body ≡ body → Carries body p k w told new → Course w told new
carries w new told k p (bodies.Message m) there body step = serves (Takes p.client m) p.server (k ∷ []) (takes k p m there body) step
carries w new told k p (bodies.Reply r) there body step = reacts (Receive p.server r) p.client (k ∷ []) (carried k p r there body) step

delivers : (w new : World) (told : Told) (k : ℕ) (o : Option Packet) → slice_get w.packets k ≡ o → Delivers o k w told new → Course w told new
delivers w new told k None there step = absurd step
delivers w new told k (Some p) there step = carries w new told k p p.body there refl step

pub course : (w new : World) (event : WorldEvent) (told : Told) → Steps w event told new → Course w told new
course w new (events.Out c row) told step = reacts (calls.Out row) c [] (own (calls.Out row) c (λ s r e. cc)) step
course w new (events.Sync c event) told step = reacts (calls.Sync (tree_of event)) c [] (own (calls.Sync (tree_of event)) c (λ s r e. cc)) step
course w new (events.Abandon c) told step = reacts Abandon c [] (own Abandon c (λ s r e. cc)) step
course w new (events.Leave c) told step = reacts Leave c [] (own Leave c (λ s r e. cc)) step
course w new (events.Deliver k) told step = delivers w new told k (slice_get w.packets k) refl step
course w new (events.Tick c now) told step = reacts (calls.Tick now) c [] (own (calls.Tick now) c (λ s r e. cc)) step
course w new (events.Resend c) told step = reacts Resend c [] (own Resend c (λ s r e. cc)) step
course w new (events.Reconnect c s) told step = reacts (calls.Reconnected s) c [] (own (calls.Reconnected s) c (λ t r e. cc)) step
course w new (events.Close s c) told step = serves (HangsUp c) s [] (hangs_up c s) step
course w new (events.Snapshot s) told step = serves Saves s [] (saves s) step
course w new (events.Stop s packets at torn) told step =
    serves (Halts (comings step.messages)) s packets.items (halts s packets.items step.messages step.in_hand) step.halted
course w new (events.StopSnapshot s at torn) told step = serves (Halts []) s [] (halts s [] [] refl) step

-- A reply that a client receives is one of the packets, and reports what was done.
pub received_told : (w : World) (call : Call) (c : ℕ) (ks : List ℕ) → IsCalled w call c ks → OfPackets (IsBacked w.servers) w.packets
    → (s : ℕ) (r : Reply) → call ≡ Receive s r → reports_deed r ≡ true → OfServer w.servers s (λ ds. ReportsOne ds c r)
received_told w call c ks (own _ _ none) backed s r e tells = absurd (none s r e)
received_told w call c ks (carried k p r there body) backed s x e tells =
    let s_is : p.server ≡ s = cc in
    let r_is : r ≡ x = cc in
    let told = subst (IsBacked w.servers p.server p.client) body (of_one (IsBacked w.servers) w.packets k p backed there) in
    subst (λ y. OfServer w.servers s (λ ds. ReportsOne ds p.client y)) r_is
    (subst (λ t. OfServer w.servers t (λ ds. ReportsOne ds p.client r)) s_is (told (ap reports_deed r_is ∙ tells)))

-- A reply that is on its way stays as it was, or is the one that the client receives.
pub received_or_same : (w : World) (call : Call) (c : ℕ) (ks : List ℕ) → IsCalled w call c ks
    → (p : Packet) (r : Reply) → p.body ≡ bodies.Reply r → Contains w.packets p
    → Contains (delivered ks w.packets) p ⊎ ((p.client ≡ c) × (call ≡ Receive p.server r))
received_or_same w call c ks (own _ _ none) p r body there = inl there
received_or_same w call c ks (carried k q x at q_body) p r body there = elim (same_or_delivered k w.packets p there) [
  | inl same ↦ inl same
  | inr it ↦
      let q_is : q ≡ p = same_Some q p (sym at ∙ it) in
      let r_is : x ≡ r = reply_is x r (sym q_body ∙ ap (λ (y : Packet). y.body) q_is ∙ body) in
      inr (ap (λ (y : Packet). y.client) (sym q_is), ap (λ s. Receive s x) (ap (λ (y : Packet). y.server) q_is) ∙ ap (Receive p.server) r_is)
]
  where
    reply_is : (x y : Reply) → bodies.Reply x ≡ bodies.Reply y → x ≡ y
    reply_is x y e = cc
