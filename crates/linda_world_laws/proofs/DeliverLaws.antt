-- What becomes of packets if some count as delivered, and others are sent.
use Rattle.std.proofs.Common.{◌≡◌, ℕ, zero, suc, Bool, true, List, [], ◌∷◌, ◌++◌, map, Some, All, Contains, slice_get, ◌⊎◌, inl, inr, sym, ap, ◌∙◌, subst}
use Rattle.std.specs.Prelude.{option_map}
use Rattle.std.proofs.lemmas.Option.{none-some, same_Some, slice_get-map}
use Rattle.std.proofs.lemmas.List.Elements.{All-cons, All-head, All-tail, All-append, All-map, All-contains}
use Rattle.linda_wire.specs.declared.message.Message.{Message}
use Rattle.linda_world_laws.specs.declared.packet.Body.{Body}
use Rattle.linda_world_laws.specs.declared.packet.Body.TheVariants as bodies
use Rattle.linda_world_laws.specs.declared.packet.Packet.{Packet}
use Rattle.linda_world_laws.specs.World.{delivered_at, delivered}
use Rattle.linda_world_laws.specs.Steps.{IsMessageAt, AreMessagesAt}
use Rattle.linda_world_laws.specs.Promises.{OfPackets}
use Rattle.linda_world_laws.proofs.PlaceLaws.{place, placed}

pub mapped_there : {X Y : Type 0} (f : X → Y) (xs : List X) (x : X) → Contains xs x → Contains (map f xs) (f x)
mapped_there f xs x there =
    let at = place xs x there in
    placed (map f xs) at.0 (f x) (slice_get-map f xs at.0 ∙ ap (option_map f) at.1)

-- What is said of server, client and body does not depend on deliveries.
module _ (P : ℕ → ℕ → Body → Type 0) where
  abbrev Says : Packet → Type 0
  Says p = P p.server p.client p.body

  one_still : (k : ℕ) (ps : List Packet) → All Says ps → All Says (delivered_at k ps)
  one_still k [] all = all
  one_still zero (p ∷ ps) all = All-cons Says (record p { delivered = true }) ps (All-head Says p ps all) (All-tail Says p ps all)
  one_still (suc k) (p ∷ ps) all = All-cons Says p (delivered_at k ps) (All-head Says p ps all) (one_still k ps (All-tail Says p ps all))

  still : (ks : List ℕ) (ps : List Packet) → OfPackets P ps → OfPackets P (delivered ks ps)
  still [] ps all = all
  still (k ∷ ks) ps all = still ks (delivered_at k ps) (one_still k ps all)

  -- of all packets, once more are sent
  pub of_more : {X : Type 0} (f : X → Packet) (ks : List ℕ) (ps new : List Packet) (sent : List X) → new ≡ delivered ks ps ++ map f sent
      → OfPackets P ps → All (λ x. Says (f x)) sent → OfPackets P new
  of_more f ks ps new sent is old more =
      subst (All Says) (sym is) (All-append Says (delivered ks ps) (map f sent) (still ks ps old) (All-map Says f sent more))

  pub of_one : (ps : List Packet) (k : ℕ) (p : Packet) → OfPackets P ps → slice_get ps k ≡ Some p → P p.server p.client p.body
  of_one ps k p all there = All-contains Says ps p all (placed ps k p there)

-- A packet is there still, delivered or not.
pub record IsStillThere (ps : List Packet) (p : Packet) : Type 0 where
  pub is_delivered : Bool
  pub there : Contains ps (record p { delivered = is_delivered })

one_there : (k i : ℕ) (ps : List Packet) (p : Packet) → slice_get ps i ≡ Some p
    → (b : Bool) × (slice_get (delivered_at k ps) i ≡ Some (record p { delivered = b }))
one_there k i [] p there = absurd (none-some p there)
one_there zero zero (q ∷ ps) p there = (true, ap (λ (x : Packet). Some (record x { delivered = true })) (same_Some q p there))
one_there (suc k) zero (q ∷ ps) p there = (p.delivered, there)
one_there zero (suc i) (q ∷ ps) p there = (p.delivered, there)
one_there (suc k) (suc i) (q ∷ ps) p there = one_there k i ps p there

all_there : (ks : List ℕ) (i : ℕ) (ps : List Packet) (p : Packet) → slice_get ps i ≡ Some p
    → (b : Bool) × (slice_get (delivered ks ps) i ≡ Some (record p { delivered = b }))
all_there [] i ps p there = (p.delivered, there)
all_there (k ∷ ks) i ps p there =
    let one = one_there k i ps p there in
    all_there ks i (delivered_at k ps) (record p { delivered = one.0 }) one.1

pub still_there : (ks : List ℕ) (ps : List Packet) (p : Packet) → Contains ps p → IsStillThere (delivered ks ps) p
still_there ks ps p there =
    let at = place ps p there in
    let later = all_there ks at.0 ps p at.1 in
    record { is_delivered = later.0; there = placed (delivered ks ps) at.0 (record p { delivered = later.0 }) later.1 }

-- If one packet is delivered, each is as it was, or is that one.
same_but_one : (k i : ℕ) (ps : List Packet) (p : Packet) → slice_get ps i ≡ Some p → (slice_get (delivered_at k ps) i ≡ Some p) ⊎ (slice_get ps k ≡ Some p)
same_but_one k i [] p there = absurd (none-some p there)
same_but_one zero zero (q ∷ ps) p there = inr there
same_but_one (suc k) zero (q ∷ ps) p there = inl there
same_but_one zero (suc i) (q ∷ ps) p there = inl there
same_but_one (suc k) (suc i) (q ∷ ps) p there = same_but_one k i ps p there

pub same_or_delivered : (k : ℕ) (ps : List Packet) (p : Packet) → Contains ps p → Contains (delivered_at k ps) p ⊎ (slice_get ps k ≡ Some p)
same_or_delivered k ps p there =
    let at = place ps p there in
    elim (same_but_one k at.0 ps p at.1) [ inl same ↦ inl (placed (delivered_at k ps) at.0 p same) | inr it ↦ inr it ]

-- Messages that are delivered leave each other and each packet that is no message as it was.
message_still : (ps : List Packet) (s j k : ℕ) (m : ℕ × Message) → IsMessageAt ps s k m → IsMessageAt (delivered_at j ps) s k m
message_still ps s j k m is =
    let later = one_there j k ps is.packet is.there in
    record { packet = record is.packet { delivered = later.0 }; there = later.1; server = is.server; client = is.client; body = is.body }

messages_still : (ps : List Packet) (s j : ℕ) (ks : List ℕ) (ms : List (ℕ × Message)) → AreMessagesAt ps s ks ms → AreMessagesAt (delivered_at j ps) s ks ms
messages_still ps s j [] ms are = are
messages_still ps s j (k ∷ ks) [] are = absurd are
messages_still ps s j (k ∷ ks) (m ∷ ms) are = (message_still ps s j k m are.0, messages_still ps s j ks ms are.1)

pub unmoved : (ps : List Packet) (s : ℕ) (ks : List ℕ) (ms : List (ℕ × Message)) → AreMessagesAt ps s ks ms
    → (p : Packet) → ((m : Message) → p.body ≡ bodies.Message m → ⊥) → Contains ps p → Contains (delivered ks ps) p
unmoved ps s [] ms are p apart there = there
unmoved ps s (k ∷ ks) [] are p apart there = absurd are
unmoved ps s (k ∷ ks) (m ∷ ms) are p apart there =
    unmoved (delivered_at k ps) s ks ms (messages_still ps s k ks ms are.1) p apart (by (same_or_delivered k ps p there))
  where
    by : Contains (delivered_at k ps) p ⊎ (slice_get ps k ≡ Some p) → Contains (delivered_at k ps) p
    by (inl same) = same
    by (inr it) = absurd (apart m.1 (ap (λ (x : Packet). x.body) (same_Some p are.0.packet (sym it ∙ are.0.there)) ∙ are.0.body))
