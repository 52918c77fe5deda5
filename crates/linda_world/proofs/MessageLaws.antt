-- Messages among packets.
use Rattle.std.proofs.Common.{◌≡◌, ℕ, zero, suc, ◌+◌, ◌<◌, Bool, true, false, ◌==◌, ◌&&◌, List, [], ◌∷◌, ◌++◌, length}
use Rattle.std.proofs.Common.{take, get_or, Some, All, slice_get, refl, sym, ap, ◌∙◌, subst, arith, eqb-true, add-one}
use Rattle.std.specs.List.{list_all}
use Rattle.std.proofs.lemmas.Option.{slice_get_within, slice_get_read}
use Rattle.std.proofs.lemmas.List.Elements.{All-nil, All-cons}
use Rattle.std.proofs.Math.Seq.{take-suc}
use Rattle.linda_wire.specs.declared.message.Message.{Message}
use Rattle.linda_world_laws.specs.declared.packet.Body.TheVariants as bodies
use Rattle.linda_world_laws.specs.declared.packet.Packet.{Packet}
use Rattle.linda_world_laws.specs.Steps.{IsMessageAt, AreMessagesAt}
use Rattle.linda_world.specs.Refusal.{is_message_at, is_message_to, is_message_body}

-- One message more.
pub one_message : (ps : List Packet) (s : ℕ) (ks : List ℕ) (ms : List (ℕ × Message)) (k : ℕ) (m : ℕ × Message)
    → AreMessagesAt ps s ks ms → IsMessageAt ps s k m → AreMessagesAt ps s (ks ++ k ∷ []) (ms ++ m ∷ [])
one_message ps s [] ms k m are is = subst (λ l. AreMessagesAt ps s (k ∷ []) (l ++ m ∷ [])) (sym are) (is, refl)
one_message ps s (j ∷ ks) [] k m are is = absurd are
one_message ps s (j ∷ ks) (n ∷ ms) k m are is = (are.0, one_message ps s ks ms k m are.1 is)

-- as many messages as packets
pub as_many : (ps : List Packet) (s : ℕ) (ks : List ℕ) (ms : List (ℕ × Message)) → AreMessagesAt ps s ks ms → length ms ≡ length ks
as_many ps s [] ms are = ap length are
as_many ps s (k ∷ ks) [] are = absurd are
as_many ps s (k ∷ ks) (m ∷ ms) are = ap suc (as_many ps s ks ms are.1)

and_first : (a b : Bool) → (a && b) ≡ true → a ≡ true
and_first true b e = refl
and_first false b e = e

and_second : (a b : Bool) → (a && b) ≡ true → b ≡ true
and_second true b e = e
and_second false b e = absurd (cc)

pub each_passes : {X : Type 0} (p : X → Bool) (xs : List X) (i : ℕ) (d : X) → list_all p xs ≡ true → i < length xs → p (get_or xs i d) ≡ true
each_passes p [] i d all low = absurd (omega (arith, low))
each_passes p (x ∷ xs) zero d all low = and_first (p x) (list_all p xs) all
each_passes p (x ∷ xs) (suc i) d all low = each_passes p xs i d (and_second (p x) (list_all p xs) all) (omega (arith, low))

-- A packet of this kind is a message to the server.
pub message_there : (ps : List Packet) (s k : ℕ) (p : Packet) (m : Message) → slice_get ps k ≡ Some p
    → is_message_at ps s k ≡ true → p.body ≡ bodies.Message m → IsMessageAt ps s k (p.client, m)
message_there ps s k p m there is body = record {
  packet = p;
  there = there;
  server = eqb-true p.server s (and_first (p.server == s) (is_message_body p.body) (ap (λ o. is_message_to o s) (sym there) ∙ is));
  client = refl;
  body = body;
}

-- Packets that are messages are there.
pub messages_within : (ps : List Packet) (s : ℕ) (ks : List ℕ) (ms : List (ℕ × Message)) → AreMessagesAt ps s ks ms → All (λ k. k < length ps) ks
messages_within ps s [] ms are = All-nil (λ k. k < length ps)
messages_within ps s (k ∷ ks) [] are = absurd are
messages_within ps s (k ∷ ks) (m ∷ ms) are =
    All-cons (λ k. k < length ps) k ks (slice_get_within ps k are.0.packet are.0.there) (messages_within ps s ks ms are.1)

-- The next one is a message, as all are.
pub next_message : (ps : List Packet) (s : ℕ) (ks : List ℕ) (i : ℕ) (ms : List (ℕ × Message)) (p : Packet) (m : Message)
    → AreMessagesAt ps s (take i ks) ms → i < length ks
    → list_all (is_message_at ps s) ks ≡ true → get_or ks i 0 < length ps → p ≡ get_or ps (get_or ks i 0) p
    → p.body ≡ bodies.Message m → AreMessagesAt ps s (take (i + 1) ks) (ms ++ (p.client, m) ∷ [])
next_message ps s ks i ms p m are low all within there body =
    let front : take (i + 1) ks ≡ take i ks ++ get_or ks i 0 ∷ [] = ap (λ n. take n ks) (add-one i) ∙ take-suc ks i 0 low in
    subst (λ l. AreMessagesAt ps s l (ms ++ (p.client, m) ∷ [])) (sym front)
    (one_message ps s (take i ks) ms (get_or ks i 0) (p.client, m) are
    (message_there ps s (get_or ks i 0) p m (slice_get_read ps (length ps) (get_or ks i 0) p refl within there)
    (each_passes (is_message_at ps s) ks i 0 all low) body))
