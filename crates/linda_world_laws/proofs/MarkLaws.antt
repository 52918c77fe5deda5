-- Packets that count as delivered, one after another.
use Rattle.std.proofs.Common.{◌≡◌, ℕ, zero, suc, ◌+◌, ◌<◌, true, List, [], ◌∷◌, ◌++◌, length, get_or, drop, All, set, refl, sym, ap, ◌∙◌, subst, arith, add-one}
use Rattle.std.proofs.lemmas.List.Elements.{All-head, All-tail}
use Rattle.std.proofs.Math.Seq.{drop-cons}
use Rattle.linda_world_laws.specs.declared.packet.Packet.{Packet}
use Rattle.linda_world_laws.specs.World.{delivered_at, delivered}

pub set_delivered : (ps : List Packet) (k : ℕ) (d : Packet) → k < length ps → set ps k (record (get_or ps k d) { delivered = true }) ≡ delivered_at k ps
set_delivered [] k d low = absurd (omega (arith, low))
set_delivered (p ∷ ps) zero d low = refl
set_delivered (p ∷ ps) (suc k) d low = ap (λ l. p ∷ l) (set_delivered ps k d (omega (arith, low)))

pub length_delivered : (k : ℕ) (ps : List Packet) → length (delivered_at k ps) ≡ length ps
length_delivered k [] = refl
length_delivered zero (p ∷ ps) = refl
length_delivered (suc k) (p ∷ ps) = ap suc (length_delivered k ps)

-- What is sent after them does not count as delivered with them.
pub delivered_front : (k : ℕ) (ps more : List Packet) → k < length ps → delivered_at k (ps ++ more) ≡ delivered_at k ps ++ more
delivered_front k [] more low = absurd (omega (arith, low))
delivered_front zero (p ∷ ps) more low = refl
delivered_front (suc k) (p ∷ ps) more low = ap (λ l. p ∷ l) (delivered_front k ps more (omega (arith, low)))

-- So it is with several.
pub all_delivered_front : (ks : List ℕ) (ps more : List Packet) → All (λ k. k < length ps) ks → delivered ks (ps ++ more) ≡ delivered ks ps ++ more
all_delivered_front [] ps more low = refl
all_delivered_front (k ∷ ks) ps more low =
    let here = All-head (λ k. k < length ps) k ks low in
    let same : length (delivered_at k ps) ≡ length ps = length_delivered k ps in
    ap (delivered ks) (delivered_front k ps more here)
    ∙ all_delivered_front ks (delivered_at k ps) more (subst (λ n. All (λ j. j < n) ks) (sym same) (All-tail (λ k. k < length ps) k ks low))

-- One more counts as delivered.
pub next_mark : (ks : List ℕ) (i : ℕ) (ps now all : List Packet) → delivered (drop i ks) ps ≡ all
    → now ≡ delivered_at (get_or ks i 0) ps → i < length ks → delivered (drop (i + 1) ks) now ≡ all
next_mark ks i ps now all before is low =
    ap (λ n. delivered (drop n ks) now) (add-one i) ∙ ap (delivered (drop (suc i) ks)) is
    ∙ sym (ap (λ l. delivered l ps) (drop-cons ks i 0 low)) ∙ before
