-- Rings that are cut.
use Rattle.std.proofs.Common.{◌≡◌, ℕ, ◌+◌, ◌-◌, ◌≤◌, ◌<◌, inl, inr, List, [], ◌∷◌, length, drop, sym, ap, subst, ◌∙◌, arith}
use Rattle.std.specs.List.{slice_get}
use Rattle.std.proofs.Math.Seq.{drop-nil}
use Rattle.std.proofs.lemmas.List.{length-drop, drop-drop}
use Rattle.std.proofs.lemmas.List.Elements.{All-drop}
use Rattle.std.proofs.lemmas.Map.Made.{Contains-tail}
use Rattle.circular_buffer.specs.Buffer.{keep_last, last_item}
use Rattle.circular_buffer.proofs.Places.{below_or_not, slice_get-drop}
use Rattle.linda_shared_accounts.specs.declared.receipt.Receipt.{Receipt}
use Rattle.linda_shared_accounts.specs.Receipts.{client_in, number_in}
use Rattle.linda_shared_accounts.specs.Ring.{IsRing, IsCut, KeepsAbove, number_at}
use Rattle.linda_shared_accounts.proofs.RingLaws.{rising_less}

-- What is kept of a ring is one.
pub kept_ring : (client n : ℕ) (rs : List Receipt) → IsRing client rs → IsRing client (keep_last n rs)
kept_ring client n rs ring =
    let k : ℕ = length rs - n in
    let long = length-drop k rs in
    let few = ring.few in
    record {
      few = omega (arith, long, few);
      all_its = All-drop (λ (q : Receipt). client_in q ≡ client) k rs ring.all_its;
      rising = rising_less k rs ring.rising;
    }

pub cut_ring : (client : ℕ) (old new : List Receipt) → IsRing client old → IsCut old new → IsRing client new
cut_ring client old new ring cut = subst (IsRing client) (sym cut.is) (kept_ring client cut.many old ring)

-- The last one stays.
kept_last : (n : ℕ) (rs : List Receipt) → 1 ≤ n → last_item (keep_last n rs) ≡ last_item rs
kept_last n [] some = ap (λ (l : List Receipt). last_item l) (drop-nil (length {A = Receipt} [] - n))
kept_last n (r ∷ rs) some =
    let xs : List Receipt = r ∷ rs in
    let k : ℕ = length xs - n in
    let long = length-drop k xs in
    let there : length xs - 1 ≡ k + (length (drop k xs) - 1) = omega (arith, long, some) in
    slice_get-drop k xs (length (drop k xs) - 1) (length xs - 1) there

pub cut_last : (old new : List Receipt) → IsCut old new → last_item new ≡ last_item old
cut_last old new cut = ap (λ (l : List Receipt). last_item l) cut.is ∙ kept_last cut.many old cut.some

-- So many of so many.
kept_kept : (n m : ℕ) (rs : List Receipt) → n ≤ m → keep_last n (keep_last m rs) ≡ keep_last n rs
kept_kept n m rs less =
    let k : ℕ = length rs - m in
    let long = length-drop k rs in
    let both : k + (length (drop k rs) - n) ≡ length rs - n = omega (arith, long, less) in
    drop-drop (length (drop k rs) - n) k rs ∙ ap (λ i. drop i rs) both

pub kept_all : (n m : ℕ) (rs : List Receipt) → m ≤ n → keep_last n (keep_last m rs) ≡ keep_last m rs
kept_all n m rs more =
    let k : ℕ = length rs - m in
    let long = length-drop k rs in
    let none : length (drop k rs) - n ≡ 0 = omega (arith, long, more) in
    ap (λ i. drop i (drop k rs)) none

-- What is cut twice is cut.
pub cut_again : (xs ys zs : List Receipt) → IsCut xs ys → IsCut ys zs → IsCut xs zs
cut_again xs ys zs one two =
    let cut : zs ≡ keep_last two.many (keep_last one.many xs) = two.is ∙ ap (λ (l : List Receipt). keep_last two.many l) one.is in
    elim (below_or_not two.many one.many) [
      | inl less ↦ record { many = two.many; some = two.some; is = cut ∙ kept_kept two.many one.many xs (omega (arith, less)) }
      | inr more ↦ record { many = one.many; some = one.some; is = cut ∙ kept_all two.many one.many xs more }
    ]

-- What is not cut.
pub cut_none : (rs : List Receipt) → IsCut rs rs
cut_none rs =
    let none : length rs - (length rs + 1) ≡ 0 = omega arith in
    record { many = length rs + 1; some = omega arith; is = sym (ap (λ i. drop i rs) none) }

-- Without the first of several.
cut_first : (r : Receipt) (rs : List Receipt) → 1 ≤ length rs → IsCut (r ∷ rs) rs
cut_first r rs several =
    let one : length (r ∷ rs) - length rs ≡ 1 = omega arith in
    record { many = length rs; some = several; is = sym (ap (λ i. drop i (r ∷ rs)) one) }

-- The first of several goes, whose number is not above the floor.
pub one_less : (floor rest : ℕ) (old rs new : List Receipt) → IsCut old rs → KeepsAbove floor old rs
    → 1 < length rs → number_at (slice_get rs 0) ≤ floor → rest ≡ length rs - 1 → new ≡ keep_last rest rs
    → IsCut old new × KeepsAbove floor old new
one_less floor rest old [] new cut kept several below is left = absurd (omega (arith, several))
one_less floor rest old (r ∷ rs) new cut kept several below is left =
    let one : length (r ∷ rs) - rest ≡ 1 = omega (arith, is, several) in
    let all : new ≡ rs = left ∙ ap (λ i. drop i (r ∷ rs)) one in (
      subst (IsCut old) (sym all) (cut_again old (r ∷ rs) rs cut (cut_first r rs (omega (arith, several)))),
      subst (KeepsAbove floor old) (sym all)
          (λ q there above. Contains-tail r rs q (λ same. let number : number_in r ≡ number_in q =
          ap number_in same in absurd (omega (arith, number, below, above))) (kept q there above)),
    )
