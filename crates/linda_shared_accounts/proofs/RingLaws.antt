-- What a ring is when a receipt comes to it.
use Rattle.std.proofs.Common.{◌≡◌, ℕ, ◌+◌, ◌-◌, ◌≤◌, ◌<◌, nat_lt, true, false, List, [], ◌∷◌, ◌++◌, length}
use Rattle.std.proofs.Common.{length-append, drop, Some, refl, sym, ap, subst, ◌∙◌, arith, ltb-true, ltb-false}
use Rattle.std.specs.List.{slice_get, slice_index_or}
use Rattle.std.proofs.lemmas.List.{length-drop, get_or_append_left, get_or-drop, get_or-append_right}
use Rattle.std.proofs.lemmas.List.Elements.{All-push, All-drop}
use Rattle.std.proofs.lemmas.List.Sorted.{IsNonDecreasingBy-from_all_adjacent}
use Rattle.std.proofs.lemmas.Option.{slice_get-get_or, get_or_from_slice_get}
use Rattle.std.specs.List.Sorted.{IsNonDecreasingBy}
use Rattle.linda_shared_accounts.specs.declared.receipt.Receipt.{Receipt}
use Rattle.linda_shared_accounts.specs.declared.limits.TheConstants.{RING_SIZE}
use Rattle.linda_shared_accounts.specs.Agreement.{AgreesWith}
use Rattle.linda_shared_accounts.specs.Receipts.{client_in, number_in}
use Rattle.linda_shared_accounts.specs.Ring.{AreRising, IsRing, IsNext, number_at, last_number, with_receipt}

-- One more with a number above the last.
rising_more : (rs : List Receipt) (r : Receipt) → AreRising rs → last_number rs < number_in r → AreRising (rs ++ r ∷ [])
rising_more rs r up above k d below =
    elim (nat_lt (k + 1) (length rs)) as (λ b. nat_lt (k + 1) (length rs) ≡ b
    → number_in (slice_index_or (rs ++ r ∷ []) k d) < number_in (slice_index_or (rs ++ r ∷ []) (k + 1) d)) [
      | true ↦ λ e.
          let inside : k + 1 < length rs = ltb-true (k + 1) (length rs) e in
          let here : k < length rs = omega (arith, inside) in
          subst (λ q. number_in q < number_in (slice_index_or (rs ++ r ∷ []) (k + 1) d)) (sym (get_or_append_left rs (r ∷ []) d k here))
          (subst (λ q. number_in (slice_index_or rs k d) < number_in q) (sym (get_or_append_left rs (r ∷ []) d (k + 1) inside)) (up k d inside))
      | false ↦ λ e.
          let outside : length rs ≤ k + 1 = ltb-false (k + 1) (length rs) e in
          let long : length (rs ++ r ∷ []) ≡ length rs + 1 = length-append rs (r ∷ []) in
          let last : length rs ≡ k + 1 = omega (arith, outside, long, below) in
          let here : k < length rs = omega (arith, last) in
          let place : length rs - 1 ≡ k = omega (arith, last) in
          let found : slice_get rs (length rs - 1) ≡ Some (slice_index_or rs k d) = ap (slice_get rs) place ∙ slice_get-get_or rs k d here in
          let number : last_number rs ≡ number_in (slice_index_or rs k d) = ap number_at found in
          let none : k + 1 - (k + 1) ≡ 0 = omega arith in
          let next : slice_index_or (rs ++ r ∷ []) (k + 1) d ≡ r =
          get_or-append_right rs (r ∷ []) (k + 1) (k + 1) d last (omega arith) ∙ ap (λ n. slice_index_or (r ∷ []) n d) none in
          subst (λ q. number_in q < number_in (slice_index_or (rs ++ r ∷ []) (k + 1) d)) (sym (get_or_append_left rs (r ∷ []) d k here))
          (subst (λ q. number_in (slice_index_or rs k d) < number_in q) (sym next) (subst (λ n. n < number_in r) number above))
    ] refl

-- Without the first ones.
pub rising_less : (n : ℕ) (rs : List Receipt) → AreRising rs → AreRising (drop n rs)
rising_less n rs up k d below =
    let long : length (drop n rs) ≡ length rs - n = length-drop n rs in
    let there : n + k + 1 < length rs = omega (arith, long, below) in
    let same : n + (k + 1) ≡ n + k + 1 = omega arith in
    subst (λ q. number_in q < number_in (slice_index_or (drop n rs) (k + 1) d)) (sym (get_or-drop n rs k d))
    (subst (λ q. number_in (slice_index_or rs (n + k) d) < number_in q)
    (sym (get_or-drop n rs (k + 1) d ∙ ap (λ i. slice_index_or rs i d) same)) (up (n + k) d there))

-- The ring with the next receipt.
pub ring_more : (client : ℕ) (rs : List Receipt) (r : Receipt) → IsRing client rs → IsNext client rs r → IsRing client (with_receipt rs r)
ring_more client rs r ring next =
    let n : ℕ = length (rs ++ r ∷ []) - RING_SIZE in
    let long = length-drop n (rs ++ r ∷ []) in
    record {
      few = omega (arith, long);
      all_its = All-drop (λ (q : Receipt). client_in q ≡ client) n (rs ++ r ∷ []) (All-push (λ (q : Receipt). client_in q ≡ client) rs r ring.all_its next.its);
      rising = rising_less n (rs ++ r ∷ []) (rising_more rs r ring.rising next.above);
    }

-- If a number is below that of the first receipt, no receipt has it.
pub all_newer : (rs : List Receipt) (first r : Receipt) → AreRising rs → slice_get rs 0 ≡ Some first → number_in r < number_in first → AgreesWith rs r
all_newer rs first r up is below k d inside same =
    let by : IsNonDecreasingBy number_in rs =
    IsNonDecreasingBy-from_all_adjacent number_in rs (λ i e there. let next = up i e there in omega (arith, next)) in
    let least : number_in (slice_index_or rs 0 d) ≤ number_in (slice_index_or rs k d) = by 0 k d (omega arith) inside in
    let start : number_in (slice_index_or rs 0 d) ≡ number_in first = ap number_in (get_or_from_slice_get rs 0 first d is) in
    absurd (omega (arith, least, start, below, same))
