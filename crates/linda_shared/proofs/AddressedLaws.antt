-- One message more has its address.
use Rattle.std.proofs.Common.{◌≡◌, ℕ, suc, ◌+◌, ◌<◌, List, [], ◌∷◌, ◌++◌, All, map, take, length, slice_index_or, sym, ap, ◌∙◌, subst, arith}
use Rattle.std.proofs.lemmas.List.{map-append}
use Rattle.std.proofs.lemmas.List.Elements.{All-nil, All-cons, All-append}
use Rattle.std.proofs.Math.Seq.{take-suc}
use Rattle.linda_shared.specs.Addressed.{up_to}

one_more : (i : ℕ) → i + 1 ≡ suc i
one_more i = omega arith

pub message_added : {A M : Type 0} (message : A → M) (ms : List M) (i : ℕ) (m : M) (old new : List A) (x : A)
    → i < length ms → m ≡ slice_index_or ms i m → message x ≡ m
    → new ≡ old ++ x ∷ [] → map message old ≡ take i ms → map message new ≡ take (i + 1) ms
message_added message ms i m old new x below at its added before =
    ap (λ l. map message l) added
    ∙ map-append message old (x ∷ [])
    ∙ ap (λ l. l ++ message x ∷ []) before
    ∙ ap (λ y. take i ms ++ y ∷ []) (its ∙ at)
    ∙ sym (ap (λ k. take k ms) (one_more i) ∙ take-suc ms i m below)

pub place_added : {A : Type 0} (place : A → ℕ) (i : ℕ) (old new : List A) (x : A) → place x ≡ i
    → new ≡ old ++ x ∷ [] → map place old ≡ up_to i → map place new ≡ up_to (i + 1)
place_added place i old new x its added before =
    ap (λ l. map place l) added
    ∙ map-append place old (x ∷ [])
    ∙ ap (λ l. l ++ place x ∷ []) before
    ∙ ap (λ p. up_to i ++ p ∷ []) its
    ∙ sym (ap up_to (one_more i))

pub all_added : {A : Type 0} (P : A → Type 0) (old new : List A) (x : A) → P x → new ≡ old ++ x ∷ [] → All P old → All P new
all_added P old new x its added before = subst (All P) (sym added) (All-append P old (x ∷ []) before (All-cons P x [] its (All-nil P)))
