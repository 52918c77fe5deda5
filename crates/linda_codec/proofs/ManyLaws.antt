-- The two laws of many values, one after the other, from those of one value.
use Rattle.std.proofs.Common.{◌≡◌, ℕ, zero, suc, List, [], ◌∷◌, ◌++◌, length, All, Ok, refl, ap, subst, ◌∙◌, append_assoc}
use Rattle.std.specs.List.{flat_map, AllByRecursion}
use Rattle.std.proofs.lemmas.List.Elements.{All-from_recursion, recursion_from_All}
use Rattle.std.proofs.lemmas.List.Concat.{flat_map-cons}
use Rattle.linda_codec.specs.Steps.{Reader, ◌>>=◌, many_at}
use Rattle.linda_codec.specs.Lawful.{IsBytes, Takes}
use Rattle.linda_codec.proofs.TakeLaws.{bind_ok, ok_is, Takes-then, Takes-none}

-- What the reader takes is spelled so, and fits.
abbrev pub IsTaken : {A : Type 0} → Reader A → (A → List ℕ) → (A → Type 0) → Type 0
IsTaken {A = A} read spell Fits = (bytes : List ℕ) (x : A × List ℕ) → IsBytes bytes → read bytes ≡ Ok x → Takes bytes (spell x.0) x.1 × Fits x.0

-- What is spelled so, and fits, is read again.
abbrev pub IsAgain : {A : Type 0} → Reader A → (A → List ℕ) → (A → Type 0) → Type 0
IsAgain {A = A} read spell Fits = (a : A) (rest : List ℕ) → Fits a → read (spell a ++ rest) ≡ Ok (a, rest)

take_all : {A : Type 0} (read : Reader A) (spell : A → List ℕ) (Fits : A → Type 0) → IsTaken read spell Fits
    → (n : ℕ) (bytes : List ℕ) (x : List A × List ℕ) → IsBytes bytes → many_at read n bytes ≡ Ok x
    → Takes bytes (flat_map spell x.0) x.1 × (length x.0 ≡ n) × AllByRecursion Fits x.0
unfolding many_at
take_all {A = A} read spell Fits takes zero bytes x fits e =
    subst (λ (y : List A × List ℕ). Takes bytes (flat_map spell y.0) y.1 × (length y.0 ≡ 0) × AllByRecursion Fits y.0)
    (ok_is ([], bytes) x e) (Takes-none bytes fits, refl, tt)
take_all {A = A} read spell Fits takes (suc n) bytes x fits e =
    let a = bind_ok (read bytes) (λ first. many_at read n first.1 >>= λ others. Ok (first.0 ∷ others.0, others.1)) x e in
    let b = bind_ok (many_at read n a.0.1) (λ others. Ok (a.0.0 ∷ others.0, others.1)) x a.2 in
    let first = takes bytes a.0 fits a.1 in
    let others = take_all read spell Fits takes n a.0.1 b.0 first.0.rest_fits b.1 in
    let both = Takes-then bytes (spell a.0.0) a.0.1 (flat_map spell b.0.0) b.0.1 first.0 others.0 in
    let made : List A × List ℕ = (a.0.0 ∷ b.0.0, b.0.1) in
    subst (λ (y : List A × List ℕ). Takes bytes (flat_map spell y.0) y.1 × (length y.0 ≡ suc n) × AllByRecursion Fits y.0)
    (ok_is made x b.2) (rw flat_map-cons both, ap suc others.1, (first.1, others.2))

pub many_takes : {A : Type 0} (read : Reader A) (spell : A → List ℕ) (Fits : A → Type 0) → IsTaken read spell Fits
    → (n : ℕ) (bytes : List ℕ) (x : List A × List ℕ) → IsBytes bytes → many_at read n bytes ≡ Ok x
    → Takes bytes (flat_map spell x.0) x.1 × (length x.0 ≡ n) × All Fits x.0
many_takes read spell Fits takes n bytes x fits e =
    let t = take_all read spell Fits takes n bytes x fits e in
    (t.0, t.1, All-from_recursion Fits x.0 t.2)

all_again : {A : Type 0} (read : Reader A) (spell : A → List ℕ) (Fits : A → Type 0) → IsAgain read spell Fits
    → (items : List A) (rest : List ℕ) → AllByRecursion Fits items
    → many_at read (length items) (flat_map spell items ++ rest) ≡ Ok (items, rest)
unfolding many_at
all_again read spell Fits again [] rest fits = refl
all_again read spell Fits again (a ∷ items) rest fits =
    let regrouped : flat_map spell (a ∷ items) ++ rest ≡ spell a ++ (flat_map spell items ++ rest) =
    ap (λ (x : List ℕ). x ++ rest) (flat_map-cons spell a items) ∙ append_assoc (spell a) (flat_map spell items) rest in
    ap (many_at read (suc (length items))) regrouped
    ∙ rw (again a (flat_map spell items ++ rest) fits.0, all_again read spell Fits again items rest fits.1) refl

pub many_again : {A : Type 0} (read : Reader A) (spell : A → List ℕ) (Fits : A → Type 0)
    → IsAgain read spell Fits → (items : List A) (rest : List ℕ) → All Fits items
    → many_at read (length items) (flat_map spell items ++ rest) ≡ Ok (items, rest)
many_again read spell Fits again items rest fits = all_again read spell Fits again items rest (recursion_from_All Fits items fits)
