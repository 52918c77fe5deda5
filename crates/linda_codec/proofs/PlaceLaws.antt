-- Reading at an offset, from the laws of the format.
use Rattle.std.proofs.Common.{◌≡◌, ◌≢◌, ℕ, ◌-◌, ◌+◌, ◌≤◌, List, ◌++◌, length, take, drop, Ok, Err, sym, ap, ◌∙◌, append_assoc, arith}
use Rattle.std.proofs.lemmas.List.{drop_at, take-append-drop, length-append}
use Rattle.linda_codec.specs.declared.fault.ReadFault.{ReadFault}
use Rattle.linda_codec.specs.declared.fault.ReadFault.TheVariants.{Memory}
use Rattle.linda_codec.specs.Formats.{Format}
use Rattle.linda_codec.specs.Places.{placed}
use Rattle.linda_codec.specs.Lawful.{IsBytes, IsFormat}
use Rattle.linda_codec.proofs.TakeLaws.{IsBytes-drop, ok_is}

-- The end of bytes begins at the count of what is before it.
end_of : (front rest bytes : List ℕ) → bytes ≡ front ++ rest → (length rest ≤ length bytes) × (rest ≡ drop (length bytes - length rest) bytes)
end_of front rest bytes e =
    let sum : length bytes ≡ length front + length rest = ap length e ∙ length-append front rest in
    let count : length front ≡ length bytes - length rest = omega arith in
    (omega arith, sym (ap (drop (length bytes - length rest)) e ∙ drop_at front rest (length bytes - length rest) count))

-- What is read from the offset on is spelled so, fits, and ends within the bytes.
pub is_found : {A : Type 0} {f : Format A} → IsFormat f → (bytes tail : List ℕ) (at : ℕ) (x : A × List ℕ)
    → IsBytes bytes → tail ≡ drop at bytes → f.read tail ≡ Ok x
    → f.Fits x.0 × (length x.1 ≤ length bytes) × (drop at bytes ≡ f.spell x.0 ++ drop (length bytes - length x.1) bytes)
is_found {f = f} is bytes tail at x fits is_tail e =
    let t = is.takes (drop at bytes) x (IsBytes-drop at bytes fits) (ap f.read (sym is_tail) ∙ e) in
    let whole : bytes ≡ (take at bytes ++ f.spell x.0) ++ x.1 = sym (take-append-drop at bytes)
    ∙ ap (λ (w : List ℕ). take at bytes ++ w) t.0.parts ∙ sym (append_assoc (take at bytes) (f.spell x.0) x.1) in
    let end = end_of (take at bytes ++ f.spell x.0) x.1 bytes whole in
    (t.1, end.0, t.0.parts ∙ ap (λ (w : List ℕ). f.spell x.0 ++ w) end.1)

-- What is spelled so from the offset on is what was read there.
pub is_only : {A : Type 0} {f : Format A} → IsFormat f → (bytes tail : List ℕ) (at : ℕ) (x : A × List ℕ) → tail ≡ drop at bytes → f.read tail ≡ Ok x
    → (a : A) (rest : List ℕ) → f.Fits a → drop at bytes ≡ f.spell a ++ rest → (a ≡ x.0) × (rest ≡ x.1)
is_only {A = A} {f = f} is bytes tail at x is_tail e a rest fits spelled =
    let found : f.read tail ≡ Ok (a, rest) = ap f.read (is_tail ∙ spelled) ∙ is.again a rest fits in
    let pair : A × List ℕ = (a, rest) in
    let same : pair ≡ x = ok_is pair x (sym found ∙ e) in
    (ap (λ (y : A × List ℕ). y.0) same, ap (λ (y : A × List ℕ). y.1) same)

-- If a value is spelled from the offset on, the only fault is `Memory`.
pub no_fault : {A : Type 0} {f : Format A} → IsFormat f → (bytes tail : List ℕ) (at n : ℕ) (fault told : ReadFault)
    → tail ≡ drop at bytes → (fault ≢ Memory → f.read tail ≡ Err fault) → told ≡ placed n fault
    → (a : A) (rest : List ℕ) → f.Fits a → drop at bytes ≡ f.spell a ++ rest → told ≢ Memory → ⊥
no_fault {f = f} is bytes tail at n fault told is_tail fails is_told a rest fits spelled not_memory =
    let found : f.read tail ≡ Ok (a, rest) = ap f.read (is_tail ∙ spelled) ∙ is.again a rest fits in
    let failed : f.read tail ≡ Err fault = fails (λ m. not_memory (is_told ∙ ap (placed n) m)) in
    absurd cc
