-- Reading all of a text, or from an offset on, from the laws of the reader.
use Rattle.std.proofs.Common.{◌≡◌, ◌≢◌, ℕ, ◌-◌, ◌+◌, ◌≤◌, List, [], ◌∷◌, ◌++◌, length, take, drop, Result, Ok, Err}
use Rattle.std.proofs.Common.{refl, sym, ap, subst, ◌∙◌, append_assoc, arith}
use Rattle.std.specs.Prelude.{IsOk}
use Rattle.std.proofs.lemmas.List.{drop_at, take-append-drop, length-append, append-nil}
use Rattle.linda_text.specs.declared.fault.TextFault.{TextFault}
use Rattle.linda_text.specs.declared.fault.TextFault.TheVariants.{Memory}
use Rattle.linda_text.specs.Grammar.{AreBlanks, Stands, IsAlone}
use Rattle.linda_text.specs.Steps.{Reader}
use Rattle.linda_text.specs.Reading.{after_blanks, ended, only_of}
use Rattle.linda_text.specs.Places.{placed, told}
use Rattle.linda_codec.proofs.TakeLaws.{bind_ok, ok_is}
use Rattle.linda_text.proofs.BlankLaws.{blanks_take, blanks_again}
use Rattle.linda_text.proofs.RowLaws.{IsSpaced, Anything}

-- The end of some bytes begins at the count of the bytes before it.
end_of : (front rest bytes : List ℕ) → bytes ≡ front ++ rest → (length rest ≤ length bytes) × (rest ≡ drop (length bytes - length rest) bytes)
end_of front rest bytes e =
    let sum : length bytes ≡ length front + length rest = ap length e ∙ length-append front rest in
    let count : length front ≡ length bytes - length rest = omega arith in
    (omega arith, sym (ap (drop (length bytes - length rest)) e ∙ drop_at front rest (length bytes - length rest) count))

-- What is read from the offset on is there, fits, and ends within the bytes.
pub is_found : {A : Type 0} {IsText : A → List ℕ → Type 0} {Fits : A → Type 0} {Ends : List ℕ → Type 0} {read : Reader A}
    → IsSpaced IsText Fits Ends read → (bytes tail : List ℕ) (at : ℕ) (x : A × List ℕ)
    → tail ≡ drop at bytes → read tail ≡ Ok x → Fits x.0 × (length x.1 ≤ length bytes)
    × Stands IsText x.0 (drop at bytes) (drop (length bytes - length x.1) bytes)
is_found {IsText = IsText} {read = read} is bytes tail at x is_tail e =
    let t = is.takes (drop at bytes) x (ap read (sym is_tail) ∙ e) in
    let s = t.1 in
    let grouped : (take at bytes ++ (s.0 ++ s.1)) ++ x.1 ≡ take at bytes ++ (s.0 ++ (s.1 ++ x.1)) = simp append_assoc in
    let whole : bytes ≡ (take at bytes ++ (s.0 ++ s.1)) ++ x.1 = sym (take-append-drop at bytes) ∙ ap (λ (w : List ℕ). take at bytes ++ w) s.4 ∙ sym grouped in
    let end = end_of (take at bytes ++ (s.0 ++ s.1)) x.1 bytes whole in
    (t.0, end.0, subst (λ (r : List ℕ). Stands IsText x.0 (drop at bytes) r) end.1 s)

-- What is there from the offset on is what was read.
pub is_only : {A : Type 0} {IsText : A → List ℕ → Type 0} {Fits : A → Type 0} {Ends : List ℕ → Type 0} {read : Reader A}
    → IsSpaced IsText Fits Ends read → (bytes tail : List ℕ) (at : ℕ) (x : A × List ℕ)
    → tail ≡ drop at bytes → read tail ≡ Ok x → (a : A) (rest : List ℕ) → Fits a → Ends rest → Stands IsText a (drop at bytes) rest → (a ≡ x.0) × (rest ≡ x.1)
is_only {A = A} {read = read} is bytes tail at x is_tail e a rest fits ends stands =
    let found : read tail ≡ Ok (a, rest) = ap read is_tail ∙ is.again a (drop at bytes) rest stands fits ends in
    let pair : A × List ℕ = (a, rest) in
    let same : pair ≡ x = ok_is pair x (sym found ∙ e) in
    (ap (λ (y : A × List ℕ). y.0) same, ap (λ (y : A × List ℕ). y.1) same)

-- If a value is there from the offset on, the only fault is `Memory`.
pub no_fault : {A : Type 0} {IsText : A → List ℕ → Type 0} {Fits : A → Type 0} {Ends : List ℕ → Type 0} {read : Reader A}
    → IsSpaced IsText Fits Ends read → (bytes tail : List ℕ) (at n : ℕ) (fault told : TextFault)
    → tail ≡ drop at bytes → (fault ≢ Memory → read tail ≡ Err fault) → told ≡ placed n fault
    → (a : A) (rest : List ℕ) → Fits a → Ends rest → Stands IsText a (drop at bytes) rest → told ≢ Memory → ⊥
no_fault {read = read} is bytes tail at n fault told is_tail fails is_told a rest fits ends stands not_memory =
    let found : read tail ≡ Ok (a, rest) = ap read is_tail ∙ is.again a (drop at bytes) rest stands fits ends in
    let failed : read tail ≡ Err fault = fails (λ m. not_memory (is_told ∙ ap (placed n) m)) in
    absurd cc

-- ---- when memory ran out

there : {A : Type 0} (read : Result A TextFault) → IsOk read → (a : A) × (read ≡ Ok a)
there (Ok a) ok = (a, refl)
there (Err fault) ok = absurd cc

-- A value is there from the offset on.
pub stands_there : {A : Type 0} {IsText : A → List ℕ → Type 0} {Fits : A → Type 0} {Ends : List ℕ → Type 0} {read : Reader A}
    → IsSpaced IsText Fits Ends read → (bytes tail : List ℕ) (at : ℕ)
    → tail ≡ drop at bytes → IsOk (read tail) → (a : A) × (rest : List ℕ) × (Fits a × Stands IsText a (drop at bytes) rest)
stands_there {read = read} is bytes tail at is_tail ok =
    let x = there (read tail) ok in
    let t = is.takes (drop at bytes) x.0 (ap read (sym is_tail) ∙ x.1) in
    (x.0.0, x.0.1, (t.0, t.1))

-- ---- all of a text

nothing_left : {A : Type 0} (a b : A) (left : List ℕ) → ended a left ≡ Ok b → (left ≡ []) × (a ≡ b)
nothing_left a b [] e = (refl, ok_is a b e)
nothing_left a b (c ∷ left) e = absurd cc

pub alone_found : {A : Type 0} {IsText : A → List ℕ → Type 0} {Fits : A → Type 0} {Ends : List ℕ → Type 0} {read : Reader A}
    → IsSpaced IsText Fits Ends read → (bytes : List ℕ) (a : A)
    → only_of (read bytes) ≡ Ok a → Fits a × IsAlone IsText a bytes
alone_found {IsText = IsText} {Fits = Fits} {read = read} is bytes a e =
    let x = bind_ok (read bytes) (λ x. ended x.0 (after_blanks x.1)) a e in
    let n = nothing_left x.0.0 a (after_blanks x.0.1) x.2 in
    let t = is.takes bytes x.0 x.1 in
    let b = blanks_take x.0.1 in
    let all : b.0 ≡ x.0.1 = sym (b.2 ∙ ap (λ (w : List ℕ). b.0 ++ w) n.0 ∙ append-nil b.0) in
    subst (λ y. Fits y × IsAlone IsText y bytes) n.1 (t.0, (x.0.1, subst AreBlanks all b.1, t.1))

none_left : after_blanks [] ≡ []
unfolding after_blanks
none_left = refl

only_again : {A : Type 0} {IsText : A → List ℕ → Type 0} {Fits : A → Type 0} {read : Reader A}
    → IsSpaced IsText Fits Anything read → (bytes : List ℕ) (a : A) → Fits a → IsAlone IsText a bytes
    → only_of (read bytes) ≡ Ok a
only_again {read = read} is bytes a fits (behind, spaces, stands) =
    let found = is.again a bytes behind stands fits tt in
    let none : after_blanks behind ≡ [] = ap after_blanks (sym (append-nil behind)) ∙ blanks_again behind [] spaces ∙ none_left in
    rw (found, none) refl

pub alone_only : {A : Type 0} {IsText : A → List ℕ → Type 0} {Fits : A → Type 0} {read : Reader A}
    → IsSpaced IsText Fits Anything read → (bytes : List ℕ) (b : A) → only_of (read bytes) ≡ Ok b
    → (a : A) → Fits a → IsAlone IsText a bytes → a ≡ b
alone_only {read = read} is bytes b e a fits alone = ok_is a b (sym (only_again is bytes a fits alone) ∙ e)

pub alone_no_fault : {A : Type 0} {IsText : A → List ℕ → Type 0} {Fits : A → Type 0} {read : Reader A}
    → IsSpaced IsText Fits Anything read → (bytes : List ℕ) (n : ℕ) (fault placed_one : TextFault)
    → (fault ≢ Memory → only_of (read bytes) ≡ Err fault) → placed_one ≡ placed n fault → (a : A) → Fits a → IsAlone IsText a bytes → placed_one ≢ Memory → ⊥
alone_no_fault {read = read} is bytes n fault placed_one fails is_placed a fits alone not_memory =
    let found = only_again is bytes a fits alone in
    let failed : only_of (read bytes) ≡ Err fault = fails (λ m. not_memory (is_placed ∙ ap (placed n) m)) in
    absurd cc

-- A text is of one value.
pub one_value : {A : Type 0} {IsText : A → List ℕ → Type 0} {Fits : A → Type 0} {read : Reader A}
    → IsSpaced IsText Fits Anything read → (one other : A) (text : List ℕ)
    → (Fits one × IsAlone IsText one text) → (Fits other × IsAlone IsText other text) → one ≡ other
one_value {read = read} is one other text alone alone_too =
    ok_is one other (sym (only_again is text one alone.0 alone.1) ∙ only_again is text other alone_too.0 alone_too.1)

-- A value is all there is.
pub alone_there : {A : Type 0} {IsText : A → List ℕ → Type 0} {Fits : A → Type 0} {Ends : List ℕ → Type 0} {read : Reader A}
    → IsSpaced IsText Fits Ends read → (bytes : List ℕ)
    → IsOk (only_of (read bytes)) → (a : A) × (Fits a × IsAlone IsText a bytes)
alone_there {read = read} is bytes ok =
    let a = there (only_of (read bytes)) ok in
    let f = alone_found is bytes a.0 a.1 in
    (a.0, (f.0, f.1))
