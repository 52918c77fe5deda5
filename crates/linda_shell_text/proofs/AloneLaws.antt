-- Events that are all there is, but for blanks.
use Rattle.std.proofs.Common.{◌≡◌, ◌≢◌, ℕ, List, [], ◌∷◌, ◌++◌, Result, Ok, Err, refl, sym, ap, subst, ◌∙◌}
use Rattle.std.specs.Prelude.{IsOk}
use Rattle.std.proofs.lemmas.List.{append-nil}
use Rattle.linda_text.specs.declared.fault.TextFault.TheVariants.{Memory}
use Rattle.linda_text.specs.Grammar.{AreBlanks}
use Rattle.linda_text.specs.Reading.{after_blanks, ended}
use Rattle.linda_text.proofs.BlankLaws.{blanks_take, blanks_again}
use Rattle.linda_event.specs.Trees.{Tree}
use Rattle.linda_shell_text.specs.declared.fault.EventTextFault.{EventTextFault}
use Rattle.linda_shell_text.specs.declared.fault.EventTextFault.TheVariants.{Text}
use Rattle.linda_shell_text.specs.declared.limits.TheConstants.{MAX_NESTED}
use Rattle.linda_shell_text.specs.EventTexts.{IsEventAlone}
use Rattle.linda_shell_text.specs.Words.{EndsWord}
use Rattle.linda_shell_text.specs.Steps.{lifted, settled_fault}
use Rattle.linda_shell_text.specs.Reading.{event_at, only_event}
use Rattle.linda_codec.proofs.TakeLaws.{bind_ok, ok_is}
use Rattle.linda_shell_text.proofs.EventLaws.{event_takes}
use Rattle.linda_shell_text.proofs.AgainLaws.{event_again, event_begins, blank_ends}

nothing_left : (a b : Tree) (left : List ℕ) → lifted (ended a left) ≡ Ok b → (left ≡ []) × (a ≡ b)
nothing_left a b [] e = (refl, ok_is a b e)
nothing_left a b (c ∷ left) e = absurd cc

pub alone_found : (bytes : List ℕ) (t : Tree) → only_event bytes ≡ Ok t → IsEventAlone bytes t
unfolding only_event
alone_found bytes t e =
    let x = bind_ok (event_at MAX_NESTED (after_blanks bytes)) (λ event. lifted (ended event.0 (after_blanks event.1))) t e in
    let n = nothing_left x.0.0 t (after_blanks x.0.1) x.2 in
    let f = event_takes MAX_NESTED (after_blanks bytes) x.0 x.1 in
    let b = blanks_take bytes in
    let behind = blanks_take x.0.1 in
    let all : behind.0 ≡ x.0.1 = sym (behind.2 ∙ ap (λ (w : List ℕ). behind.0 ++ w) n.0 ∙ append-nil behind.0) in
    let within : IsEventAlone bytes x.0.0 =
    ((f.2, f.3), (x.0.1, subst AreBlanks all behind.1, (b.0, f.0, b.1, f.1, b.2 ∙ ap (λ (w : List ℕ). b.0 ++ w) f.4))) in
    subst (IsEventAlone bytes) n.1 within

blanks_end_word : (blanks : List ℕ) → AreBlanks blanks → EndsWord blanks
blanks_end_word [] all = tt
blanks_end_word (b ∷ blanks) all = blank_ends b all.0

none_left : after_blanks [] ≡ []
unfolding after_blanks
none_left = refl

pub only_again : (bytes : List ℕ) (t : Tree) → IsEventAlone bytes t → only_event bytes ≡ Ok t
unfolding only_event
only_again bytes t (within, (behind, spaces, (blanks, text, more, is, parts))) =
    let front : after_blanks bytes ≡ text ++ behind = ap after_blanks parts ∙ blanks_again blanks (text ++ behind) more ∙ event_begins t text behind is in
    let found : event_at MAX_NESTED (text ++ behind) ≡ Ok (t, behind) =
    event_again t MAX_NESTED text behind is within.0 within.1 (blanks_end_word behind spaces) in
    let none : after_blanks behind ≡ [] = ap after_blanks (sym (append-nil behind)) ∙ blanks_again behind [] spaces ∙ none_left in
    rw (front, found, none) refl

pub alone_only : (bytes : List ℕ) (b : Tree) → only_event bytes ≡ Ok b → (a : Tree) → IsEventAlone bytes a → a ≡ b
alone_only bytes b e a alone = ok_is a b (sym (only_again bytes a alone) ∙ e)

-- If an event is all there is, the only fault is `Memory`.
pub alone_no_fault : (bytes : List ℕ) (n : ℕ) (fault told : EventTextFault)
    → (fault ≢ Text Memory → only_event bytes ≡ Err fault) → told ≡ settled_fault n fault
    → (a : Tree) → IsEventAlone bytes a → told ≢ Text Memory → ⊥
alone_no_fault bytes n fault told fails is_told a alone not_memory =
    let found = only_again bytes a alone in
    let failed : only_event bytes ≡ Err fault = fails (λ m. not_memory (is_told ∙ ap (settled_fault n) m)) in
    absurd cc

there : (read : Result Tree EventTextFault) → IsOk read → (a : Tree) × (read ≡ Ok a)
there (Ok a) ok = (a, refl)
there (Err fault) ok = absurd cc

-- An event is all there is.
pub alone_there : (bytes : List ℕ) → IsOk (only_event bytes) → (event : Tree) × IsEventAlone bytes event
alone_there bytes ok =
    let a = there (only_event bytes) ok in
    (a.0, alone_found bytes a.0 a.1)
