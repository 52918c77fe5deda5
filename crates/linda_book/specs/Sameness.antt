-- Equality of two kept replies as a test: what `==` computes.
use Rattle.std.specs.Prelude.{◌≡◌, ℕ, ◌==◌, Bool, true, false, ◌&&◌, refl}
use Rattle.std.specs.Bool.{Decides}
use Rattle.std.specs.Cmp.{IsEquivalence, decided}
use Rattle.std.proofs.Common.{ap}
use Rattle.std.proofs.lemmas.Bool.{false≢true}
use Rattle.std.proofs.lemmas.Bool.Decides.{Decides-and, Decides-eqb, Decides-like}
use Rattle.linda_tuple.specs.Tuple.{Tuple}
use Rattle.linda_tuple.specs.Sameness.{same_tuple, same_tuple-decides}
use Rattle.linda_book.specs.declared.kept_reply.KeptReply.{KeptReply}
use Rattle.linda_book.specs.declared.kept_reply.KeptReply.TheVariants.{Stored, Taken, Gone, Left}

-- whether two kept replies are equal: of one kind, with the same id and an equal tuple
abbrev pub same_kept : KeptReply → KeptReply → Bool
same_kept (Stored i) (Stored j) = i == j
same_kept (Stored i) (Taken j t) = false
same_kept (Stored i) Gone = false
same_kept (Stored i) Left = false
same_kept (Taken i s) (Stored j) = false
same_kept (Taken i s) (Taken j t) = (i == j) && same_tuple s t
same_kept (Taken i s) Gone = false
same_kept (Taken i s) Left = false
same_kept Gone (Stored j) = false
same_kept Gone (Taken j t) = false
same_kept Gone Gone = true
same_kept Gone Left = false
same_kept Left (Stored j) = false
same_kept Left (Taken j t) = false
same_kept Left Gone = false
same_kept Left Left = true

never : {P : Type 0} → (P → ⊥) → Decides false P
never none = ((λ e. absurd (false≢true e)), (λ p. absurd (none p)))

taken_parts : (i j : ℕ) (s t : Tuple) → Taken i s ≡ Taken j t → (i ≡ j) × (s ≡ t)
taken_parts i j s t same = (cc same, cc same)

pub same_kept-decides : (a b : KeptReply) → Decides (same_kept a b) (a ≡ b)
same_kept-decides (Stored i) (Stored j) =
    Decides-like (i == j) (λ e. ap Stored e) (λ e. cc) (Decides-eqb i j)
same_kept-decides (Stored i) (Taken j t) = never (λ e. cc)
same_kept-decides (Stored i) Gone = never (λ e. cc)
same_kept-decides (Stored i) Left = never (λ e. cc)
same_kept-decides (Taken i s) (Stored j) = never (λ e. cc)
same_kept-decides (Taken i s) (Taken j t) =
    Decides-like ((i == j) && same_tuple s t) (λ both k. Taken (both.0 k) (both.1 k))
    (taken_parts i j s t)
    (Decides-and (i == j) (same_tuple s t) (Decides-eqb i j) (same_tuple-decides s t))
same_kept-decides (Taken i s) Gone = never (λ e. cc)
same_kept-decides (Taken i s) Left = never (λ e. cc)
same_kept-decides Gone (Stored j) = never (λ e. cc)
same_kept-decides Gone (Taken j t) = never (λ e. cc)
same_kept-decides Gone Gone = ((λ e. refl), (λ e. refl))
same_kept-decides Gone Left = never (λ e. cc)
same_kept-decides Left (Stored j) = never (λ e. cc)
same_kept-decides Left (Taken j t) = never (λ e. cc)
same_kept-decides Left Gone = never (λ e. cc)
same_kept-decides Left Left = ((λ e. refl), (λ e. refl))

pub same_kept-equiv : IsEquivalence same_kept
same_kept-equiv = decided same_kept same_kept-decides
