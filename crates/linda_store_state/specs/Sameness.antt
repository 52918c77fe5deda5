-- Equality of two deeds as a test: what `==` computes.
use Rattle.std.specs.Prelude.{◌≡◌, ◌==◌, Bool, false, ◌&&◌}
use Rattle.std.specs.Bool.{Decides}
use Rattle.std.specs.Cmp.{IsEquivalence, decided}
use Rattle.std.proofs.lemmas.Bool.{false≢true}
use Rattle.std.proofs.lemmas.Bool.Decides.{Decides-and, Decides-eqb, Decides-like}
use Rattle.linda_tuple.specs.Sameness.{same_tuple, same_tuple-decides}
use Rattle.linda_store_state.specs.declared.deed.Deed.{Deed}
use Rattle.linda_store_state.specs.declared.deed.Deed.TheVariants.{Out, Take, Pass, Leave}

-- whether two deeds are equal: of one kind, of one client, with the same number, and an equal tuple
-- or the same id if they have one
abbrev pub same_deed : Deed → Deed → Bool
same_deed (Out c n s) (Out d m t) = (c == d) && ((n == m) && same_tuple s t)
same_deed (Out c n s) (Take d m j) = false
same_deed (Out c n s) (Pass d m j) = false
same_deed (Out c n s) (Leave d m) = false
same_deed (Take c n i) (Out d m t) = false
same_deed (Take c n i) (Take d m j) = (c == d) && ((n == m) && (i == j))
same_deed (Take c n i) (Pass d m j) = false
same_deed (Take c n i) (Leave d m) = false
same_deed (Pass c n i) (Out d m t) = false
same_deed (Pass c n i) (Take d m j) = false
same_deed (Pass c n i) (Pass d m j) = (c == d) && ((n == m) && (i == j))
same_deed (Pass c n i) (Leave d m) = false
same_deed (Leave c n) (Out d m t) = false
same_deed (Leave c n) (Take d m j) = false
same_deed (Leave c n) (Pass d m j) = false
same_deed (Leave c n) (Leave d m) = (c == d) && (n == m)

never : {P : Type 0} → (P → ⊥) → Decides false P
never none = ((λ e. absurd (false≢true e)), (λ p. absurd (none p)))

-- three tests in a row
all_three : {P Q R : Type 0} (x y z : Bool) → Decides x P → Decides y Q → Decides z R
    → Decides (x && (y && z)) (P × (Q × R))
all_three x y z p q r = Decides-and x (y && z) p (Decides-and y z q r)

pub same_deed-decides : (a b : Deed) → Decides (same_deed a b) (a ≡ b)
same_deed-decides (Out c n s) (Out d m t) =
    Decides-like (same_deed (Out c n s) (Out d m t)) (λ e k. Out (e.0 k) (e.1.0 k) (e.1.1 k))
    (λ e. (cc e, (cc e, cc e)))
    (all_three (c == d) (n == m) (same_tuple s t) (Decides-eqb c d) (Decides-eqb n m)
    (same_tuple-decides s t))
same_deed-decides (Out c n s) (Take d m j) = never (λ e. cc)
same_deed-decides (Out c n s) (Pass d m j) = never (λ e. cc)
same_deed-decides (Out c n s) (Leave d m) = never (λ e. cc)
same_deed-decides (Take c n i) (Out d m t) = never (λ e. cc)
same_deed-decides (Take c n i) (Take d m j) =
    Decides-like (same_deed (Take c n i) (Take d m j)) (λ e k. Take (e.0 k) (e.1.0 k) (e.1.1 k))
    (λ e. (cc e, (cc e, cc e)))
    (all_three (c == d) (n == m) (i == j) (Decides-eqb c d) (Decides-eqb n m) (Decides-eqb i j))
same_deed-decides (Take c n i) (Pass d m j) = never (λ e. cc)
same_deed-decides (Take c n i) (Leave d m) = never (λ e. cc)
same_deed-decides (Pass c n i) (Out d m t) = never (λ e. cc)
same_deed-decides (Pass c n i) (Take d m j) = never (λ e. cc)
same_deed-decides (Pass c n i) (Pass d m j) =
    Decides-like (same_deed (Pass c n i) (Pass d m j)) (λ e k. Pass (e.0 k) (e.1.0 k) (e.1.1 k))
    (λ e. (cc e, (cc e, cc e)))
    (all_three (c == d) (n == m) (i == j) (Decides-eqb c d) (Decides-eqb n m) (Decides-eqb i j))
same_deed-decides (Pass c n i) (Leave d m) = never (λ e. cc)
same_deed-decides (Leave c n) (Out d m t) = never (λ e. cc)
same_deed-decides (Leave c n) (Take d m j) = never (λ e. cc)
same_deed-decides (Leave c n) (Pass d m j) = never (λ e. cc)
same_deed-decides (Leave c n) (Leave d m) =
    Decides-like (same_deed (Leave c n) (Leave d m)) (λ e k. Leave (e.0 k) (e.1 k))
    (λ e. (cc e, cc e))
    (Decides-and (c == d) (n == m) (Decides-eqb c d) (Decides-eqb n m))

pub same_deed-equiv : IsEquivalence same_deed
same_deed-equiv = decided same_deed same_deed-decides
