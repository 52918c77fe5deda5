-- Equality of two values as tests: what `==` computes.
use Rattle.std.specs.Prelude.{◌≡◌, Bool, true, false, refl}
use Rattle.std.specs.Bool.{Decides}
use Rattle.std.specs.Cmp.{IsEquivalence, booleans_Decides, decided, and_equiv, on_equiv}
use Rattle.std.specs.Cmp.Lexicographic.{pointwise, pointwise_decides, lists_equiv}
use Rattle.std.specs.Ordering.{int_eq, on, eq_of_both}
use Rattle.std.specs.Str.{bytes_eq}
use Rattle.std.proofs.Common.{ap}
use Rattle.std.proofs.Math.Bool.{beq}
use Rattle.std.proofs.lemmas.Bool.{false≢true}
use Rattle.std.proofs.lemmas.Bool.Decides.{Decides-and, Decides-int_eq, Decides-like}
use Rattle.std.proofs.lemmas.Slice.Eq.{bytes_eq-Decides}
use Rattle.linda_tuple.specs.declared.atom.Atom.{Atom}
use Rattle.linda_tuple.specs.declared.atom.Atom.TheVariants as atoms
use Rattle.linda_tuple.specs.declared.pattern.Pattern.{Pattern}
use Rattle.linda_tuple.specs.declared.pattern.Pattern.TheVariants as patterns
use Rattle.linda_tuple.specs.Tuple.{Tuple}
use Rattle.linda_tuple.specs.Template.{Template}

-- whether two atoms are equal
abbrev pub same_atom : Atom → Atom → Bool
same_atom (atoms.Int m) (atoms.Int n) = int_eq m n
same_atom (atoms.Int m) (atoms.Text t) = false
same_atom (atoms.Int m) (atoms.Bool b) = false
same_atom (atoms.Text s) (atoms.Int n) = false
same_atom (atoms.Text s) (atoms.Text t) = bytes_eq s t
same_atom (atoms.Text s) (atoms.Bool b) = false
same_atom (atoms.Bool a) (atoms.Int n) = false
same_atom (atoms.Bool a) (atoms.Text t) = false
same_atom (atoms.Bool a) (atoms.Bool b) = beq a b

-- whether two patterns are equal
abbrev pub same_pattern : Pattern → Pattern → Bool
same_pattern (patterns.Value a) (patterns.Value b) = same_atom a b
same_pattern (patterns.Value a) patterns.IntFormal = false
same_pattern (patterns.Value a) patterns.TextFormal = false
same_pattern (patterns.Value a) patterns.BoolFormal = false
same_pattern (patterns.Value a) patterns.Any = false
same_pattern patterns.IntFormal (patterns.Value b) = false
same_pattern patterns.IntFormal patterns.IntFormal = true
same_pattern patterns.IntFormal patterns.TextFormal = false
same_pattern patterns.IntFormal patterns.BoolFormal = false
same_pattern patterns.IntFormal patterns.Any = false
same_pattern patterns.TextFormal (patterns.Value b) = false
same_pattern patterns.TextFormal patterns.IntFormal = false
same_pattern patterns.TextFormal patterns.TextFormal = true
same_pattern patterns.TextFormal patterns.BoolFormal = false
same_pattern patterns.TextFormal patterns.Any = false
same_pattern patterns.BoolFormal (patterns.Value b) = false
same_pattern patterns.BoolFormal patterns.IntFormal = false
same_pattern patterns.BoolFormal patterns.TextFormal = false
same_pattern patterns.BoolFormal patterns.BoolFormal = true
same_pattern patterns.BoolFormal patterns.Any = false
same_pattern patterns.Any (patterns.Value b) = false
same_pattern patterns.Any patterns.IntFormal = false
same_pattern patterns.Any patterns.TextFormal = false
same_pattern patterns.Any patterns.BoolFormal = false
same_pattern patterns.Any patterns.Any = true

-- whether two tuples are equal: their tags, and the fields at each place
abbrev pub same_tuple : Tuple → Tuple → Bool
same_tuple = eq_of_both (on (λ t. t.tag) same_atom) (on (λ t. t.fields) (pointwise same_atom))

-- whether two templates are equal: their tags, and the patterns at each place
abbrev pub same_template : Template → Template → Bool
same_template = eq_of_both (on (λ t. t.tag) same_atom) (on (λ t. t.fields) (pointwise same_pattern))

-- ---- each is an equivalence, as `==` has to be

never : {P : Type 0} → (P → ⊥) → Decides false P
never none = ((λ e. absurd (false≢true e)), (λ p. absurd (none p)))

pub same_atom-decides : (a b : Atom) → Decides (same_atom a b) (a ≡ b)
same_atom-decides (atoms.Int m) (atoms.Int n) =
    Decides-like _ (λ e. ap atoms.Int e) (λ e. cc) (Decides-int_eq m n)
same_atom-decides (atoms.Int m) (atoms.Text t) = never (λ e. cc)
same_atom-decides (atoms.Int m) (atoms.Bool b) = never (λ e. cc)
same_atom-decides (atoms.Text s) (atoms.Int n) = never (λ e. cc)
same_atom-decides (atoms.Text s) (atoms.Text t) =
    Decides-like _ (λ e. ap atoms.Text e) (λ e. cc) (bytes_eq-Decides s t)
same_atom-decides (atoms.Text s) (atoms.Bool b) = never (λ e. cc)
same_atom-decides (atoms.Bool a) (atoms.Int n) = never (λ e. cc)
same_atom-decides (atoms.Bool a) (atoms.Text t) = never (λ e. cc)
same_atom-decides (atoms.Bool a) (atoms.Bool b) =
    Decides-like _ (λ e. ap atoms.Bool e) (λ e. cc) (booleans_Decides a b)

pub same_pattern-decides : (p q : Pattern) → Decides (same_pattern p q) (p ≡ q)
same_pattern-decides (patterns.Value a) (patterns.Value b) =
    Decides-like _ (λ e. ap patterns.Value e) (λ e. cc) (same_atom-decides a b)
same_pattern-decides (patterns.Value a) patterns.IntFormal = never (λ e. cc)
same_pattern-decides (patterns.Value a) patterns.TextFormal = never (λ e. cc)
same_pattern-decides (patterns.Value a) patterns.BoolFormal = never (λ e. cc)
same_pattern-decides (patterns.Value a) patterns.Any = never (λ e. cc)
same_pattern-decides patterns.IntFormal (patterns.Value b) = never (λ e. cc)
same_pattern-decides patterns.IntFormal patterns.IntFormal = ((λ e. refl), (λ p. refl))
same_pattern-decides patterns.IntFormal patterns.TextFormal = never (λ e. cc)
same_pattern-decides patterns.IntFormal patterns.BoolFormal = never (λ e. cc)
same_pattern-decides patterns.IntFormal patterns.Any = never (λ e. cc)
same_pattern-decides patterns.TextFormal (patterns.Value b) = never (λ e. cc)
same_pattern-decides patterns.TextFormal patterns.IntFormal = never (λ e. cc)
same_pattern-decides patterns.TextFormal patterns.TextFormal = ((λ e. refl), (λ p. refl))
same_pattern-decides patterns.TextFormal patterns.BoolFormal = never (λ e. cc)
same_pattern-decides patterns.TextFormal patterns.Any = never (λ e. cc)
same_pattern-decides patterns.BoolFormal (patterns.Value b) = never (λ e. cc)
same_pattern-decides patterns.BoolFormal patterns.IntFormal = never (λ e. cc)
same_pattern-decides patterns.BoolFormal patterns.TextFormal = never (λ e. cc)
same_pattern-decides patterns.BoolFormal patterns.BoolFormal = ((λ e. refl), (λ p. refl))
same_pattern-decides patterns.BoolFormal patterns.Any = never (λ e. cc)
same_pattern-decides patterns.Any (patterns.Value b) = never (λ e. cc)
same_pattern-decides patterns.Any patterns.IntFormal = never (λ e. cc)
same_pattern-decides patterns.Any patterns.TextFormal = never (λ e. cc)
same_pattern-decides patterns.Any patterns.BoolFormal = never (λ e. cc)
same_pattern-decides patterns.Any patterns.Any = ((λ e. refl), (λ p. refl))

-- Tuples are equal if their tags and their fields are.
pub same_tuple-decides : (a b : Tuple) → Decides (same_tuple a b) (a ≡ b)
same_tuple-decides a b =
    Decides-like (same_tuple a b) (λ both i. record { tag = both.0 i; fields = both.1 i })
    (λ same. (ap (λ (t : Tuple). t.tag) same, ap (λ (t : Tuple). t.fields) same))
    (Decides-and (same_atom a.tag b.tag) (pointwise same_atom a.fields b.fields)
    (same_atom-decides a.tag b.tag) (pointwise_decides same_atom-decides a.fields b.fields))

pub same_tuple-equiv : IsEquivalence same_tuple
same_tuple-equiv =
    and_equiv (on_equiv (λ t. t.tag) (decided same_atom same_atom-decides))
    (on_equiv (λ t. t.fields) (lists_equiv (decided same_atom same_atom-decides)))

pub same_template-equiv : IsEquivalence same_template
same_template-equiv =
    and_equiv (on_equiv (λ t. t.tag) (decided same_atom same_atom-decides))
    (on_equiv (λ t. t.fields) (lists_equiv (decided same_pattern same_pattern-decides)))
