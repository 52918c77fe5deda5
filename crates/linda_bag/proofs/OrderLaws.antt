-- The order of atoms ties each atom to itself, and that of numbers each number.
use Rattle.std.proofs.Common.{◌≡◌, ℕ, true, nat_cmp, sym, ap, ◌∙◌}
use Rattle.std.specs.declared.cmp.Ordering.{Ordering}
use Rattle.std.specs.declared.cmp.Ordering.TheVariants.{Less, Greater}
use Rattle.std.specs.Ordering.{is_eq, ordering_reverse}
use Rattle.std.specs.Cmp.{IsTotalOrder, nat_cmp_total, int_cmp_total, bool_cmp_total}
use Rattle.std.specs.Cmp.Lexicographic.{nat_list_cmp_total}
use Rattle.linda_tuple.specs.declared.atom.Atom.{Atom}
use Rattle.linda_tuple.specs.declared.atom.Atom.TheVariants as atoms
use Rattle.linda_tuple.specs.contracts.atom.AtomOrd.TheImpl as atom_ord
use Rattle.linda_bag.proofs.FilingLaws.{key_itself}

pub atom_itself : (a : Atom) → is_eq (atom_ord.ghosts.cmp a a) ≡ true
atom_itself (atoms.Int n) = key_itself int_cmp_total n
atom_itself (atoms.Text t) = key_itself nat_list_cmp_total t
atom_itself (atoms.Bool b) = key_itself bool_cmp_total b

pub number_itself : (n : ℕ) → is_eq (nat_cmp n n) ≡ true
number_itself n = key_itself nat_cmp_total n

apart : Less ≡ Greater → ⊥
apart e = cc

-- Of two keys not each is below the other.
no_turn : {K : Type 0} {cmp : K → K → Ordering} (order : IsTotalOrder cmp) (a b : K) → cmp a b ≡ Less → cmp b a ≡ Less → ⊥
no_turn order a b less back = apart (sym less ∙ order.antisymm a b ∙ ap ordering_reverse back)

pub atoms_turn : (a b : Atom) → atom_ord.ghosts.cmp a b ≡ Less → atom_ord.ghosts.cmp b a ≡ Less → ⊥
atoms_turn (atoms.Int m) (atoms.Int n) less back = no_turn int_cmp_total m n less back
atoms_turn (atoms.Int m) (atoms.Text t) less back = apart (sym back)
atoms_turn (atoms.Int m) (atoms.Bool b) less back = apart (sym back)
atoms_turn (atoms.Text s) (atoms.Int n) less back = apart (sym less)
atoms_turn (atoms.Text s) (atoms.Text t) less back = no_turn nat_list_cmp_total s t less back
atoms_turn (atoms.Text s) (atoms.Bool b) less back = apart (sym back)
atoms_turn (atoms.Bool a) (atoms.Int n) less back = apart (sym less)
atoms_turn (atoms.Bool a) (atoms.Text t) less back = apart (sym less)
atoms_turn (atoms.Bool a) (atoms.Bool b) less back = no_turn bool_cmp_total a b less back
