-- Atoms: which have a spelling in a form, and of which kind one is.
use Rattle.std.specs.Prelude.{◌≡◌, ◌≤◌, Bool, true, false, length, FitsSigned}
use Rattle.std.specs.Int.{w64}
use Rattle.std.specs.Str.{is_utf8}
use Rattle.linda_tuple.specs.declared.atom.Atom.{Atom}
use Rattle.linda_tuple.specs.declared.atom.Atom.TheVariants as atoms
use Rattle.linda_tuple.specs.declared.form.Form.{Form}
use Rattle.linda_tuple.specs.declared.form.Form.TheVariants.{Two}
use Rattle.linda_tuple.specs.Form.{longest_text}

-- An atom that has a spelling in the form: an integer of 64 bits, or UTF-8 that is no longer than a
-- text may be, or a truth value.
abbrev pub IsSoundIn : Form → Atom → Type 0
IsSoundIn form (atoms.Int n) = FitsSigned w64 n
IsSoundIn form (atoms.Text t) = (length t ≤ longest_text form) × (is_utf8 t ≡ true)
IsSoundIn form (atoms.Bool b) = Unit {0}

-- An atom that may be in a tuple: the second form has a spelling for it.
abbrev pub IsSound : Atom → Type 0
IsSound atom = IsSoundIn Two atom

-- whether the atom is an integer
abbrev pub is_int : Atom → Bool
is_int (atoms.Int n) = true
is_int (atoms.Text t) = false
is_int (atoms.Bool b) = false

-- whether the atom is a text
abbrev pub is_text : Atom → Bool
is_text (atoms.Int n) = false
is_text (atoms.Text t) = true
is_text (atoms.Bool b) = false

-- whether the atom is a truth value
abbrev pub is_bool : Atom → Bool
is_bool (atoms.Int n) = false
is_bool (atoms.Text t) = false
is_bool (atoms.Bool b) = true
