-- The most bytes that values spell in each form.
use Rattle.std.proofs.Common.{◌*◌, ◌≤◌, List, [], ◌∷◌, length, arith, length-append}
use Rattle.std.specs.List.{flat_map, AllByRecursion}
use Rattle.std.proofs.lemmas.List.Elements.{recursion_from_All}
use Rattle.linda_tuple.specs.declared.atom.Atom.{Atom}
use Rattle.linda_tuple.specs.declared.atom.Atom.TheVariants as atoms
use Rattle.linda_tuple.specs.declared.form.Form.{Form}
use Rattle.linda_tuple.specs.declared.form.Form.TheVariants.{One, Two}
use Rattle.linda_tuple.specs.declared.limits.TheConstants.{MAX_FIELDS}
use Rattle.linda_tuple.specs.Atom.{IsSoundIn}
use Rattle.linda_tuple.specs.Tuple.{Tuple, FitsIn}
use Rattle.linda_codec.specs.declared.limits.TheConstants.{MAX_ATOM_BYTES, MAX_TUPLE_BYTES}
use Rattle.linda_codec.specs.Values as value
use Rattle.linda_codec.proofs.ValueLaws.{tuple_within}

atom_short : (form : Form) (a : Atom) → IsSoundIn form a → length ((value.atom form).spell a) ≤ MAX_ATOM_BYTES
atom_short form (atoms.Int n) sound = omega arith
atom_short One (atoms.Text t) sound = omega (arith, sound.0)
atom_short Two (atoms.Text t) sound = omega (arith, sound.0)
atom_short form (atoms.Bool b) sound = omega arith

atoms_short : (form : Form) (many : List Atom) → AllByRecursion (IsSoundIn form) many
    → length (flat_map (value.atom form).spell many) ≤ MAX_ATOM_BYTES * length many
atoms_short form [] sound = omega arith
atoms_short form (a ∷ many) sound =
    omega (arith, atom_short form a sound.0, atoms_short form many sound.1, length-append ((value.atom form).spell a) (flat_map (value.atom form).spell many))

-- A tuple that has a spelling spells no more bytes than any.
pub tuple_short : (form : Form) (t : Tuple) → FitsIn form t → length ((value.tuple form).spell t) ≤ MAX_TUPLE_BYTES
tuple_short form t fits =
    let few : length t.fields ≤ MAX_FIELDS = (tuple_within form t fits).count in
    omega (
      arith,
      few,
      atom_short form t.tag fits.tag,
      atoms_short form t.fields (recursion_from_All (IsSoundIn form) t.fields fits.fields),
      length-append ((value.atom form).spell t.tag) (length t.fields ∷ flat_map (value.atom form).spell t.fields),
    )
