-- The values whose bytes are given: in each number all bytes differ.
use Rattle.std.specs.Prelude.{ℕ, List, [], ◌∷◌, pos, negsuc, true, false, codes}
use Rattle.linda_tuple.specs.declared.atom.Atom.TheVariants.{Int, Text, Bool}
use Rattle.linda_tuple.specs.declared.pattern.Pattern.TheVariants.{Value, IntFormal, TextFormal}
use Rattle.linda_tuple.specs.declared.pattern.Pattern.TheVariants.{BoolFormal, Any}
use Rattle.linda_tuple.specs.Tuple.{Tuple}
use Rattle.linda_tuple.specs.Template.{Template}

abbrev pub client : ℕ
client = 0x0a0b0c0d

abbrev pub number : ℕ
number = 0x0102030405060708

abbrev pub ticket : ℕ
ticket = 0x1112131415161718

abbrev pub id : ℕ
id = 0x2122232425262728

abbrev pub later_client : ℕ
later_client = 0x1a1b1c1d

abbrev pub later_number : ℕ
later_number = 0x5152535455565758

abbrev pub later_id : ℕ
later_id = 0x3132333435363738

abbrev pub last_client : ℕ
last_client = 0x2a2b2c2d

abbrev pub last_number : ℕ
last_number = 0x6162636465666768

abbrev pub stored_id : ℕ
stored_id = 0x4142434445464748

abbrev pub next_id : ℕ
next_id = 0x7172737475767778

abbrev pub generation : ℕ
generation = 0x9192939495969798

abbrev pub body : List ℕ
body = 0xb1 ∷ 0xb2 ∷ 0xb3 ∷ 0xb4 ∷ 0xb5 ∷ []

-- ("a", 3)
abbrev pub row : Tuple
row = record { tag = Text (codes "a"); fields = Int (pos 3) ∷ [] }

-- ("b")
abbrev pub tag_only : Tuple
tag_only = record { tag = Text (codes "b"); fields = [] }

-- ("a", ?i)
abbrev pub formals : Template
formals = record { tag = Text (codes "a"); fields = IntFormal ∷ [] }

-- ("é", -2, true, false)
abbrev pub atoms : Tuple
atoms = record {
  tag = Text (0xc3 ∷ 0xa9 ∷ []);
  fields = Int (negsuc 1) ∷ Bool true ∷ Bool false ∷ [];
}

-- (true, ?i, ?s, ?b, _, "a")
abbrev pub patterns : Template
patterns = record {
  tag = Bool true;
  fields = IntFormal ∷ TextFormal ∷ BoolFormal ∷ Any ∷ Value (Text (codes "a")) ∷ [];
}
