-- Samples of the tags that are named: how many tuples have each.
use Rattle.std.specs.Prelude.{ℕ, Bool, false, List, [], ◌∷◌, ◌++◌, ◌==◌, codes, if◌then◌else◌}
use Rattle.std.specs.Prelude.{String, string_bytes}
use Rattle.std.specs.declared.alloc.Global.{Global}
use Rattle.std.specs.List.{flat_map, list_any}
use Rattle.std.specs.Str.{bytes_eq}
use Rattle.linda_tuple.specs.declared.atom.Atom.{Atom}
use Rattle.linda_tuple.specs.declared.atom.Atom.TheVariants as atoms
use Rattle.linda_inspect.specs.Json.{json_member}
use Rattle.linda_shared_listing.specs.declared.kinds.ListedKind.{ListedKind}
use Rattle.linda_status.specs.declared.tagged.TheConstants as mark

-- whether the value is this text
abbrev pub is_text : Atom → List ℕ → Bool
is_text (atoms.Int n) text = false
is_text (atoms.Text own) text = bytes_eq own text
is_text (atoms.Bool b) text = false

-- Whether the tag of a row is one of these texts.
abbrev pub is_named : List (String Global) → ListedKind → Bool
is_named tags row = list_any (λ tag. is_text row.tag (string_bytes tag)) tags

-- How many tuples a row has, if their tag is this text; else 0.
abbrev pub tuples_if : List ℕ → ListedKind → ℕ
tuples_if text row = if is_text row.tag text then row.tuples else 0

-- A byte of the value of a label: a quote, a backslash and the end of a line are escapes.
abbrev pub label_byte : ℕ → List ℕ
label_byte byte =
    if byte == mark.QUOTE then codes "\\\""
    else (if byte == mark.BACKSLASH then codes "\\\\"
    else (if byte == mark.NEWLINE then codes "\\n" else byte ∷ []))

-- The end of the label, and how many there are.
unfoldable pub value_to_end : ℕ → List ℕ
value_to_end tuples = json_member (codes "\"} ") tuples ++ codes "\n"

-- The value of the label, and what follows.
unfoldable pub sample_to_end : List ℕ → ℕ → List ℕ
sample_to_end text tuples = flat_map label_byte text ++ value_to_end tuples

-- The name of the metric, and that of its label.
unfoldable pub sample_name : List ℕ
sample_name = codes "linda_tagged_tuples{tag=\""

-- How many tuples have the tag, as a line.
unfoldable pub tag_sample : List ℕ → ℕ → List ℕ
tag_sample text tuples = sample_name ++ sample_to_end text tuples
