-- The format of kept replies in each of the two forms: the one spelling of each, which have one,
-- and the reader.
use Rattle.std.specs.Prelude.{ℕ, List, [], ◌∷◌}
use Rattle.linda_tuple.specs.declared.form.Form.{Form}
use Rattle.linda_tuple.specs.declared.form.Form.TheVariants.{One, Two}
use Rattle.linda_tuple.specs.Tuple.{Tuple}
use Rattle.linda_codec.specs.Steps.{Reader}
use Rattle.linda_codec.specs.Formats.{Format, number, nothing, both, made_at, no_kind, body_at}
use Rattle.linda_codec.specs.Formats.{choice_at}
use Rattle.linda_codec.specs.Values as value
use Rattle.linda_book.specs.declared.kept_reply.KeptReply.{KeptReply}
use Rattle.linda_book.specs.declared.kept_reply.KeptReply.TheVariants.{Stored, Taken, Gone, Left}
use Rattle.linda_book.specs.declared.kinds.TheConstants as kind

-- Banks of the form have Leaves: only those of the second form.
abbrev pub HasLeaves : Form → Type 0
HasLeaves One = ⊥
HasLeaves Two = Unit {0}

-- The id of a tuple, and the tuple in the form.
abbrev pub placed : Form → Format (ℕ × Tuple)
placed form = both number (value.tuple form)

-- A kept reply's kind byte and body.
abbrev pub spell_reply : Form → KeptReply → List ℕ
spell_reply form (Stored id) = kind.STORED ∷ number.spell id
spell_reply form (Taken id tuple) = kind.TAKEN ∷ (placed form).spell (id, tuple)
spell_reply form Gone = kind.GONE ∷ []
spell_reply form Left = kind.LEFT ∷ []

-- What has a spelling among kept replies; that to a Leave if the form has Leaves.
abbrev pub FitsReply : Form → KeptReply → Type 0
FitsReply form (Stored id) = number.Fits id
FitsReply form (Taken id tuple) = (placed form).Fits (id, tuple)
FitsReply form Gone = Unit {0}
FitsReply form Left = HasLeaves form

-- The kind of replies to Leaves with its body, if the form has Leaves.
abbrev pub left_kinds : Form → List (ℕ × Reader KeptReply)
left_kinds One = []
left_kinds Two = (kind.LEFT, made_at (λ _. Left) nothing) ∷ []

-- The kinds of kept replies, each with its body.
abbrev pub reply_kinds : Form → List (ℕ × Reader KeptReply)
reply_kinds form =
    (kind.STORED, made_at (λ id. Stored id) number)
    ∷ (kind.TAKEN, made_at (λ p. Taken p.0 p.1) (placed form))
    ∷ (kind.GONE, made_at (λ _. Gone) nothing) ∷ left_kinds form

-- A kept reply of that kind, of which the kind is read.
abbrev pub reply_body_at : Form → ℕ → Reader KeptReply
reply_body_at form = body_at (reply_kinds form) no_kind

abbrev pub reply : Form → Format KeptReply
reply form =
    record {
      spell = spell_reply form;
      Fits = FitsReply form;
      read = choice_at (reply_kinds form) no_kind;
    }
