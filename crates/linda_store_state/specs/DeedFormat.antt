-- The format of deeds in each of the two forms: the one spelling of each, which deeds have one, and
-- the reader.
use Rattle.std.specs.Prelude.{ℕ, List, [], ◌∷◌, All}
use Rattle.std.specs.List.{flat_map}
use Rattle.linda_tuple.specs.declared.form.Form.{Form}
use Rattle.linda_tuple.specs.declared.form.Form.TheVariants.{One, Two}
use Rattle.linda_tuple.specs.Tuple.{Tuple, FitsIn}
use Rattle.linda_codec.specs.Steps.{Reader}
use Rattle.linda_codec.specs.Formats.{Format, short_number, number, both, made_at, no_kind}
use Rattle.linda_codec.specs.Formats.{choice_at}
use Rattle.linda_codec.specs.Values as value
pub use Rattle.linda_book.specs.ReplyFormat.{HasLeaves}
use Rattle.linda_store_state.specs.declared.deed.Deed.{Deed}
use Rattle.linda_store_state.specs.declared.deed.Deed.TheVariants.{Out, Take, Pass, Leave}
use Rattle.linda_store_state.specs.declared.kinds.TheConstants as kind

-- The form in which new banks spell values.
abbrev pub written : Form
written = Two

-- The client, the number, the tuple in the form.
abbrev pub out : Form → Format (ℕ × (ℕ × Tuple))
out form = both short_number (both number (value.tuple form))

-- The client, the number, the id of a tuple: the same in both forms.
abbrev pub reference : Format (ℕ × (ℕ × ℕ))
reference = both short_number (both number number)

-- The client and the number, the same in both forms.
abbrev pub leave : Format (ℕ × ℕ)
leave = both short_number number

abbrev pub leave_of : ℕ × ℕ → Deed
leave_of p = Leave p.0 p.1

-- A deed's kind byte and body, with its values in the form.
abbrev pub spell_deed : Form → Deed → List ℕ
spell_deed form (Out client n tuple) = kind.OUT ∷ (out form).spell (client, (n, tuple))
spell_deed form (Take client n id) = kind.TAKE ∷ reference.spell (client, (n, id))
spell_deed form (Pass client n id) = kind.PASS ∷ reference.spell (client, (n, id))
spell_deed form (Leave client n) = kind.LEAVE ∷ leave.spell (client, n)

-- What has a spelling among deeds: numbers of their widths, and a tuple that fits in the form; a
-- Leave if the form has them.
abbrev pub FitsDeed : Form → Deed → Type 0
FitsDeed form (Out client n tuple) = (out form).Fits (client, (n, tuple))
FitsDeed form (Take client n id) = reference.Fits (client, (n, id))
FitsDeed form (Pass client n id) = reference.Fits (client, (n, id))
FitsDeed form (Leave client n) = HasLeaves form × leave.Fits (client, n)

-- The kind of Leaves with its body, if the form has them.
abbrev pub leave_kinds : Form → List (ℕ × Reader Deed)
leave_kinds One = []
leave_kinds Two = (kind.LEAVE, made_at leave_of leave) ∷ []

-- The kinds of deeds, each with its body.
abbrev pub deed_kinds : Form → List (ℕ × Reader Deed)
deed_kinds form =
    (kind.OUT, made_at (λ p. Out p.0 p.1.0 p.1.1) (out form))
    ∷ (kind.TAKE, made_at (λ p. Take p.0 p.1.0 p.1.1) reference)
    ∷ (kind.PASS, made_at (λ p. Pass p.0 p.1.0 p.1.1) reference) ∷ leave_kinds form

abbrev pub deed : Form → Format Deed
deed form = record {
  spell = spell_deed form;
  Fits = FitsDeed form;
  read = choice_at (deed_kinds form) no_kind;
}

-- Deeds, one after the other.
abbrev pub payload : Form → List Deed → List ℕ
payload form ds = flat_map (spell_deed form) ds

-- ---- whether there is a spelling

-- The tuple that the deed puts, if it puts one, has a spelling in the form, and a Leave if the form
-- has them. Nothing else of a deed depends on the form.
abbrev pub SuitsForm : Form → Deed → Type 0
SuitsForm form (Out client n tuple) = FitsIn form tuple
SuitsForm form (Take client n id) = Unit {0}
SuitsForm form (Pass client n id) = Unit {0}
SuitsForm form (Leave client n) = HasLeaves form

-- One of the deeds puts a tuple that has no spelling in the form, or is a Leave in a form without
-- them.
abbrev pub IsUnspelled : Form → List Deed → Type 0
IsUnspelled form ds = All (SuitsForm form) ds → ⊥
