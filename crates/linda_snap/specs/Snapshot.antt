-- The format of a state in each of the two forms of values: a snapshot.
use Rattle.std.specs.Prelude.{◌≡◌, ℕ, List, ◌++◌, All, length}
use Rattle.std.specs.List.{flat_map}
use Rattle.std.specs.Ordering.{nat_cmp}
use Rattle.std.specs.FinMap.{FinMap, entries}
use Rattle.linda_tuple.specs.declared.form.Form.{Form}
use Rattle.linda_tuple.specs.Tuple.{Tuple}
use Rattle.linda_codec.specs.Steps.{◌>>=◌, many_at}
use Rattle.linda_codec.specs.Formats.{Format, short_number, number, both}
use Rattle.linda_book.specs.Entries.{Entry}
pub use Rattle.linda_book.specs.ReplyFormat.{placed, reply}
use Rattle.linda_store_state.specs.DeedFormat.{written}
use Rattle.linda_store_state.specs.State.{State, IsState}

-- ---- entries

-- A client, its last number, and the reply to it.
abbrev pub kept : Form → Format (ℕ × Entry)
kept form = both short_number (both number (reply form))

-- how many bytes the clients of a book spell in the form of new banks, without their count
abbrev pub clients_bytes : FinMap nat_cmp Entry → ℕ
clients_bytes book = length (flat_map (kept written).spell (entries book))

-- ---- states

-- A count of four bytes, and that many values.
abbrev pub listed : {A : Type 0} → Format A → Format (List A)
listed f = record {
  spell = λ items. short_number.spell (length items) ++ flat_map f.spell items;
  Fits = λ items. short_number.Fits (length items) × All f.Fits items;
  read = λ bytes. short_number.read bytes >>= λ count. many_at f.read count.0 count.1;
}

-- The next id, the tuples with their ids, and the clients with what is kept for them.
abbrev pub Parts : Type 0
Parts = ℕ × (List (ℕ × Tuple) × List (ℕ × Entry))

abbrev pub snapshot : Form → Format Parts
snapshot form = both number (both (listed (placed form)) (listed (kept form)))

-- The parts of a state: its tuples by rising id, its clients by rising number.
abbrev pub parts_of : State → Parts
parts_of st = (st.next, (entries st.bag, entries st.book))

-- The one spelling of a state in the form.
abbrev pub spell_state : Form → State → List ℕ
spell_state form st = (snapshot form).spell (parts_of st)

-- The state has a spelling in the form.
abbrev pub FitsState : Form → State → Type 0
FitsState form st = (snapshot form).Fits (parts_of st)

-- The bytes, all of them, are the spelling in this form of the state, which is in its ranges.
pub record IsSnapshot (form : Form) (bytes : List ℕ) (st : State) : Type 0 where
  pub parts : bytes ≡ spell_state form st
  pub fits : FitsState form st
  pub ranges : IsState st
