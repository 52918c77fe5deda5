-- Object of JSON for what two banks come to.
use Rattle.std.specs.Prelude.{◌≡◌, ℕ, ◌+◌, ◌==◌, ◌&&◌, ◌⊎◌, Bool, true, false, if◌then◌else◌}
use Rattle.std.specs.Prelude.{List, [], ◌++◌, length, codes}
use Rattle.linda_tuple.specs.declared.form.Form.{Form}
use Rattle.linda_tuple.specs.declared.form.Form.TheVariants.{One, Two}
use Rattle.linda_store_state.specs.declared.deed.Deed.{Deed}
use Rattle.linda_store_state.specs.State.{State}
use Rattle.linda_store_state.specs.Proper.{AreDone}
use Rattle.linda_journal.specs.declared.heading.Heading.{Heading}
use Rattle.linda_journal.specs.declared.heading.Heading.TheVariants.{NoBank, Foreign, Bank}
use Rattle.linda_journal.specs.Heading.{IsHeading}
use Rattle.linda_journal.specs.Records.{spell_records}
use Rattle.linda_journal.specs.Bank.{IsBank, head}
use Rattle.linda_snap.specs.Snapshot.{spell_state}
use Rattle.linda_snap.specs.Stands.{Stands, deeds_in}
use Rattle.linda_snap.specs.Choice.{chosen}
use Rattle.linda_inspect.specs.declared.lists.Lists.{Lists}
use Rattle.linda_inspect.specs.Json.{json_member, json_state}

-- The letters that a bank in this form begins with.
abbrev pub json_form : Form → List ℕ
json_form One = codes "\"form\":\"LND1\""
json_form Two = codes "\"form\":\"LND2\""

-- The form and the generation of a bank.
abbrev pub json_made : Form → ℕ → List ℕ
json_made form generation = json_form form ++ json_member (codes ",\"generation\":") generation

-- What a file of so many bytes begins with.
abbrev pub json_heading : Heading → ℕ → List ℕ
json_heading NoBank bytes =
    if bytes == 0 then codes "{\"is\":\"empty\"" else codes "{\"is\":\"closed\""
json_heading Foreign bytes = codes "{\"is\":\"foreign\""
json_heading (Bank form generation) bytes = codes "{\"is\":\"bank\"," ++ json_made form generation

abbrev pub json_file : Heading → ℕ → List ℕ
json_file heading bytes =
    json_heading heading bytes ++ json_member (codes ",\"bytes\":") bytes ++ codes "}"

-- The two files.
abbrev pub json_files : Heading → ℕ → Heading → ℕ → List ℕ
json_files left bytes right more =
    codes "{\n\"left\":" ++ json_file left bytes ++ codes ",\n\"right\":" ++ json_file right more

-- Both are empty.
abbrev pub json_new : List ℕ
json_new = codes ",\n\"stands\":null,\n\"why\":\"a server makes a new store\"\n}\n"

abbrev pub is_bank : Heading → Bool
is_bank NoBank = false
is_bank Foreign = false
is_bank (Bank form generation) = true

-- The right one of two, or the left one.
abbrev pub json_side : Bool → List ℕ
json_side true = codes "\"right\""
json_side false = codes "\"left\""

-- Why one of two is in use.
abbrev pub json_why : Bool → List ℕ
json_why true = codes "\"the greater generation\""
json_why false = codes "\"the only bank\""

-- Which one is in use, and why.
abbrev pub json_standing : Bool → Bool → List ℕ
json_standing right two =
    (codes ",\n\"stands\":" ++ json_side right) ++ (codes ",\n\"why\":" ++ json_why two)

-- How many records a bank has, its bytes, and the most that it may have.
abbrev pub json_sizes : ℕ → ℕ → ℕ → List ℕ
json_sizes records used limit =
    json_member (codes ",\"records\":") records ++ json_member (codes ",\"used\":") used
    ++ json_member (codes ",\"limit\":") limit

abbrev pub json_bank_made : Form → ℕ → List ℕ
json_bank_made form generation = codes ",\n\"bank\":{" ++ json_made form generation

abbrev pub json_bank_sizes : ℕ → ℕ → ℕ → List ℕ
json_bank_sizes records used limit = json_sizes records used limit ++ codes "}"

abbrev pub json_bank : Form → ℕ → ℕ → ℕ → ℕ → List ℕ
json_bank form generation records used limit =
    json_bank_made form generation ++ json_bank_sizes records used limit

-- The bytes are a bank in this form, of this generation, whose journal ends at this offset, and it
-- represents the state.
pub record IsBankFor (file : List ℕ) (form : Form) (generation used : ℕ) (st : State)
    : Type 0 where
  pub opening : State
  pub records : List (List Deed)
  pub bank : IsBank form file generation (spell_state form opening) records
  pub place : length (head form generation (spell_state form opening))
      + length (spell_records form records) ≡ used
  pub done : AreDone opening (deeds_in records) st

-- The text is the object of two files that represent a state and begin so.
pub record IsStanding (lists : Lists) (limit : ℕ) (left right : List ℕ) (one two : Heading)
    (text : List ℕ) : Type 0 where
  pub right_one : Bool
  pub form : Form
  pub generation : ℕ
  pub used : ℕ
  pub st : State
  pub stands : Stands left right st
  pub bank : IsBankFor (chosen right_one left right) form generation used st
  pub is : text ≡ json_files one (length left) two (length right)
      ++ json_standing right_one (is_bank one && is_bank two)
      ++ json_bank form generation (length bank.records) used limit ++ json_state lists st

-- The text is the object of two files: both are empty, or they represent a state.
pub record IsObject (lists : Lists) (limit : ℕ) (left right : List ℕ) (text : List ℕ)
    : Type 0 where
  pub one : Heading
  pub two : Heading
  pub one_is : IsHeading left one
  pub two_is : IsHeading right two
  pub kind : ((left ≡ []) × (right ≡ [])
      × (text ≡ json_files one (length left) two (length right) ++ json_new))
      ⊎ IsStanding lists limit left right one two text
