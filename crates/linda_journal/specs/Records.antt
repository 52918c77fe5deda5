-- The records that deeds are in.
use Rattle.std.specs.Prelude.{◌≡◌, ℕ, ◌+◌, ◌-◌, ◌*◌, ◌/◌, ◌≤◌, List, [], ◌∷◌, ◌++◌, All, length}
use Rattle.std.specs.List.{flat_map}
use Rattle.linda_codec.specs.Formats.{short_number}
use Rattle.linda_tuple.specs.declared.form.Form.{Form}
use Rattle.linda_store_state.specs.declared.deed.Deed.{Deed}
pub use Rattle.linda_store_state.specs.DeedFormat.{
  deed,
  spell_deed,
  FitsDeed,
  SuitsForm,
  IsUnspelled,
  payload,
}
use Rattle.linda_journal.specs.declared.kinds.TheConstants as kind
use Rattle.linda_journal.specs.declared.kinds.TheConstants.{CLOSED}
use Rattle.linda_journal.specs.declared.limits.TheConstants.{MAX_DEEDS, RECORD_HEAD}

-- What has a spelling among records: one deed or more, no more than the limit, each with a
-- spelling.
pub record IsRecord (form : Form) (ds : List Deed) : Type 0 where
  pub some : 1 ≤ length ds
  pub few : length ds ≤ MAX_DEEDS
  pub fits : All (FitsDeed form) ds

-- The bytes are the deeds of a record, so many.
pub record IsPayloadOf (form : Form) (bytes : List ℕ) (count : ℕ) : Type 0 where
  pub deeds : List Deed
  pub good : IsRecord form deeds
  pub parts : bytes ≡ payload form deeds
  pub count_is : length deeds ≡ count

-- The bytes spell no record's deeds.
abbrev pub IsNoPayload : Form → List ℕ → Type 0
IsNoPayload form bytes = (ds : List Deed) → IsRecord form ds → bytes ≡ payload form ds → ⊥

-- The bytes after their number.
abbrev pub measured : List ℕ → List ℕ
measured bytes = short_number.spell (length bytes) ++ bytes

-- What comes after a record's gate: the length of the payload, and the payload.
abbrev pub record_body : Form → List Deed → List ℕ
record_body form ds = measured (payload form ds)

-- A record: an open gate, and what comes after it.
abbrev pub spell_record : Form → List Deed → List ℕ
spell_record form ds = kind.OPEN ∷ record_body form ds

-- Records, one after the other.
abbrev pub spell_records : Form → List (List Deed) → List ℕ
spell_records form rs = flat_map (spell_record form) rs

-- ---- deeds as several records

-- The deeds of all records, in order.
abbrev pub deeds_in : List (List Deed) → List Deed
deeds_in rs = flat_map (λ ds. ds) rs

-- How many records so many deeds take, if each but the last has as many as a record may have.
abbrev pub records_for : ℕ → ℕ
records_for count = (count + (MAX_DEEDS - 1)) / MAX_DEEDS

-- The deeds, in order, as so many records as they take.
pub record AreIn (ds : List Deed) (rs : List (List Deed)) : Type 0 where
  pub all : deeds_in rs ≡ ds
  pub count : length rs ≡ records_for (length ds)

-- How many bytes the records of so many deeds spell, whose spellings have so many.
abbrev pub bytes_for : ℕ → ℕ → ℕ
bytes_for count bytes = RECORD_HEAD * records_for count + bytes

-- The bytes are records of these deeds.
pub record AreRecords (form : Form) (ds : List Deed) (bytes : List ℕ) : Type 0 where
  pub records : List (List Deed)
  pub are : AreIn ds records
  pub good : All (IsRecord form) records
  pub bytes_are : bytes ≡ spell_records form records

-- The bytes are records of these deeds, which begin with an open gate, and a closed gate after
-- them.
pub record AreSpelled (form : Form) (ds : List Deed) (bytes : List ℕ) : Type 0 where
  pub records : List (List Deed)
  pub are : AreIn ds records
  pub good : All (IsRecord form) records
  pub behind : List ℕ
  pub starts : spell_records form records ≡ kind.OPEN ∷ behind
  pub bytes_are : bytes ≡ kind.OPEN ∷ (behind ++ CLOSED ∷ [])
