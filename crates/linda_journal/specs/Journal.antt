-- A journal as a list of bytes: the records that are in it, or where it is damaged.
use Rattle.std.specs.Prelude.{◌≡◌, ◌≢◌, ℕ, ◌+◌, List, [], ◌∷◌, ◌++◌, All, length, map}
use Rattle.linda_tuple.specs.declared.form.Form.{Form}
use Rattle.linda_store_state.specs.declared.deed.Deed.{Deed}
use Rattle.linda_journal.specs.declared.kinds.TheConstants.{OPEN}
use Rattle.linda_journal.specs.declared.record.Record.{Record}
use Rattle.linda_journal.specs.declared.journal.JournalFault.{JournalFault}
use Rattle.linda_journal.specs.declared.journal.JournalFault.TheVariants.{Memory, Damaged}
use Rattle.linda_journal.specs.Records.{IsRecord, record_body, spell_record, spell_records}

-- The bytes are these records, then a gate that is closed, and then anything.
pub record IsJournal (form : Form) (bytes : List ℕ) (records : List (List Deed)) : Type 0 where
  pub gate : ℕ
  pub rest : List ℕ
  pub parts : bytes ≡ spell_records form records ++ gate ∷ rest
  pub closed : gate ≢ OPEN
  pub good : All (IsRecord form) records

-- What comes after a gate is no record with the byte of a gate after it.
abbrev pub IsNoRecord : Form → List ℕ → Type 0
IsNoRecord form behind =
    (ds : List Deed) (gate : ℕ) (rest : List ℕ) → IsRecord form ds
    → behind ≡ record_body form ds ++ gate ∷ rest → ⊥

-- The bytes are some records, and then, at this place, an open gate with no record after it.
pub record IsDamaged (form : Form) (bytes : List ℕ) (place : ℕ) : Type 0 where
  pub records : List (List Deed)
  pub behind : List ℕ
  pub parts : bytes ≡ spell_records form records ++ OPEN ∷ behind
  pub good : All (IsRecord form) records
  pub place_is : length (spell_records form records) ≡ place
  pub bad : IsNoRecord form behind

-- ---- what was read

-- The deeds of each record.
abbrev pub deeds_of : List Record → List (List Deed)
deeds_of rs = map (λ (r : Record). r.deeds.items) rs

-- The places of the gates of records that follow one another from here on.
abbrev pub places : Form → ℕ → List (List Deed) → List ℕ
places form at [] = []
places form at (ds ∷ rs) = at ∷ places form (at + length (spell_record form ds)) rs

-- Each record gives the offset of its gate, if the first one begins at this offset.
abbrev pub AreAt : Form → ℕ → List Record → Type 0
AreAt form at rs = map (λ (r : Record). r.gate) rs ≡ places form at (deeds_of rs)

-- What a fault says of bytes that begin at this offset.
abbrev pub IsFaultOf : Form → List ℕ → ℕ → JournalFault → Type 0
IsFaultOf form bytes at Memory = Unit {0}
IsFaultOf form bytes at (Damaged offset) =
    (place : ℕ) × (offset ≡ at + place) × IsDamaged form bytes place
