-- A bank as a list of bytes, and as it is on a disk.
use Rattle.std.specs.Prelude.{◌≡◌, ℕ, ◌+◌, ◌<◌, ◌≤◌, ◌^◌, ◌⊎◌, List, [], ◌∷◌, ◌++◌, length}
use Rattle.linda_tuple.specs.declared.form.Form.{Form}
use Rattle.linda_tuple.specs.declared.form.Form.TheVariants.{One, Two}
use Rattle.linda_codec.specs.Formats.{short_number, number}
use Rattle.linda_store_state.specs.declared.deed.Deed.{Deed}
use Rattle.linda_disk.specs.View.{View, IsDurable}
use Rattle.linda_journal.specs.declared.kinds.TheConstants.{OPEN}
use Rattle.linda_journal.specs.declared.limits.TheConstants.{MIN_BYTES}
use Rattle.linda_journal.specs.Records.{spell_records, AreIn}
use Rattle.linda_journal.specs.Journal.{IsJournal}

-- The digit 1 or 2 of the form.
abbrev pub digit : Form → ℕ
digit One = 49
digit Two = 50

-- The letters that give the form of all values of a bank: LND1 or LND2.
abbrev pub magic : Form → List ℕ
magic form = 76 ∷ 78 ∷ 68 ∷ digit form ∷ []

-- As many bytes as every bank has, the first of which is an open gate.
abbrev pub IsCandidate : List ℕ → Type 0
IsCandidate file = (MIN_BYTES ≤ length file) × ((rest : List ℕ) × (file ≡ OPEN ∷ rest))

-- An open gate, the magic of the form, a generation, and then anything.
abbrev pub headed : Form → ℕ → List ℕ → List ℕ
headed form generation rest = OPEN ∷ magic form ++ (number.spell generation ++ rest)

-- The same after its first gate, up to the journal.
abbrev pub behind_gate : Form → ℕ → List ℕ → List ℕ
behind_gate form generation body =
    magic form ++ (number.spell generation ++ (short_number.spell (length body) ++ body))

-- What comes before the journal: an open gate, the magic, the generation, and a body after its
-- length.
abbrev pub head : Form → ℕ → List ℕ → List ℕ
head form generation body = headed form generation (short_number.spell (length body) ++ body)

-- The bytes are the bank in this form, of this generation and with this body, whose journal has
-- these records.
pub record IsBank (form : Form) (file : List ℕ) (generation : ℕ) (body : List ℕ)
    (records : List (List Deed)) : Type 0 where
  pub low : 1 ≤ generation
  pub fits : generation < 2 ^ 64
  pub short : length body < 2 ^ 32
  pub rest : List ℕ
  pub parts : file ≡ head form generation body ++ rest
  pub journal : IsJournal form rest records

-- The disk holds that bank, whose journal ends at this offset, and a crash now leaves it so.
pub record IsSettled (form : Form) (generation : ℕ) (body : List ℕ) (records : List (List Deed))
    (end : ℕ) (v : View) : Type 0 where
  pub file : IsBank form v.seen generation body records
  pub place : length (head form generation body) + length (spell_records form records) ≡ end
  pub durable : IsDurable v

-- Bytes that are no bank, or the new one.
abbrev pub IsNoneOrNew : Form → ℕ → List ℕ → List ℕ → Type 0
IsNoneOrNew form generation body file = (IsCandidate file → ⊥) ⊎ IsBank form file generation body []

-- The bytes are the bank with the old records, or with one more.
abbrev pub IsOldOrMore : Form → ℕ → List ℕ → List (List Deed) → List Deed → List ℕ → Type 0
IsOldOrMore form generation body records deeds file =
    IsBank form file generation body records
    ⊎ IsBank form file generation body (records ++ deeds ∷ [])

-- The bytes are the bank with the old records, or with those of these deeds after them: with all of
-- these, or none.
abbrev pub IsOldOrAll : Form → ℕ → List ℕ → List (List Deed) → List Deed → List ℕ → Type 0
IsOldOrAll form generation body records deeds file =
    IsBank form file generation body records
    ⊎ ((more : List (List Deed)) × AreIn deeds more
    × IsBank form file generation body (records ++ more))

-- The disk holds the bank with the records of these deeds after the old ones, and a crash now
-- leaves it so.
pub record IsSettledWithAll (form : Form) (generation : ℕ) (body : List ℕ)
    (records : List (List Deed)) (deeds : List Deed) (end : ℕ) (v : View) : Type 0 where
  pub more : List (List Deed)
  pub are : AreIn deeds more
  pub settled : IsSettled form generation body (records ++ more) end v
