-- State of two banks, and which of the banks is in use.
use Rattle.std.specs.Prelude.{◌≡◌, ℕ, ◌<◌, ◌⊎◌, List, length}
use Rattle.linda_tuple.specs.declared.form.Form.{Form}
use Rattle.linda_store_state.specs.declared.deed.Deed.{Deed}
use Rattle.linda_store_state.specs.State.{State, IsState}
use Rattle.linda_store_state.specs.Proper.{AreDone}
use Rattle.linda_disk.specs.View.{View, IsDurable}
use Rattle.linda_journal.specs.declared.heading.Heading.TheVariants as headings
use Rattle.linda_journal.specs.Heading.{IsHeading}
use Rattle.linda_journal.specs.Bank.{IsBank, IsSettled}
pub use Rattle.linda_journal.specs.Records.{deeds_in}
use Rattle.linda_journal.specs.Renewal.{IsNoBank}
use Rattle.linda_snap.specs.Snapshot.{spell_state, FitsState}

-- The bytes are a bank of this generation, in either form, with a snapshot of a state from which
-- the deeds of its records lead to that one.
pub record StandsOn (file : List ℕ) (generation : ℕ) (st : State) : Type 0 where
  pub form : Form
  pub opening : State
  pub ranges : IsState opening
  pub fits : FitsState form opening
  pub records : List (List Deed)
  pub bank : IsBank form file generation (spell_state form opening) records
  pub done : AreDone opening (deeds_in records) st

-- The bytes are no bank, or one of a lesser generation, in either form.
abbrev pub IsLesser : ℕ → List ℕ → Type 0
IsLesser generation file =
    IsNoBank file ⊎ ((form : Form) × (lesser : ℕ) × IsHeading file (headings.Bank form lesser)
    × (lesser < generation))

-- Of two banks, the first is in use and represents the state, and the other is lesser.
pub record IsInUse (file other : List ℕ) (st : State) : Type 0 where
  pub generation : ℕ
  pub stands : StandsOn file generation st
  pub lesser : IsLesser generation other

-- Two files represent the state: the only bank in them does, or the one of the greater generation.
abbrev pub Stands : List ℕ → List ℕ → State → Type 0
Stands left right st = IsInUse left right st ⊎ IsInUse right left st

-- On a disk the bank in this form, of this generation, which ends at this offset, represents the
-- state, and a crash now leaves it so.
pub record IsStored (form : Form) (generation end : ℕ) (v : View) (st : State) : Type 0 where
  pub opening : State
  pub ranges : IsState opening
  pub fits : FitsState form opening
  pub records : List (List Deed)
  pub settled : IsSettled form generation (spell_state form opening) records end v
  pub done : AreDone opening (deeds_in records) st

-- So it is, and the bank counts so many records: as many as its journal has.
pub record IsCounted (form : Form) (generation end count : ℕ) (v : View) (st : State)
    : Type 0 where
  pub stored : IsStored form generation end v st
  pub count_is : count ≡ length stored.records

-- So it is of the one of two disks that is in use; and the other one holds a lesser bank or none,
-- and a crash leaves it so.
pub record IsUp (form : Form) (generation end : ℕ) (used other : View) (st : State) : Type 0 where
  pub stored : IsStored form generation end used st
  pub lesser : IsLesser generation other.seen
  pub durable : IsDurable other

-- That bank and what is left of the other disk represent the state, whichever of the two is in use.
abbrev pub StandsBeside : List ℕ → State → List ℕ → Type 0
StandsBeside used st image = Stands used image st
