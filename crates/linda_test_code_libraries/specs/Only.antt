-- Bytes that are a journal, an append, a bank or a snapshot, and no other.
use Rattle.std.specs.Prelude.{◌≡◌, ℕ, List}
use Rattle.linda_tuple.specs.declared.form.Form.{Form}
use Rattle.linda_store_state.specs.declared.deed.Deed.{Deed}
use Rattle.linda_store_state.specs.State.{State}
use Rattle.linda_journal.specs.Records.{AreSpelled}
use Rattle.linda_journal.specs.Journal.{IsJournal}
use Rattle.linda_journal.specs.Bank.{IsBank}
use Rattle.linda_snap.specs.Snapshot.{IsSnapshot}

-- The bytes are a journal of these records, and of no others.
pub record AreRecords (form : Form) (records : List (List Deed)) (bytes : List ℕ) : Type 0 where
  pub journal : IsJournal form bytes records
  pub only : (rs : List (List Deed)) → IsJournal form bytes rs → rs ≡ records

-- The bytes are what is appended of these deeds: their records, each after an open gate, and a
-- closed gate; and no others are.
pub record AreAppended (form : Form) (deeds : List Deed) (bytes : List ℕ) : Type 0 where
  pub spelled : AreSpelled form deeds bytes
  pub only : (other : List ℕ) → AreSpelled form deeds other → other ≡ bytes

-- The bytes are this bank, and no other.
pub record AreBank (form : Form) (generation : ℕ) (body : List ℕ) (records : List (List Deed))
    (bytes : List ℕ) : Type 0 where
  pub bank : IsBank form bytes generation body records
  pub only : (f : Form) (g : ℕ) (b : List ℕ) (rs : List (List Deed)) → IsBank f bytes g b rs
      → (f ≡ form) × (g ≡ generation) × (b ≡ body) × (rs ≡ records)

-- The bytes are the snapshot of this state in the form, and of no other.
pub record AreSnapshot (form : Form) (st : State) (bytes : List ℕ) : Type 0 where
  pub snapshot : IsSnapshot form bytes st
  pub only : (other : State) → IsSnapshot form bytes other → other ≡ st
