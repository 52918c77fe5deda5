-- Choice between two banks: which one, and why none.
use Rattle.std.specs.Prelude.{◌≡◌, ◌≢◌, ℕ, ◌+◌, ◌==◌, ◌⊎◌, ◌↔◌, nat_lt, Bool, true, false}
use Rattle.std.specs.Prelude.{if◌then◌else◌, List}
use Rattle.std.specs.Prelude.{Result, Ok, Err, IfOk, IfErr}
use Rattle.linda_tuple.specs.declared.form.Form.{Form}
use Rattle.linda_store_state.specs.State.{State, IsState}
use Rattle.linda_store_state.specs.Proper.{AreDone}
use Rattle.linda_disk.specs.declared.disk.Disk.{Ghosts}
use Rattle.linda_disk.specs.View.{View, IsDurable}
use Rattle.linda_disk.specs.Disk.{TellsFailuresOfTwo}
use Rattle.linda_disk.specs.Run.{LeavesOnly}
use Rattle.linda_disk.specs.declared.fault.DiskFault.{DiskFault}
use Rattle.linda_disk.specs.declared.fault.DiskFault.TheVariants as device
use Rattle.linda_journal.specs.declared.heading.Heading.{Heading}
use Rattle.linda_journal.specs.declared.heading.Heading.TheVariants.{NoBank, Foreign, Bank}
use Rattle.linda_journal.specs.declared.limits.TheConstants.{MIN_BYTES}
use Rattle.linda_journal.specs.declared.record.Record.{Record}
use Rattle.linda_journal.specs.declared.fault.BankFault.{BankFault}
use Rattle.linda_journal.specs.declared.fault.BankFault.TheVariants as banks
use Rattle.linda_journal.specs.Heading.{IsHeading}
use Rattle.linda_journal.specs.Journal.{deeds_of}
use Rattle.linda_journal.specs.Bank.{IsBank}
use Rattle.linda_journal.specs.Image.{IsFaultOfBank}
use Rattle.linda_snap.specs.declared.choice.Chosen.{Chosen}
use Rattle.linda_snap.specs.declared.choice.ChoiceFault.{ChoiceFault}
use Rattle.linda_snap.specs.declared.choice.ChoiceFault.TheVariants.{NoStore, Damaged, Disk, Memory}
use Rattle.linda_snap.specs.declared.replay.ReplayFault.{ReplayFault}
use Rattle.linda_snap.specs.declared.replay.ReplayFault.TheVariants as replays
use Rattle.linda_snap.specs.Snapshot.{IsSnapshot}
use Rattle.linda_snap.specs.Reading.{IsNoSnapshot}
use Rattle.linda_snap.specs.Replay.{joined, IsImproper}
use Rattle.linda_snap.specs.Stands.{IsStored, IsCounted, IsUp, Stands}

-- Which of two banks is chosen by what they begin with: true is the right one. The left one is
-- looked at first. Generations are compared without regard to the forms.
abbrev pub choice : Heading → Heading → Result Bool ChoiceFault
choice Foreign right = Err (Damaged false 1)
choice NoBank Foreign = Err (Damaged true 1)
choice (Bank form a) Foreign = Err (Damaged true 1)
choice NoBank NoBank = Err NoStore
choice NoBank (Bank form b) = Ok true
choice (Bank form a) NoBank = Ok false
choice (Bank form a) (Bank other b) =
    if a == b then Err (Damaged false 5) else (if nat_lt b a then Ok false else Ok true)

-- What two files begin with makes that choice.
pub record IsChoice (left right : List ℕ) (told : Result Bool ChoiceFault) : Type 0 where
  pub left_heading : Heading
  pub right_heading : Heading
  pub left_is : IsHeading left left_heading
  pub right_is : IsHeading right right_heading
  pub told_is : choice left_heading right_heading ≡ told

-- ---- one bank

-- The bank is well spelled, but its body is no snapshot.
pub record HasNoSnapshot (file : List ℕ) : Type 0 where
  pub form : Form
  pub generation : ℕ
  pub body : List ℕ
  pub records : List Record
  pub bank : IsBank form file generation body (deeds_of records)
  pub none : IsNoSnapshot form body

-- The bank and its snapshot are well spelled, but the record with this gate has a deed that is not
-- allowed.
pub record HasImproper (file : List ℕ) (gate : ℕ) : Type 0 where
  pub form : Form
  pub generation : ℕ
  pub body : List ℕ
  pub opening : State
  pub records : List Record
  pub bank : IsBank form file generation body (deeds_of records)
  pub snapshot : IsSnapshot form body opening
  pub improper : IsImproper opening records gate

-- The body is a snapshot, in the form, of a state from which the deeds of the records lead to that
-- one.
pub record IsRecovered (form : Form) (body : List ℕ) (records : List Record) (st : State)
    : Type 0 where
  pub opening : State
  pub snapshot : IsSnapshot form body opening
  pub done : AreDone opening (joined records) st

-- What a fault says of a body and of the records after it.
abbrev pub IsUnrecovered : Form → List ℕ → List Record → BankFault → Type 0
IsUnrecovered form body records (banks.Damaged offset) =
    (IsNoSnapshot form body × (offset ≡ MIN_BYTES))
    ⊎ ((opening : State) × IsSnapshot form body opening × IsImproper opening records offset)
IsUnrecovered form body records banks.NoBank = ⊥
IsUnrecovered form body records banks.Memory = Unit {0}
IsUnrecovered form body records banks.Spent = ⊥
IsUnrecovered form body records banks.Full = ⊥
IsUnrecovered form body records banks.Disk = ⊥

-- What a fault of a replay is returned as.
abbrev pub fault_of_replay : ReplayFault → BankFault
fault_of_replay replays.Memory = banks.Memory
fault_of_replay (replays.Improper gate) = banks.Damaged gate

-- What a fault says of one file: that of its bank comes first.
abbrev pub IsFaultOfFile : List ℕ → BankFault → Type 0
IsFaultOfFile file (banks.Damaged offset) =
    IsFaultOfBank file (banks.Damaged offset)
    ⊎ ((HasNoSnapshot file × (offset ≡ MIN_BYTES)) ⊎ HasImproper file offset)
IsFaultOfFile file banks.NoBank = IsFaultOfBank file banks.NoBank
IsFaultOfFile file banks.Memory = Unit {0}
IsFaultOfFile file banks.Spent = ⊥
IsFaultOfFile file banks.Full = ⊥
IsFaultOfFile file banks.Disk = ⊥

-- ---- two banks

-- That one of two.
abbrev pub chosen : {A : Type 0} → Bool → A → A → A
chosen right a b = if right then b else a

-- What a disk's fault is returned as.
abbrev pub fault_of_device : DiskFault → ChoiceFault
fault_of_device device.Device = Disk
fault_of_device device.Memory = Memory

-- Since entry a crash leaves of a disk only what it could leave then.
abbrev pub LeavesNothingNew : View → View → Type 0
LeavesNothingNew old new = LeavesOnly old new old.may_leave

-- So it is of the disk that was chosen, and of the other one.
pub record ChosenLeaves (right : Bool) (left_old right_old used other : View) : Type 0 where
  pub left : right ≡ false → LeavesNothingNew left_old used × LeavesNothingNew right_old other
  pub right_one : right ≡ true → LeavesNothingNew right_old used × LeavesNothingNew left_old other

-- What a fault of one bank is returned as.
abbrev pub fault_on : Bool → BankFault → ChoiceFault
fault_on right banks.Spent = NoStore
fault_on right banks.Full = NoStore
fault_on right banks.NoBank = NoStore
fault_on right (banks.Damaged offset) = Damaged right offset
fault_on right banks.Disk = Disk
fault_on right banks.Memory = Memory

-- What a fault says of two files: none is chosen, or the one that is chosen is damaged.
pub record IsFaultOfChosen (left right : List ℕ) (told : ChoiceFault) : Type 0 where
  pub side : Bool
  pub choice_is : IsChoice left right (Ok side)
  pub fault : BankFault
  pub told_is : told ≡ fault_on side fault
  pub fault_is : IsFaultOfFile (chosen side left right) fault

abbrev pub IsFaultOfBoth : List ℕ → List ℕ → ChoiceFault → Type 0
IsFaultOfBoth left right told = IsChoice left right (Err told) ⊎ IsFaultOfChosen left right told

module _ {B D : Type 0} {g : Ghosts D} where
  -- Of two disks the bank in use was chosen, with the state that it represents; or none was chosen,
  -- and the disks are handed back, left and right (`choose_bank`).
  pub record Chooses (left right : D) (limit : ℕ)
      (result : Result (Chosen B D g) (ChoiceFault × D × D)) : Type 0 where
    -- The two banks represent the state,
    pub found : g.honest left → g.honest right
        → IfOk result (λ c. Stands (g.view left).seen (g.view right).seen c.state)
    -- and a crash now leaves them so;
    pub up : g.honest left → g.honest right
        → IfOk result (λ c.
        IsUp c.bank.form c.bank.generation c.bank.end (g.view c.bank.disk) (g.view c.other)
        c.state)
    -- the disks read as they did at entry.
    pub sides : g.honest left → g.honest right
        → IfOk result (λ c.
        ((g.view c.bank.disk).seen ≡ chosen c.is_right (g.view left).seen (g.view right).seen)
        × ((g.view c.other).seen ≡ chosen c.is_right (g.view right).seen (g.view left).seen))
    -- So two banks that represent a state are read as that state, or a device failed, or memory ran
    -- out.
    pub only : (st : State) → g.honest left → g.honest right
        → Stands (g.view left).seen (g.view right).seen st
        → IfOk result (λ c. c.state ≡ st) × IfErr result (λ e. (e.0 ≡ Disk) ⊎ (e.0 ≡ Memory))
    -- A fault is one of those bytes.
    pub fault : g.honest left → g.honest right
        → IfErr result (λ e. e.0 ≢ Disk → e.0 ≢ Memory
        → IsFaultOfBoth (g.view left).seen (g.view right).seen e.0)
    -- A crash at any moment leaves of either disk only what it could leave at entry.
    pub any_moment : g.honest left → g.honest right
        → IfOk result (λ c.
        ChosenLeaves c.is_right (g.view left) (g.view right) (g.view c.bank.disk)
        (g.view c.other))
        × IfErr result (λ e. LeavesNothingNew (g.view left) (g.view e.1)
        × LeavesNothingNew (g.view right) (g.view e.2))
    pub new : IfOk result (λ c. (c.bank.limit ≡ limit) × (c.bank.is_spent ≡ false))
    -- The state is in its ranges; the bank that was chosen represents it on its own disk, also if
    -- the other disk is not honest; and a crash leaves of the other disk what a read returns.
    pub ranges : IfOk result (λ c. IsState c.state)
    pub stored : IfOk result (λ c. g.honest c.bank.disk
        → IsStored c.bank.form c.bank.generation c.bank.end (g.view c.bank.disk) c.state)
    pub durable : IfOk result (λ c. g.honest c.other → IsDurable (g.view c.other))
    -- That bank counts the records of its journal.
    pub counted : IfOk result (λ c. g.honest c.bank.disk
        → IsCounted c.bank.form c.bank.generation c.bank.end c.bank.records (g.view c.bank.disk)
        c.state)
    pub honest : IfOk result
        (λ c. (g.honest left × g.honest right) ↔ (g.honest c.bank.disk × g.honest c.other))
        × IfErr result (λ e. (g.honest left × g.honest right) ↔ (g.honest e.1 × g.honest e.2))
    -- The count of failures of a device rises exactly if a device is reported to have failed.
    pub cause : IfErr result (λ e.
        TellsFailuresOfTwo Disk e.0 (g.failures left) (g.failures right) (g.failures e.1)
        (g.failures e.2))
    pub steady : IfOk result
        (λ c. (g.failures c.bank.disk ≡ chosen c.is_right (g.failures left) (g.failures right))
        × (g.failures c.other ≡ chosen c.is_right (g.failures right) (g.failures left)))
    -- Each disk is synced once.
    pub clock : g.honest left → g.honest right
        → IfOk result (λ c.
        ((g.view c.bank.disk).moment
        ≡ chosen c.is_right (g.view left).moment (g.view right).moment + 1)
        × ((g.view c.other).moment
        ≡ chosen c.is_right (g.view right).moment (g.view left).moment + 1))
