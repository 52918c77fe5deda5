-- The two disks of a server: which is which, and the state that is on them. What a bank and a disk
-- say is handed in.
use Rattle.std.specs.Prelude.{◌≡◌, ℕ, ◌+◌, Bool, true, false, not, [], if◌then◌else◌, Option, Some}
use Rattle.std.specs.Prelude.{None}
use Rattle.linda_tuple.specs.declared.form.Form.{Form}
use Rattle.linda_tuple.specs.declared.form.Form.TheVariants.{One, Two}
use Rattle.linda_store_state.specs.State.{State}
use Rattle.linda_store_state.specs.DeedFormat.{written}
use Rattle.linda_disk.specs.View.{View, IsDurable}
use Rattle.linda_snap.specs.Stands.{IsLesser, IsStored, IsUp}
use Rattle.linda_server.specs.declared.disks.Disks.{Disks}
use Rattle.linda_server.specs.declared.disks.Disks.TheVariants.{InUse, Shut, Away}
use Rattle.linda_server.specs.declared.disks.InUse.{InUse as Used}
use Rattle.linda_server.specs.Pairs.{Both}

-- No disk at all, of which nothing is left.
abbrev pub nowhere : View
nowhere = record { seen = []; may_leave = λ _. ⊥; moment = 0; left_since = λ _ _. ⊥ }

-- The disk of the bank in use and the other one, as the left and the right one.
abbrev pub sides : Bool → View → View → Both
sides true used other = record { left = other; right = used }
sides false used other = record { left = used; right = other }

-- Both disks.
abbrev pub both : {B D : Type 0} → (B → View) → (D → View) → Disks B D → Both
both bank disk (InUse pair) = sides pair.is_right (bank pair.bank) (disk pair.other)
both bank disk (Shut left right) = record { left = disk left; right = disk right }
both bank disk Away = record { left = nowhere; right = nowhere }

-- The left disk and the right one, if they are there.
abbrev pub disks_of : {B D : Type 0} → (B → D) → Disks B D → Option (D × D)
disks_of disk (InUse pair) =
    Some (if pair.is_right then (pair.other, disk pair.bank) else (disk pair.bank, pair.other))
disks_of disk (Shut left right) = Some (left, right)
disks_of disk Away = None

-- Both are honest.
abbrev pub AreHonest : {B D : Type 0} → (B → Type 0) → (D → Type 0) → Disks B D → Type 0
AreHonest bank disk (InUse pair) = bank pair.bank × disk pair.other
AreHonest bank disk (Shut left right) = disk left × disk right
AreHonest bank disk Away = ⊥

-- How often the two have failed.
abbrev pub failures : {B D : Type 0} → (B → ℕ) → (D → ℕ) → Disks B D → ℕ
failures bank disk (InUse pair) = bank pair.bank + disk pair.other
failures bank disk (Shut left right) = disk left + disk right
failures bank disk Away = 0

-- The disks are there: no call has them.
abbrev pub is_there : {B D : Type 0} → Disks B D → Bool
is_there (InUse pair) = true
is_there (Shut left right) = true
is_there Away = false

-- A bank is in use, and it is not spent.
abbrev pub is_ready : {B D : Type 0} → (B → Bool) → Disks B D → Bool
is_ready spent (InUse pair) = not (spent pair.bank)
is_ready spent (Shut left right) = false
is_ready spent Away = false

-- On which side the bank in use is, and its generation; none if no bank is in use.
abbrev pub used_of : {B D : Type 0} → (B → ℕ) → Disks B D → Option Used
used_of generation (InUse pair) =
    Some record { is_right = pair.is_right; generation = generation pair.bank }
used_of generation (Shut left right) = None
used_of generation Away = None

-- A number of the bank in use, and 0 if none is.
abbrev pub number_of : {B D : Type 0} → (B → ℕ) → Disks B D → ℕ
number_of number (InUse pair) = number pair.bank
number_of number (Shut left right) = 0
number_of number Away = 0

-- The form of the bank in use; if none is, that of new banks.
abbrev pub form_of : {B D : Type 0} → (B → Form) → Disks B D → Form
form_of form (InUse pair) = form pair.bank
form_of form (Shut left right) = written
form_of form Away = written

-- Two forms are the same.
abbrev pub are_same : Form → Form → Bool
are_same One One = true
are_same One Two = false
are_same Two One = false
are_same Two Two = true

-- The form is another than that of new banks, which a snapshot writes.
abbrev pub is_old : Form → Bool
is_old form = not (are_same form written)

-- The bank in use, in this form, of this generation and with this end, represents the state, and a
-- crash now leaves them so.
abbrev pub IsUpOn : {B D : Type 0} → (B → Form) → (B → ℕ) → (B → ℕ) → (B → View) → (D → View)
    → Disks B D → State → Type 0
IsUpOn form generation end bank disk (InUse pair) st =
    IsUp (form pair.bank) (generation pair.bank) (end pair.bank) (bank pair.bank) (disk pair.other)
    st
IsUpOn form generation end bank disk (Shut left right) st = ⊥
IsUpOn form generation end bank disk Away st = ⊥

-- What is known of a bank in use and of the other disk, each as far as the disks are honest: the
-- bank represents the state, a crash leaves the other disk as it reads, and that one holds a lesser
-- bank or none.
pub record IsKept (is_used_honest is_other_honest : Type 0) (form : Form) (generation end : ℕ)
    (used other : View)
    (st : State) : Type 0 where
  pub stored : is_used_honest → IsStored form generation end used st
  pub durable : is_other_honest → IsDurable other
  pub lesser : is_used_honest → is_other_honest → IsLesser generation other.seen

-- So it is of the bank in use and the other disk.
abbrev pub IsKeptOn : {B D : Type 0} → (B → Form) → (B → ℕ) → (B → ℕ) → (B → View) → (D → View)
    → (B → Type 0)
    → (D → Type 0) → Disks B D → State → Type 0
IsKeptOn form generation end bank disk honest_bank honest (InUse pair) st =
    IsKept (honest_bank pair.bank) (honest pair.other) (form pair.bank) (generation pair.bank)
    (end pair.bank)
    (bank pair.bank) (disk pair.other) st
IsKeptOn form generation end bank disk honest_bank honest (Shut left right) st = ⊥
IsKeptOn form generation end bank disk honest_bank honest Away st = ⊥

-- The same places hold what is related so.
abbrev pub AreRelated : {B D : Type 0} → (B → B → Type 0) → (D → D → Type 0) → Disks B D → Disks B D
    → Type 0
AreRelated bank disk (InUse old) (InUse new) =
    bank old.bank new.bank × (disk old.other new.other × (new.is_right ≡ old.is_right))
AreRelated bank disk (InUse old) (Shut left right) = ⊥
AreRelated bank disk (InUse old) Away = ⊥
AreRelated bank disk (Shut left right) (InUse new) = ⊥
AreRelated bank disk (Shut left right) (Shut new_left new_right) =
    disk left new_left × disk right new_right
AreRelated bank disk (Shut left right) Away = ⊥
AreRelated bank disk Away (InUse new) = ⊥
AreRelated bank disk Away (Shut left right) = ⊥
AreRelated bank disk Away Away = Unit {0}

-- What was in use is related so to the other disk now, and the other disk to what is in use now.
abbrev pub AreSwapped : {B D : Type 0} → (B → D → Type 0) → (D → B → Type 0) → Disks B D → Disks B D
    → Type 0
AreSwapped bank disk (InUse old) (InUse new) = bank old.bank new.other × disk old.other new.bank
AreSwapped bank disk (InUse old) (Shut left right) = ⊥
AreSwapped bank disk (InUse old) Away = ⊥
AreSwapped bank disk (Shut left right) new = ⊥
AreSwapped bank disk Away new = ⊥
