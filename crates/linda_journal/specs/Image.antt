-- Images of a bank: what the bytes of a disk hold as one, or why they are none.
use Rattle.std.specs.Prelude.{◌≡◌, ℕ, ◌+◌, ◌<◌, ◌≤◌, ◌^◌, ◌⊎◌, List, ◌++◌, length}
use Rattle.linda_tuple.specs.declared.form.Form.{Form}
use Rattle.linda_journal.specs.declared.heading.Heading.TheVariants as headings
use Rattle.linda_journal.specs.declared.limits.TheConstants.{MIN_BYTES}
use Rattle.linda_journal.specs.declared.fault.BankFault.{BankFault}
use Rattle.linda_journal.specs.declared.fault.BankFault.TheVariants as faults
use Rattle.linda_journal.specs.Journal.{IsDamaged}
use Rattle.linda_journal.specs.Bank.{IsCandidate, head}
use Rattle.linda_journal.specs.Heading.{IsHeading}

-- It begins as a bank, but its body does not fit, or has no gate after it.
pub record IsCutShort (file : List ℕ) : Type 0 where
  pub form : Form
  pub generation : ℕ
  pub heading : IsHeading file (headings.Bank form generation)
  pub never : (any : Form) (other : ℕ) (body rest : List ℕ)
      → length body < 2 ^ 32 → 0 < length rest → file ≡ head any other body ++ rest → ⊥

-- Its journal is damaged at this offset.
pub record IsBroken (file : List ℕ) (offset : ℕ) : Type 0 where
  pub form : Form
  pub generation : ℕ
  pub body : List ℕ
  pub rest : List ℕ
  pub place : ℕ
  pub low : 1 ≤ generation
  pub fits : generation < 2 ^ 64
  pub short : length body < 2 ^ 32
  pub parts : file ≡ head form generation body ++ rest
  pub damaged : IsDamaged form rest place
  pub offset_is : offset ≡ length (head form generation body) + place

-- What a fault says of the bytes.
abbrev pub IsFaultOfBank : List ℕ → BankFault → Type 0
IsFaultOfBank file faults.NoBank = IsCandidate file → ⊥
IsFaultOfBank file (faults.Damaged offset) =
    (IsHeading file headings.Foreign × (offset ≡ 1))
    ⊎ ((IsCutShort file × (offset ≡ MIN_BYTES)) ⊎ IsBroken file offset)
IsFaultOfBank file faults.Memory = Unit {0}
IsFaultOfBank file faults.Spent = ⊥
IsFaultOfBank file faults.Full = ⊥
IsFaultOfBank file faults.Disk = ⊥
