-- The two disks of a server, and what its calls keep to, as contracts see them.
use Rattle.std.specs.Prelude.{◌≡◌, ◌↔◌, ℕ, ◌+◌, Bool, true, List, Option, Result, IfErr, OnOk}
use Rattle.linda_tuple.specs.declared.form.Form.{Form}
use Rattle.linda_store_state.specs.State.{State}
use Rattle.linda_disk.specs.declared.disk.Disk.{Ghosts}
use Rattle.linda_disk.specs.Disk.{TellsFailures}
use Rattle.linda_snap.specs.Stands.{Stands}
use Rattle.linda_journal.specs.declared.bank.Bank.{Bank}
use Rattle.linda_journal.specs.Renewal.{TakesCalls}
use Rattle.linda_server.specs.declared.disks.Disks.{Disks}
use Rattle.linda_server.specs.declared.disks.InUse.{InUse}
use Rattle.linda_server.specs.Pairs.{Both, PairsSince, PairsNow}
use Rattle.linda_server.specs.Disks.{both, used_of, form_of, number_of, is_ready, AreHonest}
use Rattle.linda_server.specs.Disks.{failures, is_there, IsUpOn, IsKeptOn}
use Rattle.linda_server.specs.Disks.{AreRelated, AreSwapped}
use Rattle.linda_server.specs.Calls.{StandsFor}

module _ {D : Type 0} {g : Ghosts D} where
  -- Both disks.
  abbrev pub both_of : Disks (Bank D g) D → Both
  both_of disks = both (λ b. g.view b.disk) g.view disks

  -- A bank is in use, and it is not spent.
  abbrev pub is_usable : Disks (Bank D g) D → Bool
  is_usable disks = is_ready (λ b. b.is_spent) disks

  -- Which bank is in use, if one is: on which side it is, and its generation.
  abbrev pub bank_in_use : Disks (Bank D g) D → Option InUse
  bank_in_use disks = used_of (λ b. b.generation) disks

  -- The form of the bank in use; if none is, that of new banks.
  abbrev pub form_in_use : Disks (Bank D g) D → Form
  form_in_use disks = form_of (λ b. b.form) disks

  -- Its generation, the offset at which its journal ends, how many records that has, and the most
  -- bytes that the bank may take; each 0 if none is in use.
  abbrev pub generation_in_use : Disks (Bank D g) D → ℕ
  generation_in_use disks = number_of (λ b. b.generation) disks

  abbrev pub end_in_use : Disks (Bank D g) D → ℕ
  end_in_use disks = number_of (λ b. b.end) disks

  abbrev pub records_in_use : Disks (Bank D g) D → ℕ
  records_in_use disks = number_of (λ b. b.records) disks

  abbrev pub limit_in_use : Disks (Bank D g) D → ℕ
  limit_in_use disks = number_of (λ b. b.limit) disks

  -- Both are honest.
  abbrev pub BothHonest : Disks (Bank D g) D → Type 0
  BothHonest disks = AreHonest (λ b. g.honest b.disk) g.honest disks

  -- How often the two have failed.
  abbrev pub failures_of : Disks (Bank D g) D → ℕ
  failures_of disks = failures (λ b. g.failures b.disk) g.failures disks

  -- The bank in use represents the state, and a crash now leaves the two so.
  abbrev pub IsUpFor : Disks (Bank D g) D → State → Type 0
  IsUpFor disks st =
      IsUpOn (λ b. b.form) (λ b. b.generation) (λ b. b.end) (λ b. g.view b.disk) g.view disks st

  -- The bank in use represents the state, and a crash now leaves the two so, each as far as the
  -- disks are honest.
  abbrev pub IsKeptFor : Disks (Bank D g) D → State → Type 0
  IsKeptFor disks st =
      IsKeptOn (λ b. b.form) (λ b. b.generation) (λ b. b.end) (λ b. g.view b.disk) g.view
      (λ b. g.honest b.disk) g.honest
      disks st

  -- Four calls changed or synced the disk of the bank in use, if it is honest, and the other disk
  -- is as it was.
  abbrev pub IsPutOn : Disks (Bank D g) D → Disks (Bank D g) D → Type 0
  IsPutOn old new =
      AreRelated (λ b c. g.honest b.disk → (g.view c.disk).moment ≡ (g.view b.disk).moment + 4)
      (λ d e. e ≡ d) old new

  -- The bank in use has its generation still, and the other disk is as it was.
  abbrev pub IsBesideStill : Disks (Bank D g) D → Disks (Bank D g) D → Type 0
  IsBesideStill old new = AreRelated (λ b c. c.generation ≡ b.generation) (λ d e. e ≡ d) old new

  -- The bank in use is as it was, on its side.
  abbrev pub IsBankStill : Disks (Bank D g) D → Disks (Bank D g) D → Type 0
  IsBankStill old new = AreRelated (λ b c. c ≡ b) (λ d e. Unit {0}) old new

  -- So many calls changed or synced the disk that was not in use, if it is honest, and two more if
  -- it was to be closed first; it is in use now, and the other one is as it was.
  abbrev pub IsRenewedBy : ℕ → Disks (Bank D g) D → Disks (Bank D g) D → Type 0
  IsRenewedBy calls old new =
      AreSwapped (λ b d. d ≡ b.disk)
      (λ d b. g.honest d → TakesCalls calls (g.view d) (g.view b.disk)) old new

  -- The bank in use is as it was. Two calls changed or synced the other disk, if it is honest, and
  -- two more if its gate was to be closed first.
  abbrev pub IsClearedBy : Disks (Bank D g) D → Disks (Bank D g) D → Type 0
  IsClearedBy old new =
      AreRelated (λ b c. c ≡ b) (λ d e. g.honest d → TakesCalls 2 (g.view d) (g.view e)) old new

  -- Crashes at any moment of a call leave two images that have P.
  abbrev pub AlwaysLeave : Disks (Bank D g) D → Disks (Bank D g) D → (List ℕ → List ℕ → Type 0)
      → Type 0
  AlwaysLeave old new P = BothHonest old → PairsSince (both_of old) (both_of new) P

  -- Crashes now leave the state.
  abbrev pub StandNow : Disks (Bank D g) D → State → Type 0
  StandNow disks st = BothHonest disks → PairsNow (both_of disks) (StandsFor st)

  -- Calls on both disks of a server, for a state that stays as it is; if a snapshot in steps goes
  -- on, `begun` is what is known of it.
  pub record RunsOnBoth {T F : Type 0} (begun : Type 0) (st : State) (device : F)
      (old : Disks (Bank D g) D) (result : Result T F) (new : Disks (Bank D g) D) : Type 0 where
    -- Crashes at any moment leave the state;
    pub any_moment : begun → BothHonest old → IsUpFor old st
        → PairsSince (both_of old) (both_of new) (λ left right. Stands left right st)
    -- at Ok the bank in use represents it, whichever it is.
    pub kept : begun → IsKeptFor old st → OnOk result (IsKeptFor new st)
    pub there : is_there new ≡ true
    pub ready : OnOk result (is_usable new ≡ true)
    pub limit : OnOk result (limit_in_use new ≡ limit_in_use old)
    pub honest : BothHonest old ↔ BothHonest new
    -- A fault is that of the device exactly if one of the disks counted one.
    pub cause : IfErr result
        (λ fault. TellsFailures device fault (failures_of old) (failures_of new))
