-- Calls of a bank: it is opened, or a record is added to it.
use Rattle.std.specs.Prelude.{◌≡◌, ◌≢◌, ℕ, ◌+◌, ◌<◌, ◌≤◌, ◌⊎◌, ◌↔◌, true, false, List, [], ◌∷◌}
use Rattle.std.specs.Prelude.{◌++◌, All, length}
use Rattle.std.specs.Prelude.{Result, IfOk, IfErr, OnOk, IsErrOf}
use Rattle.std.specs.Global.{Vec}
use Rattle.linda_tuple.specs.declared.form.Form.{Form}
use Rattle.linda_store_state.specs.declared.deed.Deed.{Deed}
use Rattle.linda_disk.specs.declared.disk.Disk.{Ghosts}
use Rattle.linda_disk.specs.Disk.{TellsFailures}
use Rattle.linda_disk.specs.Run.{LeavesOnly}
use Rattle.linda_journal.specs.declared.bank.Bank.{Bank}
use Rattle.linda_journal.specs.declared.limits.TheConstants.{MIN_BYTES}
use Rattle.linda_journal.specs.declared.record.Record.{Record}
use Rattle.linda_journal.specs.declared.fault.BankFault.{BankFault}
use Rattle.linda_journal.specs.declared.fault.BankFault.TheVariants as faults
use Rattle.linda_journal.specs.Records.{spell_record, payload, SuitsForm, IsUnspelled}
use Rattle.linda_journal.specs.Records.{records_for, bytes_for}
use Rattle.linda_journal.specs.Journal.{AreAt, deeds_of}
use Rattle.linda_journal.specs.Bank.{IsBank, IsSettled, IsSettledWithAll, IsOldOrMore, IsOldOrAll}
use Rattle.linda_journal.specs.Image.{IsFaultOfBank}

module _ {D : Type 0} {g : Ghosts D} where
  -- The bank that the disk holds was opened, with its body and the records of its journal, or it
  -- was not, and the disk is handed back. At Ok the disk's clock shows this moment (`open`,
  -- `open_synced`).
  pub record Opens (disk : D) (limit moment : ℕ)
      (result : Result (Bank D g × Vec ℕ × Vec Record) (BankFault × D)) : Type 0 where
    -- What is opened is what the disk read at entry, all of it synced.
    pub found : g.honest disk → IfOk result (λ o.
        IsSettled o.0.form o.0.generation o.1.items (deeds_of o.2.items) o.0.end (g.view o.0.disk))
    pub seen : g.honest disk → IfOk result (λ o. (g.view o.0.disk).seen ≡ (g.view disk).seen)
    pub gates : IfOk result (λ o. AreAt o.0.form (MIN_BYTES + length o.1.items) o.2.items)
    pub new : IfOk result
        (λ o. (o.0.records ≡ length o.2.items) × (o.0.limit ≡ limit) × (o.0.is_spent ≡ false))
    -- A fault is one of those bytes.
    pub fault : g.honest disk
        → IfErr result (λ e. e.0 ≢ faults.Disk → IsFaultOfBank (g.view disk).seen e.0)
    -- A crash at any moment leaves only what it could leave at entry.
    pub any_moment : g.honest disk
        → IfOk result (λ o. LeavesOnly (g.view disk) (g.view o.0.disk) (g.view disk).may_leave)
        × IfErr result (λ e. LeavesOnly (g.view disk) (g.view e.1) (g.view disk).may_leave)
    pub honest : IfOk result (λ o. g.honest disk ↔ g.honest o.0.disk)
        × IfErr result (λ e. g.honest disk ↔ g.honest e.1)
    -- A bank that is there is opened, or the device failed, or memory ran out.
    pub only : (form : Form) (generation : ℕ) (body : List ℕ) (records : List (List Deed))
        → g.honest disk → IsBank form (g.view disk).seen generation body records
        → IfOk result (λ o. (o.0.form ≡ form) × (o.0.generation ≡ generation) × (o.1.items ≡ body)
        × (deeds_of o.2.items ≡ records))
        × IfErr result (λ e. (e.0 ≡ faults.Disk) ⊎ (e.0 ≡ faults.Memory))
    -- The count of failures rises if the device is reported to have failed, and only then.
    pub cause : IfErr result (λ e. TellsFailures faults.Disk e.0 (g.failures disk) (g.failures e.1))
    pub steady : IfOk result (λ o. g.failures o.0.disk ≡ g.failures disk)
    pub clock : g.honest disk → IfOk result (λ o. (g.view o.0.disk).moment ≡ moment)

  -- A record of these deeds was added to the bank's journal, or it was not (`append`).
  pub record Appends (old : Bank D g) (deeds : List Deed) (result : Result (Unit {0}) BankFault)
      (new : Bank D g) : Type 0 where
    -- A crash at any moment leaves the old records, or these and the new one;
    pub any_moment : (body : List ℕ) (records : List (List Deed)) → g.honest old.disk
        → IsSettled old.form old.generation body records old.end (g.view old.disk)
        → LeavesOnly (g.view old.disk) (g.view new.disk)
        (IsOldOrMore old.form old.generation body records deeds)
    -- at Ok it leaves the new one.
    pub done : (body : List ℕ) (records : List (List Deed)) → g.honest old.disk
        → IsSettled old.form old.generation body records old.end (g.view old.disk)
        → OnOk result (IsSettled new.form new.generation body (records ++ deeds ∷ []) new.end
        (g.view new.disk))
    pub place : OnOk result (new.end ≡ old.end + length (spell_record old.form deeds))
    pub count : OnOk result (new.records ≡ old.records + 1)
    pub ready : OnOk result (new.is_spent ≡ false)
    -- It is Full exactly if the bank is not spent, and one of the deeds has no spelling in its form
    -- or the closed gate after the new record would pass the limit; nothing changed then.
    pub fits : OnOk result (All (SuitsForm old.form) deeds)
    pub room : OnOk result (new.end < new.limit)
    pub full : IsErrOf result faults.Full ↔ (old.is_spent ≡ false)
        × (IsUnspelled old.form deeds
        ⊎ (old.limit ≤ old.end + length (spell_record old.form deeds)))
    pub unfilled : IsErrOf result faults.Full → new ≡ old
    pub spent : IsErrOf result faults.Spent ↔ (old.is_spent ≡ true)
    pub unspent : old.is_spent ≡ true → new ≡ old
    -- The count of failures rises if the device is reported to have failed, and only then.
    pub cause : IfErr result
        (λ fault. TellsFailures faults.Disk fault (g.failures old.disk) (g.failures new.disk))
    pub steady : OnOk result (g.failures new.disk ≡ g.failures old.disk)
    -- It is four device calls that change or sync the disk.
    pub clock : g.honest old.disk
        → OnOk result ((g.view new.disk).moment ≡ (g.view old.disk).moment + 4)
    pub off : IsErrOf result faults.Disk → new.is_spent ≡ true
    -- If memory runs out before the first device call, nothing changes; if after it, the bank is
    -- spent.
    pub memory : IsErrOf result faults.Memory → (new ≡ old) ⊎ (new.is_spent ≡ true)
    pub known : (IsErrOf result faults.NoBank → ⊥)
        × ((offset : ℕ) → IsErrOf result (faults.Damaged offset) → ⊥)
    pub same : (new.form ≡ old.form) × (new.generation ≡ old.generation) × (new.limit ≡ old.limit)
    pub honest : g.honest old.disk ↔ g.honest new.disk

  -- The records of these deeds were added to the bank's journal, or none of them (`append_all`).
  pub record AppendsAll (old : Bank D g) (deeds : List Deed) (result : Result (Unit {0}) BankFault)
      (new : Bank D g) : Type 0 where
    -- A crash at any moment leaves the old records, or these and all of the new ones;
    pub any_moment : (body : List ℕ) (records : List (List Deed)) → g.honest old.disk
        → IsSettled old.form old.generation body records old.end (g.view old.disk)
        → LeavesOnly (g.view old.disk) (g.view new.disk)
        (IsOldOrAll old.form old.generation body records deeds)
    -- at Ok it leaves the new ones.
    pub done : (body : List ℕ) (records : List (List Deed)) → g.honest old.disk
        → IsSettled old.form old.generation body records old.end (g.view old.disk)
        → OnOk result (IsSettledWithAll new.form new.generation body records deeds new.end
        (g.view new.disk))
    pub place : OnOk result
        (new.end ≡ old.end + bytes_for (length deeds) (length (payload old.form deeds)))
    pub count : OnOk result (new.records ≡ old.records + records_for (length deeds))
    pub ready : OnOk result (new.is_spent ≡ false)
    -- It is Full exactly if the bank is not spent, and one of the deeds has no spelling in its form
    -- or the closed gate after the new records would pass the limit; nothing changed then.
    pub fits : OnOk result (All (SuitsForm old.form) deeds)
    pub room : OnOk result (new.end < new.limit)
    pub full : IsErrOf result faults.Full ↔ (old.is_spent ≡ false)
        × (IsUnspelled old.form deeds
        ⊎ (old.limit ≤ old.end + bytes_for (length deeds) (length (payload old.form deeds))))
    pub unfilled : IsErrOf result faults.Full → new ≡ old
    pub spent : IsErrOf result faults.Spent ↔ (old.is_spent ≡ true)
    pub unspent : old.is_spent ≡ true → new ≡ old
    -- The count of failures rises if the device is reported to have failed, and only then.
    pub cause : IfErr result
        (λ fault. TellsFailures faults.Disk fault (g.failures old.disk) (g.failures new.disk))
    pub steady : OnOk result (g.failures new.disk ≡ g.failures old.disk)
    -- However many records these are, it is four device calls that change or sync the disk.
    pub clock : g.honest old.disk
        → OnOk result ((g.view new.disk).moment ≡ (g.view old.disk).moment + 4)
    pub off : IsErrOf result faults.Disk → new.is_spent ≡ true
    -- If memory runs out before the first device call, nothing changes; if after it, the bank is
    -- spent.
    pub memory : IsErrOf result faults.Memory → (new ≡ old) ⊎ (new.is_spent ≡ true)
    pub known : (IsErrOf result faults.NoBank → ⊥)
        × ((offset : ℕ) → IsErrOf result (faults.Damaged offset) → ⊥)
    pub same : (new.form ≡ old.form) × (new.generation ≡ old.generation) × (new.limit ≡ old.limit)
    pub honest : g.honest old.disk ↔ g.honest new.disk
