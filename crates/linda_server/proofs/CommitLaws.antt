-- What a bank's fault says to a server that asked for room first.
use Rattle.std.proofs.Common.{◌≡◌, ◌≢◌, ℕ, ◌+◌, ◌<◌, ◌≤◌, ◌⊎◌, inl, inr, Bool, true, false, not, ◌==◌, List, [], ◌∷◌}
use Rattle.std.proofs.Common.{All, length, Result, Err, refl, sym, ap, ◌∙◌, true≢false, arith}
use Rattle.linda_tuple.specs.declared.form.Form.{Form}
use Rattle.linda_store_state.specs.declared.deed.Deed.{Deed}
use Rattle.linda_store_state.specs.DeedFormat.{payload, SuitsForm, IsUnspelled}
use Rattle.linda_disk.specs.Disk.{TellsFailures}
use Rattle.linda_journal.specs.declared.fault.BankFault.{BankFault}
use Rattle.linda_journal.specs.declared.fault.BankFault.TheVariants as banks
use Rattle.linda_journal.specs.Records.{bytes_for}
use Rattle.linda_server.specs.Calls.{room_for}
use Rattle.linda_server.specs.declared.fault.ServeFault.{ServeFault}
use Rattle.linda_server.specs.declared.fault.ServeFault.TheVariants as serves

-- A list that is not empty has an item.
pub some_of : (ds : List Deed) (b : Bool) → b ≡ (length ds == 0) → b ≡ false → 0 < length ds
some_of [] b is some = absurd (true≢false (sym is ∙ some))
some_of (d ∷ ds) b is some = omega arith

-- Of the faults of a bank only that of its device is left.
only_disk : (f : BankFault) → (f ≡ banks.NoBank → ⊥) → ((offset : ℕ) → f ≡ banks.Damaged offset → ⊥)
    → (f ≡ banks.Full → ⊥) → (f ≡ banks.Spent → ⊥) → f ≢ banks.Memory → f ≡ banks.Disk
only_disk banks.NoBank none damaged full spent memory = absurd (none refl)
only_disk (banks.Damaged offset) none damaged full spent memory = absurd (damaged offset refl)
only_disk banks.Full none damaged full spent memory = absurd (full refl)
only_disk banks.Spent none damaged full spent memory = absurd (spent refl)
only_disk banks.Memory none damaged full spent memory = absurd (memory refl)
only_disk banks.Disk none damaged full spent memory = refl

-- Deeds that suit the bank's form and have room are not refused as too much.
never_full : (form : Form) (ds : List Deed) (end limit : ℕ) → All (SuitsForm form) ds → end + room_for (length ds) (length (payload form ds)) ≤ limit
    → IsUnspelled form ds ⊎ (limit ≤ end + bytes_for (length ds) (length (payload form ds))) → ⊥
never_full form ds end limit suit room (inl unspelled) = unspelled suit
never_full form ds end limit suit room (inr past) =
    absurd (omega (arith, room, past))

-- The answer of an append that came to this fault.
abbrev told_by : BankFault → Result (Unit {0}) BankFault
told_by f = Err f

module _ (fault : BankFault) (told : ServeFault) (form : Form) (ds : List Deed) (end limit : ℕ) (is_spent : Bool) (old new other both : ℕ)
    (ready : not is_spent ≡ true) (suit : All (SuitsForm form) ds)
    (room : end + room_for (length ds) (length (payload form ds)) ≤ limit) (both_is : both ≡ old + other) where
  abbrev Told : BankFault → Type 0
  Told f = told_by fault ≡ told_by f

  pub failure_told : (Told banks.Full → (is_spent ≡ false) × (IsUnspelled form ds ⊎ (limit ≤ end + bytes_for (length ds) (length (payload form ds)))))
      → (Told banks.Spent → is_spent ≡ true)
      → (Told banks.NoBank → ⊥) → ((offset : ℕ) → Told (banks.Damaged offset) → ⊥)
      → (told ≡ serves.Disk → fault ≢ banks.Memory) → (told ≢ serves.Disk → fault ≢ banks.Disk)
      → TellsFailures banks.Disk fault old new → TellsFailures serves.Disk told both (new + other)
  failure_told full spent none damaged disk others cause = record {
    cause = λ e.
        let is_disk =
        only_disk fault (λ x. none (ap told_by x)) (λ offset x. damaged offset (ap told_by x))
        (λ x. never_full form ds end limit suit room (full (ap told_by x)).1)
        (λ x. true≢false (sym ready ∙ ap not (spent (ap told_by x)))) (disk e) in
        let rose = cause.cause is_disk in omega (arith, rose, both_is);
    others = λ e. let same = cause.others (others e) in omega (arith, same, both_is);
  }
