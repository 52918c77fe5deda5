-- A bank that is stored on a file represents its state.
use Rattle.std.proofs.Common.{◌≡◌, ℕ, List, subst}
use Rattle.linda_tuple.specs.declared.form.Form.{Form}
use Rattle.linda_store_state.specs.State.{State}
use Rattle.linda_disk.specs.View.{View}
use Rattle.linda_journal.specs.Bank.{IsBank}
use Rattle.linda_snap.specs.Snapshot.{spell_state}
use Rattle.linda_snap.specs.Stands.{IsStored}
use Rattle.linda_inspect.specs.Object.{IsBankFor}

abbrev pub bank_for : (file : List ℕ) (form : Form) (generation end : ℕ) (v : View) (st : State)
    → IsStored form generation end v st → v.seen ≡ file → IsBankFor file form generation end st
bank_for file form generation end v st stored seen = record {
  opening = stored.opening;
  records = stored.records;
  bank = subst (λ (b : List ℕ). IsBank form b generation (spell_state form stored.opening) stored.records) seen stored.settled.file;
  place = stored.settled.place;
  done = stored.done;
}
