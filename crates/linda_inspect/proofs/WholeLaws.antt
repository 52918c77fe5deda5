-- A bank that is stored beside an empty disk represents its state.
use Rattle.std.proofs.Common.{◌≡◌, ◌∙◌, ℕ, Bool, true, false, List, [], ◌∷◌, sym, subst}
use Rattle.linda_tuple.specs.declared.form.Form.{Form}
use Rattle.linda_store_state.specs.State.{State}
use Rattle.linda_disk.specs.View.{View}
use Rattle.linda_journal.specs.Bank.{IsBank}
use Rattle.linda_snap.specs.Snapshot.{spell_state}
use Rattle.linda_snap.specs.Stands.{IsStored, StandsOn}
use Rattle.linda_snap.specs.Choice.{chosen}

not_empty : (x : ℕ) (xs : List ℕ) → x ∷ xs ≡ [] → ⊥
not_empty x xs e = let bad : x ∷ xs ≡ [] = e in cc

pub alone : (file : List ℕ) (right : Bool) (form : Form) (generation end : ℕ) (v : View) (st : State) → IsStored form generation end v st
    → v.seen ≡ chosen right file [] → StandsOn file generation st
alone file false form generation end v st stored seen = record {
  form = form;
  opening = stored.opening;
  ranges = stored.ranges;
  fits = stored.fits;
  records = stored.records;
  bank = subst (λ (b : List ℕ). IsBank form b generation (spell_state form stored.opening) stored.records) seen stored.settled.file;
  done = stored.done;
}
alone file true form generation end v st stored seen = absurd (not_empty _ _ (sym stored.settled.file.parts ∙ seen))
