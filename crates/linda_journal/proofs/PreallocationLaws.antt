-- A bank with more after its end.
use Rattle.std.proofs.Common.{◌≡◌, ℕ, true, false, Bool, List, ◌∷◌, ◌++◌, length, take, drop, refl, sym, ap, ◌∙◌, append_assoc}
use Rattle.std.proofs.lemmas.List.{take-append-drop, take_at}
use Rattle.std.proofs.Math.Seq.{take-length}
use Rattle.linda_tuple.specs.declared.form.Form.{Form}
use Rattle.linda_store_state.specs.declared.deed.Deed.{Deed}
use Rattle.linda_disk.specs.View.{View, IsDurable}
use Rattle.linda_disk.specs.Run.{LeavesOnly}
use Rattle.linda_disk.specs.Lengthens.{Begins, HasMore}
use Rattle.linda_disk.proofs.RunLaws.{weaker}
use Rattle.linda_journal.specs.Records.{spell_records}
use Rattle.linda_journal.specs.Bank.{IsBank, IsSettled, head}

-- What has more begins with what was there.
pub begins : (old bytes new : List ℕ) (b : Bool) → HasMore old bytes b new → Begins old new
begins old bytes new true is = ap (take (length old)) is ∙ take_at old bytes (length old) refl
begins old bytes new false is = ap (take (length old)) is ∙ take-length old

module _ (form : Form) (generation : ℕ) (body : List ℕ) (records : List (List Deed)) where
  -- A file that begins with a bank is that bank.
  pub same_bank : (seen file : List ℕ) → IsBank form seen generation body records → Begins seen file → IsBank form file generation body records
  same_bank seen file bank starts =
      let tail : List ℕ = drop (length seen) file in
      let whole : file ≡ seen ++ tail = sym (take-append-drop (length seen) file) ∙ ap (λ l. l ++ tail) starts in
      let journal = bank.journal in
      record {
        low = bank.low;
        fits = bank.fits;
        short = bank.short;
        rest = bank.rest ++ tail;
        parts = whole ∙ ap (λ l. l ++ tail) bank.parts ∙ append_assoc (head form generation body) bank.rest tail;
        journal = record {
          gate = journal.gate;
          rest = journal.rest ++ tail;
          parts = ap (λ l. l ++ tail) journal.parts ∙ append_assoc (spell_records form records) (journal.gate ∷ journal.rest) tail;
          closed = journal.closed;
          good = journal.good;
        };
      }

  -- So it is at each moment,
  pub same_since : (end : ℕ) (old new : View) → IsSettled form generation body records end old
      → LeavesOnly old new (Begins old.seen) → LeavesOnly old new (λ file. IsBank form file generation body records)
  same_since end old new settled run =
      weaker old new (Begins old.seen) (λ file. IsBank form file generation body records) run (λ image starts. same_bank old.seen image settled.file starts)

  -- and at the end.
  pub same_settled : (end : ℕ) (old new : View) → IsSettled form generation body records end old
      → Begins old.seen new.seen → IsDurable new → IsSettled form generation body records end new
  same_settled end old new settled starts durable = record {
    file = same_bank old.seen new.seen settled.file starts;
    place = settled.place;
    durable = durable;
  }
