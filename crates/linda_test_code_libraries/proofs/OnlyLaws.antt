-- Bytes that are a journal or a bank are no other.
use Rattle.std.proofs.Common.{◌≡◌, ℕ, List, [], ◌∷◌, ◌++◌, All, length, refl, sym, ap, ◌∙◌, append-nil, lit≤, arith}
use Rattle.std.proofs.lemmas.List.Elements.{All-nil, All-cons}
use Rattle.linda_tuple.specs.declared.form.Form.{Form}
use Rattle.linda_store_state.specs.declared.deed.Deed.{Deed}
use Rattle.linda_journal.specs.declared.kinds.TheConstants.{OPEN}
use Rattle.linda_journal.specs.Records.{FitsDeed, IsRecord, deeds_in, record_body, records_for, spell_record, spell_records}
use Rattle.linda_journal.specs.Journal.{IsJournal}
use Rattle.linda_journal.specs.Bank.{IsBank}
use Rattle.linda_journal.proofs.RecordLaws.{one_journal}
use Rattle.linda_journal.proofs.ImageLaws.{one_bank}
use Rattle.linda_test_code_libraries.specs.Only.{AreRecords, AreAppended, AreBank}

pub only_journal : (form : Form) (records : List (List Deed)) (bytes : List ℕ) → IsJournal form bytes records → AreRecords form records bytes
only_journal form records bytes is = record { journal = is; only = λ rs other. one_journal form bytes rs records other is }

pub only_bank : (form : Form) (generation : ℕ) (body : List ℕ) (records : List (List Deed)) (bytes : List ℕ)
    → IsBank form bytes generation body records → AreBank form generation body records bytes
only_bank form generation body records bytes is =
    record { bank = is; only = λ f g b rs other. one_bank bytes f form g generation b body rs records other is }

-- A record of one deed, and of two.
pub one_deed : (form : Form) (d : Deed) → FitsDeed form d → IsRecord form (d ∷ [])
one_deed form d fits = record { some = lit≤ tt; few = lit≤ tt; fits = All-cons (FitsDeed form) d [] fits (All-nil (FitsDeed form)) }

pub two_deeds : (form : Form) (d more : Deed) → FitsDeed form d → FitsDeed form more → IsRecord form (d ∷ more ∷ [])
two_deeds form d more fits too =
    record {
      some = lit≤ tt;
      few = lit≤ tt;
      fits =
          All-cons (FitsDeed form) d (more ∷ []) fits (All-cons (FitsDeed form) more [] too (All-nil (FitsDeed form)));
    }

pub one_record : (form : Form) (ds : List Deed) → IsRecord form ds → All (IsRecord form) (ds ∷ [])
one_record form ds is = All-cons (IsRecord form) ds [] is (All-nil (IsRecord form))

pub two_records : (form : Form) (ds more : List Deed) → IsRecord form ds → IsRecord form more → All (IsRecord form) (ds ∷ more ∷ [])
two_records form ds more one two = All-cons (IsRecord form) ds (more ∷ []) one (one_record form more two)

-- A gate that is closed ends the journal.
pub closed_journal : (form : Form) (records : List (List Deed)) → All (IsRecord form) records → IsJournal form (spell_records form records ++ 0 ∷ []) records
closed_journal form records good = record { gate = 0; rest = []; parts = refl; closed = λ e. omega (arith, e); good = good }

-- Deeds that one record has are in no other records.
in_one : (ds : List Deed) (rs : List (List Deed)) → length rs ≡ 1 → deeds_in rs ≡ ds → rs ≡ ds ∷ []
in_one ds [] count all = absurd cc
in_one ds (r ∷ []) count all = ap (λ l. l ∷ []) (sym (append-nil r) ∙ all)
in_one ds (r ∷ q ∷ rs) count all = absurd cc

-- What is appended of so few deeds is one record and a closed gate, and nothing else.
pub only_append : (form : Form) (ds : List Deed) → records_for (length ds) ≡ 1 → IsRecord form ds → AreAppended form ds (spell_record form ds ++ 0 ∷ [])
only_append form ds one good = record {
  spelled = record {
    records = ds ∷ [];
    are = record { all = append-nil ds; count = sym one };
    good = one_record form ds good;
    behind = record_body form ds;
    starts = append-nil (spell_record form ds);
    bytes_are = refl;
  };
  only = λ bytes is.
      let same : is.records ≡ ds ∷ [] = in_one ds is.records (is.are.count ∙ one) is.are.all in
      let front : OPEN ∷ is.behind ≡ spell_record form ds = sym is.starts ∙ ap (spell_records form) same ∙ append-nil (spell_record form ds) in
      is.bytes_are ∙ ap (λ l. l ++ 0 ∷ []) front;
}
