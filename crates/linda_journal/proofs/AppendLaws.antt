-- Deeds of one record, as all that are added.
use Rattle.std.proofs.Common.{ℕ, ◌+◌, ◌≤◌, ◌⊎◌, inl, inr, List, [], ◌∷◌, ◌++◌, length, sym, subst, Result, Ok, Err, OnOk}
use Rattle.linda_tuple.specs.declared.form.Form.{Form}
use Rattle.linda_store_state.specs.declared.deed.Deed.{Deed}
use Rattle.linda_disk.specs.View.{View}
use Rattle.linda_journal.specs.declared.limits.TheConstants.{MAX_DEEDS}
use Rattle.linda_journal.specs.Bank.{IsBank, IsSettled, IsSettledWithAll, IsOldOrMore, IsOldOrAll}
use Rattle.linda_journal.specs.Records.{payload, spell_record, bytes_for, IsUnspelled}
use Rattle.linda_journal.proofs.SpellLaws.{one_record, one_long}

module _ (form : Form) (generation : ℕ) (body : List ℕ) (records : List (List Deed)) (ds : List Deed) (some : 1 ≤ length ds) (few : length ds ≤ MAX_DEEDS) where
  pub old_or_one : (file : List ℕ) → IsOldOrAll form generation body records ds file → IsOldOrMore form generation body records ds file
  old_or_one file (inl old) = inl old
  old_or_one file (inr new) = inr (subst (λ more. IsBank form file generation body (records ++ more)) (one_record ds new.0 new.1 some few) new.2)

  pub settled_with_one : (end : ℕ) (v : View) → IsSettledWithAll form generation body records ds end v
      → IsSettled form generation body (records ++ ds ∷ []) end v
  settled_with_one end v s = subst (λ more. IsSettled form generation body (records ++ more) end v) (one_record ds s.more s.are some few) s.settled

-- They are too much for a bank exactly if their record is.
module _ (form : Form) (ds : List Deed) (end limit : ℕ) (some : 1 ≤ length ds) (few : length ds ≤ MAX_DEEDS) where
  pub past_one : IsUnspelled form ds ⊎ (limit ≤ end + bytes_for (length ds) (length (payload form ds)))
      → IsUnspelled form ds ⊎ (limit ≤ end + length (spell_record form ds))
  past_one = subst (λ n. IsUnspelled form ds ⊎ (limit ≤ end + n)) (one_long form ds some few)

  pub past_one_back : IsUnspelled form ds ⊎ (limit ≤ end + length (spell_record form ds))
      → IsUnspelled form ds ⊎ (limit ≤ end + bytes_for (length ds) (length (payload form ds)))
  past_one_back = subst (λ n. IsUnspelled form ds ⊎ (limit ≤ end + n)) (sym (one_long form ds some few))

-- What follows from a fact at Ok is a fact at Ok.
pub on_ok : {T E : Type 0} (r : Result T E) (P Q : Type 0) → (P → Q) → OnOk r P → OnOk r Q
on_ok (Ok x) P Q goes p = goes p
on_ok (Err e) P Q goes p = tt
