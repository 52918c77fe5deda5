-- Reading a journal record after record, and what the reading decides.
use Rattle.std.proofs.Common.{◌≡◌, ◌≢◌, ℕ, ◌+◌, ◌-◌, ◌<◌, List, [], ◌∷◌, ◌++◌, All, map, length, drop, Result, Ok, Err}
use Rattle.std.proofs.Common.{refl, sym, ap, subst, ◌∙◌, append_assoc, length-append, arith}
use Rattle.std.specs.Prelude.{IfOk, IfErr}
use Rattle.std.proofs.lemmas.List.{map-append, flat_map_more, length-drop}
use Rattle.std.proofs.lemmas.List.Elements.{All-nil}
use Rattle.linda_tuple.specs.declared.form.Form.{Form}
use Rattle.linda_store_state.specs.declared.deed.Deed.{Deed}
use Rattle.linda_journal.specs.declared.kinds.TheConstants.{OPEN}
use Rattle.linda_journal.specs.declared.record.Record.{Record}
use Rattle.linda_journal.specs.declared.journal.Journal.{Journal}
use Rattle.linda_journal.specs.declared.journal.JournalFault.{JournalFault}
use Rattle.linda_journal.specs.declared.journal.JournalFault.TheVariants.{Memory, Damaged}
use Rattle.linda_journal.specs.Records.{IsRecord, record_body, spell_record, spell_records}
use Rattle.linda_journal.specs.Journal.{IsJournal, IsNoRecord, IsDamaged, deeds_of, places, AreAt, IsFaultOf}
use Rattle.linda_journal.proofs.PayloadLaws.{all_with}
use Rattle.linda_journal.proofs.RecordLaws.{one_journal, one_place, not_both}

-- ---- while records are read

-- These records were read from the front of the bytes, and that is left.
pub record IsReadUpTo (form : Form) (bytes : List ℕ) (at : ℕ) (rs : List Record) (rest : List ℕ) : Type 0 where
  pub parts : bytes ≡ spell_records form (deeds_of rs) ++ rest
  pub good : All (IsRecord form) (deeds_of rs)
  pub some : 0 < length rest
  pub there : AreAt form at rs

pub nothing_read : (form : Form) (bytes rest : List ℕ) (at : ℕ) (rs : List Record) → rs ≡ [] → rest ≡ bytes
    → 0 < length bytes → IsReadUpTo form bytes at rs rest
nothing_read form bytes rest at rs none same some =
    subst (λ l. IsReadUpTo form bytes at l rest) (sym none) record {
      parts = sym same;
      good =
          All-nil (IsRecord form);
      some = subst (λ l. 0 < length l) (sym same) some;
      there = refl;
    }

places_with : (form : Form) (at : ℕ) (rs : List (List Deed)) (ds : List Deed)
    → places form at (rs ++ ds ∷ []) ≡ places form at rs ++ (at + length (spell_records form rs)) ∷ []
places_with form at [] ds = let e : at ≡ at + 0 = omega arith in ap (λ n. n ∷ []) e
places_with form at (r ∷ rs) ds =
    let e : (at + length (spell_record form r)) + length (spell_records form rs) ≡ at + length (spell_record form r ++ spell_records form rs) =
    omega (arith, length-append (spell_record form r) (spell_records form rs)) in
    ap (λ l. at ∷ l) (places_with form (at + length (spell_record form r)) rs ds ∙ ap (λ n. places form (at + length (spell_record form r)) rs ++ n ∷ []) e)

pub one_record_more : (form : Form) (bytes : List ℕ) (at : ℕ) (rs : List Record) (rest behind : List ℕ) (r : Record) (after : List ℕ)
    → IsReadUpTo form bytes at rs rest → rest ≡ OPEN ∷ behind
    → IsRecord form r.deeds.items → behind ≡ record_body form r.deeds.items ++ after → 0 < length after
    → r.gate ≡ at + length (spell_records form (deeds_of rs)) → IsReadUpTo form bytes at (rs ++ r ∷ []) after
one_record_more form bytes at rs rest behind r after so_far starts is stands some gate =
    let ds : List Deed = r.deeds.items in
    let more : deeds_of (rs ++ r ∷ []) ≡ deeds_of rs ++ ds ∷ [] = map-append (λ (x : Record). x.deeds.items) rs (r ∷ []) in
    let parts : bytes ≡ spell_records form (deeds_of rs ++ ds ∷ []) ++ after =
    so_far.parts
    ∙ ap (λ l. spell_records form (deeds_of rs) ++ l) (starts ∙ ap (λ l. OPEN ∷ l) stands)
    ∙ sym (append_assoc (spell_records form (deeds_of rs)) (spell_record form ds) after)
    ∙ ap (λ s. s ++ after) (flat_map_more (spell_record form) [] (deeds_of rs) ds)
    in
    let there : map (λ (x : Record). x.gate) (rs ++ r ∷ []) ≡ places form at (deeds_of rs ++ ds ∷ []) =
    map-append (λ (x : Record). x.gate) rs (r ∷ [])
    ∙ ap (λ l. l ++ r.gate ∷ []) so_far.there
    ∙ ap (λ n. places form at (deeds_of rs) ++ n ∷ []) gate
    ∙ sym (places_with form at (deeds_of rs) ds)
    in
    record {
      parts = parts ∙ ap (λ l. spell_records form l ++ after) (sym more);
      good = subst (All (IsRecord form)) (sym more) (all_with (IsRecord form) (deeds_of rs) ds so_far.good is);
      some = some;
      there = there ∙ ap (places form at) (sym more);
    }

-- The offset of what is left.
pub offset_is : (form : Form) (whole : List ℕ) (at : ℕ) (rs : List Record) (rest : List ℕ) → at < length whole
    → IsReadUpTo form (drop at whole) at rs rest → length whole - length rest ≡ at + length (spell_records form (deeds_of rs))
offset_is form whole at rs rest within so_far =
    let n : length (drop at whole) ≡ length (spell_records form (deeds_of rs)) + length rest =
    ap length so_far.parts ∙ length-append (spell_records form (deeds_of rs)) rest in
    omega (arith, n, length-drop at whole)

-- ---- when the reading ends

-- What is left begins with a gate that is not open.
pub ends_here : (form : Form) (bytes : List ℕ) (at : ℕ) (rs : List Record) (rest : List ℕ)
    → IsReadUpTo form bytes at rs rest → ((behind : List ℕ) → rest ≡ OPEN ∷ behind → ⊥) → IsJournal form bytes (deeds_of rs)
ends_here form bytes at rs rest so_far closed = by rest so_far.parts so_far.some closed
  where
    by : (rest : List ℕ) → bytes ≡ spell_records form (deeds_of rs) ++ rest → 0 < length rest
        → ((behind : List ℕ) → rest ≡ OPEN ∷ behind → ⊥) → IsJournal form bytes (deeds_of rs)
    by [] parts some closed = absurd (omega (arith, some))
    by (gate ∷ more) parts some closed =
        record { gate = gate; rest = more; parts = parts; closed = λ e. closed more (ap (λ g. g ∷ more) e); good = so_far.good }

-- What is left begins with an open gate, and no record comes after it.
pub damaged_here : (form : Form) (bytes : List ℕ) (at : ℕ) (rs : List Record) (rest behind : List ℕ) → IsReadUpTo form bytes at rs rest
    → rest ≡ OPEN ∷ behind → IsNoRecord form behind → IsDamaged form bytes (length (spell_records form (deeds_of rs)))
damaged_here form bytes at rs rest behind so_far starts bad =
    record {
      records = deeds_of rs;
      behind = behind;
      parts = so_far.parts
          ∙ ap (λ l. spell_records form (deeds_of rs) ++ l) starts;
      good = so_far.good;
      place_is = refl;
      bad = bad;
    }

-- ---- no other reading

pub only_these : (form : Form) (bytes : List ℕ) (at : ℕ) (result : Result Journal JournalFault)
    → IfOk result (λ j. IsJournal form bytes (deeds_of j.records.items)) → IfErr result (IsFaultOf form bytes at)
    → (rs : List (List Deed)) → IsJournal form bytes rs → IfOk result (λ j. deeds_of j.records.items ≡ rs) × IfErr result (λ f. f ≡ Memory)
only_these form bytes at (Ok j) found fault rs is = (one_journal form bytes (deeds_of j.records.items) rs found is, tt)
only_these form bytes at (Err Memory) found fault rs is = (tt, refl)
only_these form bytes at (Err (Damaged offset)) found fault rs is = absurd (not_both form bytes rs fault.0 is fault.2)

pub only_there : (form : Form) (bytes : List ℕ) (at : ℕ) (result : Result Journal JournalFault)
    → IfOk result (λ j. IsJournal form bytes (deeds_of j.records.items)) → IfErr result (IsFaultOf form bytes at)
    → (place : ℕ) → IsDamaged form bytes place → IfOk result (λ j. ⊥) × IfErr result (λ f. f ≢ Memory → f ≡ Damaged (at + place))
only_there form bytes at (Ok j) found fault place is = (not_both form bytes (deeds_of j.records.items) place found is, tt)
only_there form bytes at (Err Memory) found fault place is = (tt, λ never. absurd (never refl))
only_there form bytes at (Err (Damaged offset)) found fault place is =
    (tt, λ _. ap (λ n. Damaged n) (fault.1 ∙ ap (λ p. at + p) (one_place form bytes fault.0 place fault.2 is)))
