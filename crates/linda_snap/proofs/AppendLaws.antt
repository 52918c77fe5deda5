-- One more record on the bank in use: which state the bank represents then.
use Rattle.std.proofs.Common.{◌≡◌, ℕ, ◌⊎◌, inl, inr, List, [], ◌∷◌, ◌++◌, refl, sym, ap, subst, append_assoc, append-nil}
use Rattle.std.proofs.lemmas.List.{flat_map_more}
use Rattle.linda_tuple.specs.declared.form.Form.{Form}
use Rattle.linda_store_state.specs.declared.deed.Deed.{Deed}
use Rattle.linda_store_state.specs.State.{State, IsState}
use Rattle.linda_store_state.specs.After.{IsAfter}
use Rattle.linda_store_state.specs.Proper.{IsProper, AreDone}
use Rattle.linda_store_state.proofs.AfterLaws.{none_after, one_after, joined_after}
use Rattle.linda_store_state.proofs.ProperLaws.{front_proper, reached, takes_below, proper_state, more_done}
use Rattle.linda_disk.specs.View.{View}
use Rattle.linda_journal.specs.Bank.{IsSettled, IsOldOrMore}
use Rattle.linda_snap.specs.Snapshot.{spell_state}
use Rattle.linda_snap.specs.Stands.{deeds_in, IsInUse, IsUp}

-- Deeds that begin in the state in which others ended are done with them as one list.
pub joined_done : (st mid new : State) (ds es : List Deed) → IsState st → AreDone st ds mid → AreDone mid es new → AreDone st (ds ++ es) new
joined_done st mid new ds [] is first second =
    let same : mid ≡ new = one_after mid [] mid new (none_after mid (proper_state st mid ds is first.proper first.after)) second.after in
    subst (AreDone st (ds ++ [])) same (subst (λ l. AreDone st l mid) (sym (append-nil ds)) first)
joined_done st mid new ds (d ∷ es) is first second =
    let is_mid = proper_state st mid ds is first.proper first.after in
    let one : IsProper mid (d ∷ []) = front_proper mid (d ∷ []) es second.proper in
    let step = reached mid (d ∷ []) is_mid one in
    let below = takes_below mid (d ∷ []) is_mid one in
    let proper : IsProper step.new es =
    λ before other later at split after. second.proper (d ∷ before) other later at (ap (λ l. d ∷ l) split)
    (joined_after mid step.new at (d ∷ []) before step.after after below)
    in
    let last = reached step.new es step.state proper in
    let same : last.new ≡ new = one_after mid (d ∷ es) last.new new (joined_after mid step.new last.new (d ∷ []) es step.after last.after below) second.after in
    let rest : AreDone step.new es new = record { proper = proper; after = subst (IsAfter step.new es) same last.after } in
    let more = more_done st mid step.new ds d is first (second.proper [] d es mid refl (none_after mid is_mid)) step.after in
    subst (λ l. AreDone st l new) (append_assoc ds (d ∷ []) es) (joined_done st step.new new (ds ++ d ∷ []) es is more rest)

deeds_more : (records : List (List Deed)) (ds : List Deed) → deeds_in records ++ ds ≡ deeds_in (records ++ ds ∷ [])
deeds_more records ds = flat_map_more (λ (l : List Deed). l) [] records ds

more_from : (opening st new : State) (records : List (List Deed)) (ds : List Deed) → IsState opening
    → AreDone opening (deeds_in records) st → AreDone st ds new → AreDone opening (deeds_in (records ++ ds ∷ [])) new
more_from opening st new records ds ranges first second =
    subst (λ l. AreDone opening l new) (deeds_more records ds) (joined_done opening st new (deeds_in records) ds ranges first second)

-- What an append leaves of the bank in use represents the old state or the new one.
pub stands_with : (file other : List ℕ) (st new : State) (ds : List Deed) (used : IsInUse file other st) → AreDone st ds new → (image : List ℕ)
    → IsOldOrMore used.stands.form used.generation (spell_state used.stands.form used.stands.opening) used.stands.records ds image
    → IsInUse image other st ⊎ IsInUse image other new
stands_with file other st new ds used done image (inl bank) = inl record {
  generation = used.generation;
  stands = record {
    form = used.stands.form;
    opening = used.stands.opening;
    ranges = used.stands.ranges;
    fits = used.stands.fits;
    records = used.stands.records;
    bank = bank;
    done = used.stands.done;
  };
  lesser = used.lesser;
}
stands_with file other st new ds used done image (inr bank) = inr record {
  generation = used.generation;
  stands = record {
    form = used.stands.form;
    opening = used.stands.opening;
    ranges = used.stands.ranges;
    fits = used.stands.fits;
    records = used.stands.records ++ ds ∷ [];
    bank = bank;
    done = more_from used.stands.opening st new used.stands.records ds used.stands.ranges used.stands.done done;
  };
  lesser = used.lesser;
}

-- And once it is done, it is up for the new one.
pub up_with : (form : Form) (generation end new_end : ℕ) (used other v : View) (st new : State) (ds : List Deed)
    (up : IsUp form generation end used other st) → AreDone st ds new
    → IsSettled form generation (spell_state form up.stored.opening) (up.stored.records ++ ds ∷ []) new_end v → IsUp form generation new_end v other new
up_with form generation end new_end used other v st new ds up done settled = record {
  stored = record {
    opening = up.stored.opening;
    ranges = up.stored.ranges;
    fits = up.stored.fits;
    records = up.stored.records ++ ds ∷ [];
    settled = settled;
    done = more_from up.stored.opening st new up.stored.records ds up.stored.ranges up.stored.done done;
  };
  lesser = up.lesser;
  durable = up.durable;
}
