-- Doing deeds again, one by one and record by record.
use Rattle.std.proofs.Common.{◌≡◌, ℕ, List, [], ◌∷◌, ◌++◌, length, refl, sym, ap, subst, ◌∙◌, append_assoc, append-nil, arith}
use Rattle.std.proofs.lemmas.List.{flat_map_more, map-append}
use Rattle.std.proofs.lemmas.Grind.{flat_map-append}
use Rattle.linda_store_state.specs.declared.deed.Deed.{Deed}
use Rattle.linda_store_state.specs.State.{State, IsState}
use Rattle.linda_store_state.specs.After.{IsAfter}
use Rattle.linda_store_state.specs.Proper.{IsAllowed, IsProper, AreDone}
use Rattle.linda_store_state.proofs.ProperLaws.{none_done, more_done, never_done}
use Rattle.linda_journal.specs.declared.record.Record.{Record}
use Rattle.linda_journal.specs.Journal.{deeds_of}
use Rattle.linda_snap.specs.Stands.{deeds_in}
use Rattle.linda_snap.specs.Replay.{joined, GoesOn, Stops, IsImproper}

-- ---- deeds

pub nothing_redone : (old now : State) → old ≡ now → GoesOn old [] now
nothing_redone old now same st before is done = subst (λ ds. AreDone st ds now) (sym (append-nil before)) (subst (AreDone st before) same done)

pub one_redone : (old mid new : State) (front : List Deed) (d : Deed) → GoesOn old front mid
    → IsAllowed mid d → IsAfter mid (d ∷ []) new → GoesOn old (front ++ d ∷ []) new
one_redone old mid new front d goes allowed after st before ranges done =
    subst (λ l. AreDone st l new) (append_assoc before front (d ∷ []))
    (more_done st mid new (before ++ front) d ranges (goes st before ranges done) allowed after)

-- If nothing is left after what was done, all was done.
pub all_redone : (old new : State) (ds front rest : List Deed) → front ++ rest ≡ ds → length rest ≡ 0 → GoesOn old front new → GoesOn old ds new
all_redone old new ds front [] parts none goes = subst (λ l. GoesOn old l new) (sym (append-nil front) ∙ parts) goes
all_redone old new ds front (d ∷ rest) parts none goes = absurd (omega (arith, none))

pub stops_here : (old mid : State) (ds front : List Deed) (d : Deed) (rest : List Deed) → front ++ d ∷ rest ≡ ds
    → GoesOn old front mid → (IsAllowed mid d → ⊥) → Stops old ds
stops_here old mid ds front d rest parts goes never st before later ranges done proper =
    let whole : before ++ ds ++ later ≡ (before ++ front) ++ d ∷ (rest ++ later) =
    ap (λ l. before ++ l ++ later) (sym parts)
    ∙ ap (λ l. l ++ later) (sym (append_assoc before front (d ∷ rest)))
    ∙ append_assoc (before ++ front) (d ∷ rest) later
    in
    never_done st mid (before ++ front) (rest ++ later) d (goes st before ranges done) never (subst (IsProper st) whole proper)

-- ---- records

joined_more : (rs : List Record) (r : Record) → joined (rs ++ r ∷ []) ≡ joined rs ++ r.deeds.items
joined_more rs r =
    ap deeds_in (map-append (λ (x : Record). x.deeds.items) rs (r ∷ []))
    ∙ sym (flat_map_more (λ (ds : List Deed). ds) [] (deeds_of rs) r.deeds.items)

pub no_record_redone : (old now : State) → old ≡ now → IsState old → AreDone old [] now
no_record_redone old now same is = subst (AreDone old []) same (none_done old is)

pub one_record_redone : (old mid new : State) (front : List Record) (r : Record) → IsState old
    → AreDone old (joined front) mid → GoesOn mid r.deeds.items new → AreDone old (joined (front ++ r ∷ [])) new
one_record_redone old mid new front r ranges done goes = subst (λ l. AreDone old l new) (sym (joined_more front r)) (goes old (joined front) ranges done)

pub improper_here : (old mid : State) (rs front : List Record) (r : Record) (rest : List Record) → front ++ r ∷ rest ≡ rs
    → IsState old → AreDone old (joined front) mid → Stops mid r.deeds.items → IsImproper old rs r.gate
improper_here old mid rs front r rest parts ranges done stops = record {
  before = front;
  one = r;
  later = rest;
  parts = sym parts;
  gate_is = refl;
  proper = done.proper;
  not = λ more proper. stops old (joined front) more ranges done proper;
}

-- A proper list has no record that cannot be done.
pub none_improper : (st : State) (rs : List Record) (gate : ℕ) → IsImproper st rs gate → IsProper st (joined rs) → ⊥
none_improper st rs gate improper proper =
    let whole : joined rs ≡ joined improper.before ++ improper.one.deeds.items ++ joined improper.later =
    ap joined improper.parts
    ∙ ap deeds_in (map-append (λ (x : Record). x.deeds.items) improper.before (improper.one ∷ improper.later))
    ∙ flat_map-append (λ (ds : List Deed). ds) (deeds_of improper.before) (deeds_of (improper.one ∷ improper.later))
    ∙ sym (append_assoc (joined improper.before) improper.one.deeds.items (joined improper.later))
    in
    improper.not (joined improper.later) (subst (IsProper st) whole proper)
