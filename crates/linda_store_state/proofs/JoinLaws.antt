-- Two proper lists of deeds, done one after the other, are one proper list.
use Rattle.std.proofs.Common.{List, [], ◌∷◌, ◌++◌, refl, sym, ap, subst, append-nil, append_assoc}
use Rattle.linda_store_state.specs.declared.deed.Deed.{Deed}
use Rattle.linda_store_state.specs.State.{State, IsState}
use Rattle.linda_store_state.specs.After.{IsAfter}
use Rattle.linda_store_state.specs.Proper.{IsAllowed, IsProper, AreDone}
use Rattle.linda_store_state.proofs.AfterLaws.{none_after, one_after, joined_after}
use Rattle.linda_store_state.proofs.DoneLaws.{done, done_after, done_state}
use Rattle.linda_store_state.proofs.ProperLaws.{Reaches, reached, front_proper, takes_below, proper_state, more_done}

-- What is done after the first deed of a list is the rest of it.
pub behind_one : (st new : State) (d : Deed) (es : List Deed) → IsState st → IsAllowed st d → AreDone st (d ∷ es) new → AreDone (done st d) es new
behind_one st new d es is allowed all =
    let mid : State = done st d in
    let one : IsAfter st (d ∷ []) mid = done_after st d is in
    let below = takes_below st (d ∷ []) is (front_proper st (d ∷ []) es all.proper) in
    let proper : IsProper mid es = λ before x rest other parts after. all.proper (d ∷ before) x rest other
    (ap (λ l. d ∷ l) parts) (joined_after st mid other (d ∷ []) before one after below) in
    let there : Reaches mid es = reached mid es (done_state st d is allowed) proper in
    let same = one_after st (d ∷ es) there.new new (joined_after st mid there.new (d ∷ []) es one there.after below) all.after in
    record { proper = proper; after = subst (IsAfter mid es) same there.after }

pub joined_done : (st : State) → IsState st → (es : List Deed) (mid new : State) (ds : List Deed)
    → AreDone st ds mid → AreDone mid es new → AreDone st (ds ++ es) new
joined_done st is [] mid new ds first later =
    let mid_is : IsState mid = proper_state st mid ds is first.proper first.after in
    subst (λ l. AreDone st l new) (sym (append-nil ds)) (subst (AreDone st ds) (one_after mid [] mid new (none_after mid mid_is) later.after) first)
joined_done st is (d ∷ es) mid new ds first later =
    let mid_is : IsState mid = proper_state st mid ds is first.proper first.after in
    let allowed : IsAllowed mid d = later.proper [] d es mid refl (none_after mid mid_is) in
    let more = more_done st mid (done mid d) ds d is first allowed (done_after mid d mid_is) in
    subst (λ l. AreDone st l new) (append_assoc ds (d ∷ []) es)
    (joined_done st is es (done mid d) new (ds ++ d ∷ []) more (behind_one mid new d es mid_is allowed later))
