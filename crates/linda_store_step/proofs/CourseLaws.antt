-- After all that comes to a server, and after stops, its deeds are a proper list, and it is in order.
use Rattle.std.proofs.Common.{◌≡◌, List, [], ◌∷◌, ◌++◌, sym, ap, ◌∙◌, subst, append-nil, append_assoc}
use Rattle.linda_store_state.specs.declared.deed.Deed.{Deed}
use Rattle.linda_store_state.specs.State.{State, IsState}
use Rattle.linda_store_state.specs.After.{IsAfter}
use Rattle.linda_store_state.specs.Proper.{IsProper}
use Rattle.linda_store_state.proofs.AfterLaws.{none_after, joined_after}
use Rattle.linda_store_state.proofs.ProperLaws.{none_proper, front_proper, takes_below, proper_state}
use Rattle.linda_store_state.proofs.OnceLaws.{taken_once}
use Rattle.linda_store_step.specs.Soft.{Soft}
use Rattle.linda_store_step.specs.History.{Coming, History}
use Rattle.linda_store_step.specs.Course.{Turn, comes, stops, IsFront, IsStop, Leads, Endures}
use Rattle.linda_store_step.specs.Store.{IsOrderly}
use Rattle.linda_store_step.specs.Promises.{IsSafe}
use Rattle.linda_store_step.proofs.OrderLaws.{new_store_orderly}
use Rattle.linda_store_step.proofs.HistoryLaws.{Stands, StandsAfter, happened}

-- A prefix of what is proper after other deeds is proper there.
pub front_goes_on : (st : State) (ds front all : List Deed) → IsFront front all → IsProper st (ds ++ all) → IsProper st (ds ++ front)
front_goes_on st ds front all is proper =
    let whole : ds ++ all ≡ (ds ++ front) ++ is.0 = ap (λ l. ds ++ l) (sym is.1) ∙ sym (append_assoc ds front is.0) in
    front_proper st (ds ++ front) is.0 (subst (IsProper st) whole proper)

stopped : (st mid : State) (soft : Soft) (xs : List Coming) (ds : List Deed) (all : History) → IsState st
    → Stands st ds mid soft → IsStop mid soft xs all → StandsAfter st ds all
stopped st mid soft xs ds all is stands stop =
    let done : StandsAfter st ds stop.whole = happened st mid soft xs ds stop.whole is stands stop.happens in
    let proper : IsProper st (ds ++ all.deeds) = front_goes_on st ds all.deeds stop.whole.deeds stop.front done.proper in
    let after : IsAfter st (ds ++ all.deeds) all.state =
    joined_after st mid all.state ds all.deeds stands.after stop.state_is (takes_below st ds is stands.proper) in
    record {
      proper = proper;
      after = after;
      orderly = new_store_orderly all.state all.soft (proper_state st all.state (ds ++ all.deeds) is proper after) stop.soft_is;
    }

led : (st mid : State) (soft : Soft) (x : Turn) (ds : List Deed) (all : History) → IsState st
    → Stands st ds mid soft → Leads mid soft x all → StandsAfter st ds all
led st mid soft (comes x) ds all is stands leads = happened st mid soft (x ∷ []) ds all is stands leads
led st mid soft (stops xs) ds all is stands leads = stopped st mid soft xs ds all is stands leads

endured : (st mid : State) (soft : Soft) (xs : List Turn) (ds : List Deed) (all : History) → IsState st
    → Stands st ds mid soft → Endures mid soft xs all → StandsAfter st ds all
endured st mid soft [] ds all is stands endures =
    subst (StandsAfter st ds) (sym endures) (subst (λ l. Stands st l mid soft) (sym (append-nil ds)) stands)
endured st mid soft (x ∷ xs) ds all is stands endures =
    let first : History = endures.0 in
    let later : History = endures.1.0 in
    subst (StandsAfter st ds) (sym endures.1.1.1.1)
    (subst (λ l. Stands st l later.state later.soft) (append_assoc ds first.deeds later.deeds)
    (endured st first.state first.soft xs (ds ++ first.deeds) later is (led st mid soft x ds first is stands endures.1.1.0) endures.1.1.1.0))

-- Each history with stops of a server in order is safe.
pub all_endured : (st : State) (soft : Soft) (xs : List Turn) (all : History) → IsOrderly st soft → Endures st soft xs all → IsSafe st all
all_endured st soft xs all orderly endures =
    let start : Stands st [] st soft = record { proper = none_proper st; after = none_after st orderly.state_is; orderly = orderly } in
    let end : StandsAfter st [] all = endured st st soft xs [] all orderly.state_is start endures in
    record { proper = end.proper; after = end.after; orderly = end.orderly; once = taken_once st all.deeds orderly.state_is end.proper }
