-- After all that comes to a server, its deeds are a proper list, and it is in order.
use Rattle.std.proofs.Common.{List, [], ◌∷◌, ◌++◌, option_to_list, sym, subst, append-nil, append_assoc}
use Rattle.linda_store_state.specs.declared.deed.Deed.{Deed}
use Rattle.linda_store_state.specs.State.{State, IsState}
use Rattle.linda_store_step.specs.Soft.{Soft}
use Rattle.linda_store_state.specs.After.{IsAfter}
use Rattle.linda_store_state.specs.Proper.{IsProper}
use Rattle.linda_store_step.specs.Answer.{Answer}
use Rattle.linda_store_step.specs.History.{Coming, says, hangs_up, Comes, History, Happens}
use Rattle.linda_store_step.specs.Store.{IsOrderly}
use Rattle.linda_store_step.specs.Promises.{IsSafe}
use Rattle.linda_store_state.proofs.AfterLaws.{none_after}
use Rattle.linda_store_state.proofs.ProperLaws.{none_proper}
use Rattle.linda_store_state.proofs.OnceLaws.{taken_once}
use Rattle.linda_store_step.proofs.AnswerLaws.{step_proper}
use Rattle.linda_store_step.proofs.OrderLaws.{step_orderly, close_orderly}

-- After these deeds the server is in this state, and in order.
pub record Stands (st : State) (ds : List Deed) (now : State) (soft : Soft) : Type 0 where
  pub proper : IsProper st ds
  pub after : IsAfter st ds now
  pub orderly : IsOrderly now soft

-- One thing more leaves it so.
came : (st mid new : State) (soft : Soft) (x : Coming) (ds : List Deed) (answered : Answer) → IsState st → Stands st ds mid soft → Comes mid soft x answered new
    → Stands st (ds ++ option_to_list answered.deed) new answered.soft
came st mid new soft (says c m) ds answered is stands step =
    let done = step_proper st mid new soft ds c m answered is stands.proper stands.after step in
    record { proper = done.0; after = done.1; orderly = step_orderly mid new soft c stands.orderly m answered step }
came st mid new soft (hangs_up c) ds answered is stands closed =
    subst (λ (s : State). Stands st (ds ++ option_to_list answered.deed) s answered.soft) (sym closed.1)
    (subst (λ (a : Answer). Stands st (ds ++ option_to_list a.deed) mid a.soft) (sym closed.0)
    (record {
      proper = subst (IsProper st) (sym (append-nil ds)) stands.proper;
      after = subst (λ l. IsAfter st l mid) (sym (append-nil ds)) stands.after;
      orderly = close_orderly mid soft c stands.orderly;
    }))

-- After these deeds and those of a history.
abbrev pub StandsAfter : State → List Deed → History → Type 0
StandsAfter st ds all = Stands st (ds ++ all.deeds) all.state all.soft

pub happened : (st mid : State) (soft : Soft) (xs : List Coming) (ds : List Deed) (all : History)
    → IsState st → Stands st ds mid soft → Happens mid soft xs all → StandsAfter st ds all
happened st mid soft [] ds all is stands happens =
    subst (StandsAfter st ds) (sym happens) (subst (λ l. Stands st l mid soft) (sym (append-nil ds)) stands)
happened st mid soft (x ∷ xs) ds all is stands happens =
    let first : Answer = happens.0 in
    let later : History = happens.1.1.0 in
    subst (StandsAfter st ds) (sym happens.1.1.1.1.1)
    (subst (λ l. Stands st l later.state later.soft) (append_assoc ds (option_to_list first.deed) later.deeds)
    (happened st happens.1.0 first.soft xs (ds ++ option_to_list first.deed) later is
    (came st mid happens.1.0 soft x ds first is stands happens.1.1.1.0) happens.1.1.1.1.0))

-- Each history of a server in order is safe.
pub all_safe : (st : State) (soft : Soft) (xs : List Coming) (all : History) → IsOrderly st soft → Happens st soft xs all → IsSafe st all
all_safe st soft xs all orderly happens =
    let start : Stands st [] st soft = record { proper = none_proper st; after = none_after st orderly.state_is; orderly = orderly } in
    let end : StandsAfter st [] all = happened st st soft xs [] all orderly.state_is start happens in
    record { proper = end.proper; after = end.after; orderly = end.orderly; once = taken_once st all.deeds orderly.state_is end.proper }
