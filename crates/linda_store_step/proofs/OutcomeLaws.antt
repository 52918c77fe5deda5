-- What comes to a server in order has one outcome.
use Rattle.std.proofs.Common.{◌≡◌, List, [], ◌∷◌, option_to_list, sym, ap, ◌∙◌, subst}
use Rattle.linda_store_state.specs.State.{State}
use Rattle.linda_store_state.specs.After.{IsAfter}
use Rattle.linda_store_state.proofs.AfterLaws.{one_after}
use Rattle.linda_store_step.specs.Soft.{Soft}
use Rattle.linda_store_step.specs.Answer.{Answer}
use Rattle.linda_store_step.specs.History.{Coming, says, hangs_up, Comes, History, Happens, first_then}
use Rattle.linda_store_step.specs.Store.{IsOrderly}
use Rattle.linda_store_step.proofs.AnswerLaws.{one_answer}
use Rattle.linda_store_step.proofs.OrderLaws.{step_orderly, close_orderly}

-- One thing has one answer, and leads to one state.
one_coming : (st : State) (soft : Soft) (x : Coming) (a b : Answer) (s t : State) → IsOrderly st soft
    → Comes st soft x a s → Comes st soft x b t → (a ≡ b) × (s ≡ t)
one_coming st soft (says c m) a b s t orderly first second =
    let same : a ≡ b = one_answer st soft c m a b orderly.soft_is.one_each first.answer second.answer in
    (same, one_after st (option_to_list b.deed) s t (subst (λ (x : Answer). IsAfter st (option_to_list x.deed) s) same first.state_is) second.state_is)
one_coming st soft (hangs_up c) a b s t orderly first second = (first.0 ∙ sym second.0, first.1 ∙ sym second.1)

pub came_orderly : (st new : State) (soft : Soft) (x : Coming) (a : Answer) → IsOrderly st soft → Comes st soft x a new → IsOrderly new a.soft
came_orderly st new soft (says c m) a orderly step = step_orderly st new soft c orderly m a step
came_orderly st new soft (hangs_up c) a orderly closed =
    subst (λ (s : State). IsOrderly s a.soft) (sym closed.1) (subst (λ (x : Answer). IsOrderly st x.soft) (sym closed.0) (close_orderly st soft c orderly))

pub one_outcome : (st : State) (soft : Soft) (xs : List Coming) (a b : History) → IsOrderly st soft → Happens st soft xs a → Happens st soft xs b → a ≡ b
one_outcome st soft [] a b orderly first second = first ∙ sym second
one_outcome st soft (x ∷ xs) a b orderly first second =
    let once = one_coming st soft x first.0 second.0 first.1.0 second.1.0 orderly first.1.1.1.0 second.1.1.1.0 in
    let later : first.1.1.0 ≡ second.1.1.0 =
    one_outcome second.1.0 second.0.soft xs first.1.1.0 second.1.1.0 (came_orderly st second.1.0 soft x second.0 orderly second.1.1.1.0)
    (subst (λ (s : State). Happens s second.0.soft xs first.1.1.0) once.1
    (subst (λ (y : Answer). Happens first.1.0 y.soft xs first.1.1.0) once.0 first.1.1.1.1.0))
    second.1.1.1.1.0
    in
    first.1.1.1.1.1 ∙ ap (λ (y : Answer). first_then y first.1.1.0) once.0 ∙ ap (first_then second.0) later ∙ sym second.1.1.1.1.1
