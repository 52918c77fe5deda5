use Rattle.std.proofs.Common.{Option, arith, sym, ap, subst, ◌∙◌, ℕ}
use Rattle.std.specs.Option.{option_copied}
use Rattle.linda_bag.proofs.HintLaws.{IfNone_any}
use Rattle.linda_hold.specs.Arrivals.{IsNext}
use Rattle.linda_hold.specs.Index.{asked_of}
use Rattle.linda_hold.specs.Numbered.{wait_at}
use Rattle.linda_hold.proofs.MetLaws.{reach, none_met, next_met, next_there}
use Rattle.linda_hold.proofs.wait_candidates.WaitCandidates.next.Goals as goal

pub returns-in_err-number-clause-none : goal.returns-in_err-number-clause-none
returns-in_err-number-clause-none c =
    let entries = c.self.inside.by_arrival.now.entries in
    let row = c.self.inside.tuple.now in
    IfNone_any c.from_residual.result
    (sym c.self.view_is
    ∙ none_met entries row c.self.inside.from
    (subst (λ (o : Option ℕ). IsNext (reach entries row) c.self.inside.from o) c.in_err-number.was
    (c.next_from.ensures (asked_of (wait_at entries)) c.self.invariant.1)))

pub overflow_add-self : goal.overflow_add-self
overflow_add-self c =
    let entries = c.self.inside.by_arrival.now.entries in
    let row = c.self.inside.tuple.now in
    let n = c.in_ok-number.number in
    let next = subst (λ (o : Option ℕ). IsNext (reach entries row) c.self.inside.from o) c.in_ok-number.was
    (c.next_from.ensures (asked_of (wait_at entries)) c.self.invariant.1) in
    let below = c.self.invariant.0 n (next_there entries row c.self.inside.from n next) in
    search (arith, below, c.self.invariant.2)

pub returns-clause-first : goal.returns-clause-first
returns-clause-first c =
    let entries = c.self.inside.by_arrival.now.entries in
    let row = c.self.inside.tuple.now in
    let next = subst (λ (o : Option ℕ). IsNext (reach entries row) c.self.inside.from o) c.in_ok-number.was
    (c.next_from.ensures (asked_of (wait_at entries)) c.self.invariant.1) in
    sym c.self.view_is
    ∙ next_met entries row c.self.inside.from c.in_ok-number.number c.in_ok-wait.wait.now next
    (sym c.get.ensures.value ∙ ap option_copied c.in_ok-wait.was)
