use Rattle.std.proofs.Common.{◌≡◌, suc, ◌+◌, ◌∷◌, sym, ◌∙◌, ap, subst, arith}
use Rattle.std.specs.FinMap.{get}
use Rattle.linda_store_state.specs.State.{State}
use Rattle.linda_snap.specs.Rising.{entries_from}
use Rattle.linda_snap.proofs.RisingLaws.{first_is, none_is}
use Rattle.linda_snap.proofs.cursor.tuple_from.Goals as goal

pub returns-in_default-clause-none : goal.returns-in_default-clause-none
returns-in_default-clause-none g c =
    let same = ap (λ (s : State). s.bag) c.state.view_is in
    none_is c.args.state.now.bag c.args.from (λ k le. ap (λ m. get m k) (sym same) ∙ c.in_default.ensures.none k le)

pub returns-clause-found : goal.returns-clause-found
returns-clause-found g c =
    let same = ap (λ (s : State). s.bag) c.state.view_is in
    let next : suc c.in-Some.id ≡ c.in-Some.id + 1 = omega arith in
    subst (λ n. entries_from c.args.from c.args.state.now.bag ≡ (c.in-Some.id, c.in-Some.tuple.now) ∷ entries_from n c.args.state.now.bag) next
    (first_is c.args.state.now.bag c.args.from c.in-Some.id c.in-Some.tuple.now (ap (λ m. get m c.in-Some.id) (sym same)
    ∙ c.in-Some.ensures.found) c.in-Some.ensures.above (λ k low high. ap (λ m. get m k) (sym same) ∙ c.in-Some.ensures.least k low high))
