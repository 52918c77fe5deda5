use Rattle.std.proofs.Common.{ℕ, ◌<◌, IsSome, IfSome, is_some, subst, sym, ap, ◌∙◌, arith, inl, inr}
use Rattle.std.proofs.lemmas.Bool.{cases_lt}
use Rattle.linda_rising.specs.Rows.{at, IsUnder}
use Rattle.linda_rising.proofs.RunLaws.{place_there, under_lower}
use Rattle.linda_bag.specs.FreeMatch.{IsFreeMatch}
use Rattle.linda_bag.proofs.among.least_free.Goals as goal

pub returns-in-Some-id-clause-above : goal.returns-in-Some-id-clause-above
returns-in-Some-id-clause-above g c =
    let rows = c.in-Some.part.rows.now in
    let begins = c.in-Some.ensures.run in
    let there : IsSome (at rows c.in-Some-id.id) = subst (λ o. IfSome o (λ id. IsSome (at rows id))) c.in-Some-id.is c.least_in-found.ensures.there in
    let p = place_there rows c.in-Some-id.id there in
    omega (arith, c.loop-part.invariant.0, begins.run.above p.0 p.1, p.2)

pub returns-in-Some-id-clause-least : goal.returns-in-Some-id-clause-least
returns-in-Some-id-clause-least g c = λ k from less has free.
    let rows = c.in-Some.part.rows.now in
    let begins = c.in-Some.ensures.run in
    let there : IsSome (at rows c.in-Some-id.id) = subst (λ o. IfSome o (λ id. IsSome (at rows id))) c.in-Some-id.is c.least_in-found.ensures.there in
    let p = place_there rows c.in-Some-id.id there in
    elim (cases_lt k c.loop-part.at) [
      | inl before ↦ c.loop-part.invariant.1 k from before has free
      | inr above ↦
          let under : IsUnder k c.in-Some.part.next = under_lower k _ c.in-Some.part.next (omega (arith, less, p.2)) (begins.below p.0 p.1) in
          let some : IsSome (at rows k) = ap is_some (sym (begins.all k above under)) ∙ has in
          (subst (λ o. IfSome o (λ id. (q : ℕ) → IsSome (at rows q) → q < id
          → IsFreeMatch (g.S.TupleLookup.rows c.args.tuples.now) c.args.template.now (g.P.IdSet.has c.args.passed.now) q → ⊥))
          c.in-Some-id.is c.least_in-found.ensures.least) k some less free
    ]
