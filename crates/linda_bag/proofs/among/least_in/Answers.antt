use Rattle.std.proofs.Common.{◌≡◌, IsSome, get_or, subst, sym, ap, ◌∙◌, arith, inl, inr, true≢false}
use Rattle.std.proofs.lemmas.Bool.{cases_lt}
use Rattle.linda_rising.specs.Rows.{at, ids_of}
use Rattle.linda_rising.proofs.IdLaws.{falls_never}
use Rattle.linda_rising.proofs.RowLaws.{id_there, length_ids}
use Rattle.linda_rising.proofs.RunLaws.{id_at, place_there}
use Rattle.linda_bag.specs.FreeMatch.{IsFreeMatch}
use Rattle.linda_bag.proofs.among.least_in.Goals as goal

pub returns-then-is_free-clause-there : goal.returns-then-is_free-clause-there
returns-then-is_free-clause-there g c =
    let rows = c.args.rows.now in
    let i = c.loop-row.row-index in
    subst (λ k. IsSome (at rows k)) (id_there rows i (0, tt) c.loop-row-test.true) (id_at rows i c.requires c.loop-row-test.true)

pub returns-then-is_free-clause-least : goal.returns-then-is_free-clause-least
returns-then-is_free-clause-least g c = λ k some less free.
    let rows = c.args.rows.now in
    let i = c.loop-row.row-index in
    let p = place_there rows k some in
    let Free = IsFreeMatch (g.S.TupleLookup.rows c.args.tuples.now) c.args.template.now (g.P.IdSet.has c.args.passed.now) in
    elim (cases_lt p.0 i) [
      | inl before ↦ c.loop-row.invariant p.0 before (subst Free (sym p.2) free)
      | inr from ↦ omega (
        arith,
        less,
        p.2,
        id_there rows i (0, tt) c.loop-row-test.true,
        falls_never (ids_of rows) c.requires i p.0 from (omega (arith, length_ids rows, p.1)),
      )
    ]

pub loop-row-preserved : goal.loop-row-preserved
loop-row-preserved g c = λ j less free.
    let rows = c.args.rows.now in
    let i = c.loop-row.row-index in
    let Free = IsFreeMatch (g.S.TupleLookup.rows c.args.tuples.now) c.args.template.now (g.P.IdSet.has c.args.passed.now) in
    elim (cases_lt j i) [
      | inl before ↦ c.loop-row.invariant j before free
      | inr from ↦
          let same : get_or (ids_of rows) j 0 ≡ (get_or rows i (0, tt)).0 =
          ap (λ k. get_or (ids_of rows) k 0) (omega (arith, less, from)) ∙ id_there rows i (0, tt) c.loop-row-test.true in
          true≢false (sym (c.is_free.ensures.1 (subst Free same free)) ∙ c.if-is_free.false)
    ]

pub returns-clause-none : goal.returns-clause-none
returns-clause-none g c = λ k some free.
    let rows = c.args.rows.now in
    let p = place_there rows k some in
    let Free = IsFreeMatch (g.S.TupleLookup.rows c.args.tuples.now) c.args.template.now (g.P.IdSet.has c.args.passed.now) in
    c.loop-row.invariant p.0 (omega (arith, p.1, c.loop-row-test.false)) (subst Free (sym p.2) free)
