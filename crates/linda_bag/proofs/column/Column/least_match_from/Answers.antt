use Rattle.std.proofs.Common.{◌≡◌, true, sym, subst, inl, inr}
use Rattle.std.specs.Option.{option_copied}
use Rattle.std.proofs.lemmas.Bool.{cases_lt}
use Rattle.std.proofs.lemmas.Option.{IfSome_then}
use Rattle.linda_bag.specs.FreeMatch.{IsFreeMatch}
use Rattle.linda_bag.specs.Ids.{has_any}
use Rattle.linda_bag.proofs.HintLaws.{IfNone_then}
use Rattle.linda_bag.proofs.ColumnLaws.{is_filed, found_below, none_below}
use Rattle.linda_bag.proofs.column.Column.least_match_from.Goals as goal

pub returns-then-is_below-clause-least : goal.returns-then-is_below-clause-least
returns-then-is_below-clause-least g c = λ next right.
    let bag = g.B.Bag.contents c.args.bag.now in
    let passed = g.P.IdSet.has c.args.passed.now in
    let has = is_filed bag next c.args.self.now c.args.template.now c.args.value.now passed c.requires.tag c.requires.count c.requires.value right in
    found_below (IsFreeMatch bag c.args.template.now passed) (λ k. has_any (option_copied c.get.result) k ≡ true) c.args.self.now.upto c.args.from
    c.least_among-filed.result.id (λ k low free. subst (λ o. has_any o k ≡ true) (sym c.get.ensures.value) (has k low free)) c.least_among-filed.ensures.least
    (c.is_below.ensures.some c.if-is_below.true)

pub returns-clause-least : goal.returns-clause-least
returns-clause-least g c = λ next right.
    let bag = g.B.Bag.contents c.args.bag.now in
    let passed = g.P.IdSet.has c.args.passed.now in
    let has = is_filed bag next c.args.self.now c.args.template.now c.args.value.now passed c.requires.tag c.requires.count c.requires.value right in
    let none = none_below (IsFreeMatch bag c.args.template.now passed) (λ k. has_any (option_copied c.get.result) k ≡ true) c.args.self.now.upto c.args.from
    c.least_among-filed.result.id (λ k low free. subst (λ o. has_any o k ≡ true) (sym c.get.ensures.value) (has k low free)) c.least_among-filed.ensures.least
    (c.is_below.ensures.not c.if-is_below.false) c.least_among-filed.ensures.none in
    IfSome_then c.least_match_from-found.result.id c.least_match_from-found.ensures.least (λ id least. λ k on below free.
    elim (cases_lt k c.args.self.now.upto) [
      | inl low ↦ none k on low free
      | inr high ↦ least k (c.later.ensures.least k on high) below free
    ])

pub returns-clause-none : goal.returns-clause-none
returns-clause-none g c = λ next right.
    let bag = g.B.Bag.contents c.args.bag.now in
    let passed = g.P.IdSet.has c.args.passed.now in
    let has = is_filed bag next c.args.self.now c.args.template.now c.args.value.now passed c.requires.tag c.requires.count c.requires.value right in
    let none = none_below (IsFreeMatch bag c.args.template.now passed) (λ k. has_any (option_copied c.get.result) k ≡ true) c.args.self.now.upto c.args.from
    c.least_among-filed.result.id (λ k low free. subst (λ o. has_any o k ≡ true) (sym c.get.ensures.value) (has k low free)) c.least_among-filed.ensures.least
    (c.is_below.ensures.not c.if-is_below.false) c.least_among-filed.ensures.none in
    IfNone_then c.least_match_from-found.result.id c.least_match_from-found.ensures.none (λ all. λ k on free.
    elim (cases_lt k c.args.self.now.upto) [
      | inl low ↦ none k on low free
      | inr high ↦ all k (c.later.ensures.least k on high) free
    ])
