use Rattle.std.proofs.Common.{◌≡◌, ◌++◌, ◌∷◌, [], true, false, refl, subst, arith}
use Rattle.linda_shared_listing.specs.declared.kinds.ListedKind.{ListedKind}
use Rattle.linda_shared_listing.specs.declared.kinds.KindPage.{KindPage}
use Rattle.linda_shared_listing.specs.Kinds.{head_in, row_in}
use Rattle.linda_shared_listing.proofs.KindLaws.{kinds_more, whole_page, part_of_all}
use Rattle.linda_shared_listing.proofs.kinds.list_kinds.Goals as goal

pub returns-in_default : goal.returns-in_default
returns-in_default c =
    let page : KindPage = record { rows = c.loop.rows; is_whole = true } in
    whole_page c.args.bag.now (head_in c.args.after) (head_in c.loop.last) c.loop.counter c.args.limit page c.loop.invariant
    (omega (arith, c.loop-test.true, c.min-most.ensures)) (omega (arith, c.loop-test.true, c.min-most.ensures)) refl c.in_default.ensures.none

pub loop-preserved : goal.loop-preserved
loop-preserved c =
    let row = row_in c.in-Some.kind in
    kinds_more c.args.bag.now (head_in c.args.after) (head_in c.loop.last) c.loop.counter c.loop.rows.items c.push.new.self.items row c.loop.invariant
    (subst (λ (r : ListedKind). c.push.new.self.items ≡ c.loop.rows.items ++ r ∷ []) c.in_ok-listed.ensures c.in_ok-push.ensures.items) c.in-Some.ensures.found

pub returns-in-Some-next_kind : goal.returns-in-Some-next_kind
returns-in-Some-next_kind c =
    let page : KindPage = record { rows = c.loop.rows; is_whole = false } in
    part_of_all c.args.bag.now (head_in c.args.after) (head_in c.loop.last)
    (row_in c.in-Some-next_kind.field-0) c.loop.counter c.args.limit page c.loop.invariant
    (omega (arith, c.loop-test.false, c.loop.auto.counter-end, c.min-most.ensures))
    (omega (arith, c.loop.auto.counter-end, c.min-most.ensures))
    (omega (arith, c.loop.auto.counter-end, c.min-most.ensures)) refl c.in-Some-next_kind.ensures.found

pub returns-in-None : goal.returns-in-None
returns-in-None c =
    let page : KindPage = record { rows = c.loop.rows; is_whole = true } in
    whole_page c.args.bag.now (head_in c.args.after) (head_in c.loop.last) c.loop.counter c.args.limit page c.loop.invariant
    (omega (arith, c.loop.auto.counter-end, c.min-most.ensures)) (omega (arith, c.loop.auto.counter-end, c.min-most.ensures)) refl c.in-None.ensures.none
