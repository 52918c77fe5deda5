use Rattle.std.proofs.Common.{◌<◌, ◌+◌, ℕ, Option, Some, None, arith, subst}
use Rattle.std.specs.Prelude.{IfSome}
use Rattle.linda_shared_listing.specs.declared.listed.TuplePage.{TuplePage}
use Rattle.linda_shared_listing.specs.Shapes.{is_found, shapes_in}
use Rattle.linda_shared_listing.proofs.ListingLaws.{AreListed, next_there, one_listed, page_listed}
use Rattle.linda_shared_listing.proofs.listing.page_of.Goals as goal

pub push_row-requires : goal.push_row-requires
push_row-requires c =
    next_there c.args.bag.now c.args.holds.now c.args.query.now.tag c.args.query.now.from c.in-Some.id c.loop.counter c.loop.rows.items
    (subst (λ (n : Option ℕ). AreListed c.args.bag.now c.args.holds.now c.args.query.now.tag c.args.query.now.from n c.loop.counter c.loop.rows.items)
    c.in-Some.is c.loop.invariant)

pub overflow_add-id : goal.overflow_add-id
overflow_add-id c =
    let there = next_there c.args.bag.now c.args.holds.now c.args.query.now.tag c.args.query.now.from c.in-Some.id c.loop.counter c.loop.rows.items
    (subst (λ (n : Option ℕ). AreListed c.args.bag.now c.args.holds.now c.args.query.now.tag c.args.query.now.from n c.loop.counter c.loop.rows.items)
    c.in-Some.is c.loop.invariant) in
    search (arith, c.requires.low c.in-Some.id there)

some_count : (next : Option ℕ) (count : ℕ) → 0 < count → IfSome next (λ n. 0 < count)
some_count None count some = tt
some_count (Some n) count some = some

pub loop-preserved : goal.loop-preserved
loop-preserved c =
    one_listed c.args.bag.now c.args.holds.now c.args.query.now.tag (is_found c.args.bag.now (shapes_in c.args.shapes.now)) c.args.query.now.from
    c.in-Some.id c.loop.counter c.next_found-next-in-loop.result c.loop.rows.items c.push_row.new.rows.items c.requires.found
    (subst (λ (n : Option ℕ). AreListed c.args.bag.now c.args.holds.now c.args.query.now.tag c.args.query.now.from n c.loop.counter c.loop.rows.items)
    c.in-Some.is c.loop.invariant)
    c.in_ok-more.ensures.ids c.in_ok-more.ensures.rows c.next_found-next-in-loop.ensures

pub returns-then-bytes-enough : goal.returns-then-bytes-enough
returns-then-bytes-enough c =
    let page : TuplePage = record { rows = c.push_row.new.rows; next = c.next_found-next-in-loop.result } in
    let far = one_listed c.args.bag.now c.args.holds.now c.args.query.now.tag (is_found c.args.bag.now (shapes_in c.args.shapes.now))
    c.args.query.now.from c.in-Some.id c.loop.counter c.next_found-next-in-loop.result c.loop.rows.items c.push_row.new.rows.items c.requires.found
    (subst (λ (n : Option ℕ). AreListed c.args.bag.now c.args.holds.now c.args.query.now.tag c.args.query.now.from n c.loop.counter c.loop.rows.items)
    c.in-Some.is c.loop.invariant)
    c.in_ok-more.ensures.ids c.in_ok-more.ensures.rows c.next_found-next-in-loop.ensures in
    page_listed c.args.bag.now c.args.holds.now c.args.query.now (c.loop.counter + 1) page far
    (omega (arith, c.loop-test.true, c.min-most.ensures, c.limit.ensures.is)) (some_count c.next_found-next-in-loop.result (c.loop.counter + 1) (omega arith))

pub returns : goal.returns
returns c =
    let page : TuplePage = record { rows = c.loop.rows; next = c.loop.next } in
    page_listed c.args.bag.now c.args.holds.now c.args.query.now c.loop.counter page c.loop.invariant
    (omega (arith, c.loop-test.false, c.loop.auto.counter-end, c.min-most.ensures, c.limit.ensures.is))
    (some_count c.loop.next c.loop.counter (omega (arith, c.loop-test.false, c.loop.auto.counter-end, c.min-most.ensures, c.limit.ensures.some)))
