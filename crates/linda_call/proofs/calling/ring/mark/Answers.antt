use Rattle.std.proofs.Common.{◌≡◌, ◌++◌, ◌+◌, ◌<◌, arith, drop, get_or, length, map, set, subst, sym, take}
use Rattle.linda_call.specs.Ring.{after}
use Rattle.linda_call.proofs.ListLaws.{changed_next}
use Rattle.linda_call.proofs.calling.ring.mark.Goals as goal

pub loop-put-preserved : goal.loop-put-preserved
loop-put-preserved c =
    let same = c.loop-put.auto.put-items in
    let within = c.loop-put-test.true in
    let low : c.loop-put.put-index < length c.loop-put.put-items = omega arith in
    let items = c.loop-put.put-items in
    let place = c.loop-put.put-index in
    let put = get_or items place c.put-item.result in
    let news = c.args.news in
    subst
    (λ fate.
    take (place + 1) (set items place (record put { fate = fate })) ++ map (after news) (drop (place + 1) (set items place (record put { fate = fate })))
    ≡ map (after news) c.deref_mut-put-items.result.now)
    (sym c.fate_after-put.ensures)
    (changed_next (after news) items _ place c.put-item.result low c.loop-put.invariant)
