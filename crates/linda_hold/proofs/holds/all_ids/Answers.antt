use Rattle.std.proofs.Common.{sym, subst, nat_cmp}
use Rattle.std.specs.BTreeSet.{contains}
use Rattle.std.specs.FinMap as map
use Rattle.linda_rising.specs.Rows.{IsUnder}
use Rattle.linda_hold.proofs.WalkLaws.{walked, ahead}
use Rattle.linda_hold.proofs.holds.all_ids.Goals as goal

pub returns-in_default-next : goal.returns-in_default-next
returns-in_default-next c = λ id.
    walked (map.get c.args.by_id.now) c.loop-part.from c.in-Some.part.rows.now c.in-Some.part.next c.in-Some.ensures.run
    (contains nat_cmp c.loop-part.ids) (contains nat_cmp c.put_ids.new.ids) c.loop-part.invariant.0 c.loop-part.invariant.1 c.in_ok-put_ids.ensures
    id (subst (IsUnder id) (sym c.in_default-next.is) tt)

pub loop-part-preserved : goal.loop-part-preserved
loop-part-preserved c = (
  (λ q less. walked (map.get c.args.by_id.now) c.loop-part.from c.in-Some.part.rows.now c.in-Some.part.next c.in-Some.ensures.run
      (contains nat_cmp c.loop-part.ids) (contains nat_cmp c.put_ids.new.ids) c.loop-part.invariant.0 c.loop-part.invariant.1 c.in_ok-put_ids.ensures
      q (subst (IsUnder q) (sym c.in-Some-next.is) less)),
  (λ q above. ahead (map.get c.args.by_id.now) c.loop-part.from c.in-Some.part.rows.now c.in-Some.part.next c.in-Some.ensures.run
      (contains nat_cmp c.loop-part.ids) (contains nat_cmp c.put_ids.new.ids) c.loop-part.invariant.0 c.loop-part.invariant.1 c.in_ok-put_ids.ensures
      q c.in-Some-next.next c.in-Some-next.is above),
)
