use Rattle.std.proofs.Common.{sym, subst, ap, ◌∙◌, nat_cmp, true≢false}
use Rattle.std.specs.FinMap as map
use Rattle.std.specs.FinMap.{len-empty}
use Rattle.linda_rising.specs.Rows.{all_rows, IsRising, AreUpTo}
use Rattle.linda_rising.proofs.rising_map.RisingMap.new.Goals as goal

pub invariant_of-result : goal.invariant_of-result
invariant_of-result g c = (
  subst IsRising (sym c.new.ensures.items) tt,
  sym (ap (λ bs. map.len (map.from_entries {R = nat_cmp} (all_rows bs))) c.new.ensures.items ∙ len-empty nat_cmp g.row.T.Denot),
  subst (λ bs. AreUpTo (all_rows bs) 0) (sym c.new.ensures.items) (λ q some. absurd (true≢false (sym some))),
)
