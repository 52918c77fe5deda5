use Rattle.std.proofs.Common.{◌-◌, cond, is_some, sym, ap, ◌∙◌, nat_cmp, arith}
use Rattle.std.specs.Cmp.{nat_cmp_total}
use Rattle.std.specs.FinMap as map
use Rattle.std.specs.FinMap.{len-remove}
use Rattle.linda_rising.specs.Rows.{all_rows}
use Rattle.linda_rising.proofs.MapLaws.{get_at, map_removed, len_some}
use Rattle.linda_rising.proofs.UpToLaws.{gone_up_to}
use Rattle.linda_rising.proofs.rising_map.RisingMap.remove.Goals as goal

pub overflow_sub-self : goal.overflow_sub-self
overflow_sub-self g c =
    omega (arith, c.self.invariant.1, len_some (all_rows c.self.inside.blocks.items) c.args.id c.in-Some.row (sym c.in-Some.ensures.value))

pub invariant_of-self : goal.invariant_of-self
invariant_of-self g c =
    let old = all_rows c.self.inside.blocks.items in
    let found = get_at old c.args.id ∙ sym c.in-Some.ensures.value in
    let long = ap map.len (map_removed old (all_rows c.remove.new.blocks.items) c.args.id c.in-Some.ensures.rows)
    ∙ len-remove nat_cmp_total (map.from_entries old) c.args.id
    ∙ ap (λ o. cond (is_some o) (map.len (map.from_entries {R = nat_cmp} old) - 1) (map.len (map.from_entries {R = nat_cmp} old))) found in (
      c.in-Some.ensures.rising,
      sym (long ∙ ap (λ n. n - 1) (sym c.self.invariant.1)),
      gone_up_to old _ c.args.id c.self.inside.most c.in-Some.ensures.rows c.self.invariant.2,
    )

pub invariant_of-self-in-None : goal.invariant_of-self-in-None
invariant_of-self-in-None g c =
    let old = all_rows c.self.inside.blocks.items in
    let found = get_at old c.args.id ∙ sym c.in-None.ensures.value in
    let long = ap map.len (map_removed old (all_rows c.remove.new.blocks.items) c.args.id c.in-None.ensures.rows)
    ∙ len-remove nat_cmp_total (map.from_entries old) c.args.id
    ∙ ap (λ o. cond (is_some o) (map.len (map.from_entries {R = nat_cmp} old) - 1) (map.len (map.from_entries {R = nat_cmp} old))) found in (
      c.in-None.ensures.rising,
      sym (long ∙ sym c.self.invariant.1),
      gone_up_to old _ c.args.id c.self.inside.most c.in-None.ensures.rows c.self.invariant.2,
    )

pub returns-in-Some-clause-value : goal.returns-in-Some-clause-value
returns-in-Some-clause-value g c = c.in-Some.ensures.value ∙ sym (get_at (all_rows c.self.inside.blocks.items) c.args.id)
    ∙ ap (λ m. map.get m c.args.id) c.self.view_is

pub returns-in-Some-clause-removed : goal.returns-in-Some-clause-removed
returns-in-Some-clause-removed g c = map_removed (all_rows c.self.inside.blocks.items) (all_rows c.remove.new.blocks.items) c.args.id c.in-Some.ensures.rows
    ∙ ap (λ m. map.remove m c.args.id) c.self.view_is

pub returns-in-None-clause-value : goal.returns-in-None-clause-value
returns-in-None-clause-value g c = c.in-None.ensures.value ∙ sym (get_at (all_rows c.self.inside.blocks.items) c.args.id)
    ∙ ap (λ m. map.get m c.args.id) c.self.view_is

pub returns-in-None-clause-removed : goal.returns-in-None-clause-removed
returns-in-None-clause-removed g c = map_removed (all_rows c.self.inside.blocks.items) (all_rows c.remove.new.blocks.items) c.args.id c.in-None.ensures.rows
    ∙ ap (λ m. map.remove m c.args.id) c.self.view_is
