use Rattle.std.proofs.Common.{◌≡◌, ◌+◌, None, sym, ap, ◌∙◌, nat_cmp, arith}
use Rattle.std.specs.FinMap as map
use Rattle.linda_rising.specs.Rows.{all_rows}
use Rattle.linda_map_laws.proofs.MapLaws.{len_new}
use Rattle.linda_rising.proofs.MapLaws.{get_at, map_inserted}
use Rattle.linda_rising.proofs.UpToLaws.{put_up_to}
use Rattle.linda_rising.proofs.rising_map.RisingMap.insert.Goals as goal

pub insert-requires-clause-absent : goal.insert-requires-clause-absent
insert-requires-clause-absent g c = sym (get_at _ c.args.id) ∙ ap (λ m. map.get m c.args.id) c.self.view_is ∙ c.requires

pub invariant_of-self-2 : goal.invariant_of-self-2
invariant_of-self-2 g c =
    let old = all_rows c.self.inside.blocks.items in
    let none : map.get (map.from_entries {R = nat_cmp} old) c.args.id ≡ None = ap (λ m. map.get m c.args.id) c.self.view_is ∙ c.requires in
    let long : map.len (map.from_entries {R = nat_cmp} (all_rows c.insert.new.blocks.items)) ≡ map.len (map.from_entries {R = nat_cmp} old) + 1 =
    ap map.len (map_inserted old _ c.args.id c.args.row c.in_ok-insert.ensures.ok) ∙ len_new (map.from_entries old) c.args.id c.args.row none in (
      c.in_ok-insert.ensures.rising,
      omega (arith, long, c.self.invariant.1, c.in-Some.ensures.1),
      put_up_to old _ c.args.id c.self.inside.most c.args.row _ c.in_ok-insert.ensures.ok c.self.invariant.2
          c.greater-self-inside.ensures.one c.greater-self-inside.ensures.other,
    )

pub returns-clause-ok : goal.returns-clause-ok
returns-clause-ok g c =
    map_inserted (all_rows c.self.inside.blocks.items) (all_rows c.insert.new.blocks.items) c.args.id c.args.row c.in_ok-insert.ensures.ok
    ∙ ap (λ m. map.insert m c.args.id c.args.row) c.self.view_is
