use Rattle.std.proofs.Common.{IsSome, is_some, sym, ap, ◌∙◌, nat_cmp, arith}
use Rattle.std.specs.FinMap as map
use Rattle.linda_map_laws.proofs.MapLaws.{len_old}
use Rattle.linda_rising.specs.Rows.{all_rows}
use Rattle.linda_rising.proofs.MapLaws.{get_at, map_inserted}
use Rattle.linda_rising.proofs.UpToLaws.{put_up_to}
use Rattle.linda_rising.proofs.rising_map.RisingMap.replace.Goals as goal

pub replace-requires-clause-there : goal.replace-requires-clause-there
replace-requires-clause-there g c = ap is_some (sym (get_at _ c.args.id)) ∙ ap (λ m. is_some (map.get m c.args.id)) c.self.view_is ∙ c.requires

pub invariant_of-self : goal.invariant_of-self
invariant_of-self g c =
    let old = all_rows c.self.inside.blocks.items in
    let there : IsSome (map.get (map.from_entries {R = nat_cmp} old) c.args.id) = ap (λ m. is_some (map.get m c.args.id)) c.self.view_is ∙ c.requires in
    let long = ap map.len (map_inserted old (all_rows c.replace.new.blocks.items) c.args.id c.args.row c.replace.ensures.rows)
    ∙ len_old (map.from_entries old) c.args.id c.args.row there in (
      c.replace.ensures.rising,
      c.self.invariant.1 ∙ sym long,
      put_up_to old _ c.args.id c.self.inside.most c.args.row c.self.inside.most c.replace.ensures.rows c.self.invariant.2
          (omega arith) (c.self.invariant.2 c.args.id (ap is_some (sym (get_at old c.args.id)) ∙ there)),
    )

pub returns-clause-value : goal.returns-clause-value
returns-clause-value g c = c.replace.ensures.value ∙ sym (get_at (all_rows c.self.inside.blocks.items) c.args.id) ∙ ap (λ m. map.get m c.args.id) c.self.view_is

pub returns-clause-row : goal.returns-clause-row
returns-clause-row g c = map_inserted (all_rows c.self.inside.blocks.items) (all_rows c.replace.new.blocks.items)
    c.args.id c.args.row c.replace.ensures.rows ∙ ap (λ m. map.insert m c.args.id c.args.row) c.self.view_is
