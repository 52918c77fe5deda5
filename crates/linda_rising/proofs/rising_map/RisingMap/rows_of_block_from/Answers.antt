use Rattle.std.proofs.Common.{sym, ap, ◌∙◌}
use Rattle.std.proofs.lemmas.Option.{IfSome_then}
use Rattle.std.specs.FinMap as map
use Rattle.linda_rising.specs.Rows.{all_rows}
use Rattle.linda_rising.proofs.MapLaws.{get_at}
use Rattle.linda_rising.proofs.RunLaws.{begins_as, IfNone_then}
use Rattle.linda_rising.proofs.rising_map.RisingMap.rows_of_block_from.Goals as goal

pub returns-clause-run : goal.returns-clause-run
returns-clause-run g c =
    IfSome_then c.rows_of_block_from.result c.rows_of_block_from.ensures.run
    (λ run begins. begins_as _ _ c.args.id run.rows.now run.next
    (λ q. sym (get_at (all_rows c.self.inside.blocks.items) q) ∙ ap (λ m. map.get m q) c.self.view_is) begins)

pub returns-clause-none : goal.returns-clause-none
returns-clause-none g c =
    IfNone_then c.rows_of_block_from.result c.rows_of_block_from.ensures.none (λ none q le. ap (λ m. map.get m q) (sym c.self.view_is)
    ∙ get_at (all_rows c.self.inside.blocks.items) q ∙ none q le)
