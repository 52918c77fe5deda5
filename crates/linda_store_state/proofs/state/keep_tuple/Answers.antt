-- What was inserted is removed again.
use Rattle.std.proofs.Common.{ap, ◌∙◌}
use Rattle.std.specs.FinMap.{remove}
use Rattle.linda_map_laws.proofs.MapLaws.{undone}
use Rattle.linda_store_state.proofs.state.keep_tuple.Goals as goal

pub returns-in-Err-clause-bag_err : goal.returns-in-Err-clause-bag_err
returns-in-Err-clause-bag_err g c =
    c.remove.ensures.removed
    ∙ ap (λ m. remove m c.args.id) c.in_ok-insert.ensures.ok
    ∙ undone (g.B.Bag.contents c.args.bag.now) c.args.id c.args.tuple c.requires
