use Rattle.linda_status.specs.Tagged.{is_named}
use Rattle.linda_status.proofs.TaggedLaws.{one_kept}
use Rattle.linda_status.proofs.tagged.keep_named.Goals as goal

pub loop-row-preserved : goal.loop-row-preserved
loop-row-preserved c =
    one_kept (is_named c.args.tags.now) c.args.rows.now.items c.loop-row.rows.items c.keep_if_named.new.rows.items
    c.loop-row.yielded c.in-Some.row c.loop-row.invariant c.in_ok-keep_if_named.ensures
