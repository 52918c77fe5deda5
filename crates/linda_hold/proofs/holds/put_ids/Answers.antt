use Rattle.std.proofs.Common.{◌≡◌, ◌+◌, ◌||◌, suc, true, cond, is_some, take, nat_cmp, sym, ap, ◌∙◌, arith}
use Rattle.std.specs.BTreeSet.{contains}
use Rattle.linda_rising.specs.Rows.{at}
use Rattle.linda_bag.proofs.TuplesLaws.{told}
use Rattle.linda_hold.proofs.WalkLaws.{one_more, put_too}
use Rattle.linda_hold.proofs.holds.put_ids.Goals as goal

pub loop-row-preserved : goal.loop-row-preserved
loop-row-preserved c = λ q.
    let rows = c.args.rows.now in
    let i = c.loop-row.row-index in
    let old = contains nat_cmp c.args.ids.now q in
    let more : suc i ≡ i + 1 = omega arith in
    c.in_ok-insert.ensures.updates.0 q
    ∙ ap (λ b. cond b true (contains nat_cmp c.loop-row.ids q)) (told _ q)
    ∙ ap (cond _ true) (c.loop-row.invariant q)
    ∙ put_too _ old (is_some (at (take i rows) q))
    ∙ ap (λ b. old || b) (sym (one_more rows i _ c.loop-row-test.true q) ∙ ap (λ n. is_some (at (take n rows) q)) more)
