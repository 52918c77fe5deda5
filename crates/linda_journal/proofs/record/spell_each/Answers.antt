-- Each turn spells one record more, until none is left.
use Rattle.std.proofs.Common.{◌≡◌, ◌<◌, ◌∙◌, ℕ, zero, suc, Bool, false, ◌==◌, length, sym, arith}
use Rattle.std.proofs.lemmas.Bool.{eqb-true, true≢false}
use Rattle.linda_journal.proofs.SpellLaws.{next_good, one_more_spelled, each_spelled}
use Rattle.linda_journal.proofs.record.spell_each.Goals as goal

some_left : (n : ℕ) (b : Bool) → b ≡ (n == 0) → b ≡ false → 0 < n
some_left zero b is e = absurd (true≢false (sym is ∙ e))
some_left (suc n) b is e = omega arith

pub loop-rest-preserved : goal.loop-rest-preserved
loop-rest-preserved c =
    let rest = c.loop-rest.rest.now in
    let batch = c.split_at.result.0.now in
    let after = c.split_at.result.1.now in
    let n = c.first_of.result in
    let long : length batch ≡ n = c.split_at.ensures.front_len in
    let left = some_left (length rest) c.is_empty.result c.is_empty.ensures c.loop-rest-test.true in
    let some : 0 < length batch = omega (arith, long, c.first_of.ensures.some left) in
    let good = next_good c.args.form c.args.deeds.now c.loop-rest.out.items rest batch n c.loop-rest.invariant
    c.split_at.ensures.front some (omega (arith, long, c.first_of.ensures.few)) in
    one_more_spelled c.args.form c.args.deeds.now c.loop-rest.out.items rest batch after n
    c.push_record.new.out.items c.loop-rest.invariant c.split_at.ensures.front c.split_at.ensures.back good
    (λ fewer. let all = c.first_of.ensures.all (omega (arith, long, fewer)) in omega (arith, long, all)) c.in_ok-push_record.ensures

pub returns : goal.returns
returns c =
    each_spelled c.args.form c.args.deeds.now c.loop-rest.out.items c.loop-rest.rest.now c.loop-rest.invariant
    (eqb-true (length c.loop-rest.rest.now) 0 (sym c.is_empty.ensures ∙ c.loop-rest-test.false))
