use Rattle.std.proofs.Common.{◌≡◌, ℕ, zero, suc, ◌<◌, Bool, true, false, ◌==◌, length, sym, ◌∙◌, arith}
use Rattle.std.proofs.lemmas.Bool.{eqb-true, true≢false}
use Rattle.linda_journal.proofs.PayloadLaws.{one_more_counted, too_many, no_deed_there, no_deeds}
use Rattle.linda_journal.proofs.payload.count_deeds.Goals as goal

some_left : (n : ℕ) (b : Bool) → b ≡ (n == 0) → b ≡ false → 0 < n
some_left zero b is e = absurd (true≢false (sym is ∙ e))
some_left (suc n) b is e = omega arith

none_left : (n : ℕ) (b : Bool) → b ≡ (n == 0) → b ≡ true → n ≡ 0
none_left n b is e = eqb-true n 0 (sym is ∙ e)

pub returns-then-count-ge-MAX_DEEDS-clause-none : goal.returns-then-count-ge-MAX_DEEDS-clause-none
returns-then-count-ge-MAX_DEEDS-clause-none c =
    too_many c.args.form c.args.payload.now c.loop-rest.count c.loop-rest.rest.now c.loop-rest.invariant
    (some_left (length c.loop-rest.rest.now) c.is_empty.result c.is_empty.ensures c.loop-rest-test.true) c.if-count-ge-MAX_DEEDS.true

pub returns-in_default-clause-none : goal.returns-in_default-clause-none
returns-in_default-clause-none c =
    no_deed_there c.args.form c.args.payload.now c.loop-rest.count c.loop-rest.rest.now c.in_default.field-0 c.loop-rest.invariant
    (some_left (length c.loop-rest.rest.now) c.is_empty.result c.is_empty.ensures c.loop-rest-test.true) c.in_default.ensures.1

pub loop-rest-preserved : goal.loop-rest-preserved
loop-rest-preserved c =
    one_more_counted c.args.form c.args.payload.now c.loop-rest.count c.loop-rest.rest.now c.in-Ok.after.now c.loop-rest.invariant
    (λ i. omega (arith, c.type_inv.payload i)) c.if-count-ge-MAX_DEEDS.false c.in-Ok.ensures

pub returns-then-count-eq0-clause-none : goal.returns-then-count-eq0-clause-none
returns-then-count-eq0-clause-none c =
    no_deeds c.args.form c.args.payload.now c.loop-rest.count c.loop-rest.rest.now c.loop-rest.invariant
    (none_left (length c.loop-rest.rest.now) c.is_empty.result c.is_empty.ensures c.loop-rest-test.false) c.if-count-eq0.true
