use Rattle.std.proofs.Common.{length, arith}
use Rattle.std.proofs.lemmas.Result.{err_from_is_err_and}
use Rattle.linda_codec.specs.Steps.{left_by}
use Rattle.linda_shell_text.specs.Reading.{event_at, members_at}
use Rattle.linda_shell_text.proofs.SkipLaws.{choice_left, open_fails, opens_none, opens_some, goes_on, closes, fails_inside, fails_behind, ends}
use Rattle.linda_shell_text.proofs.skipping.+skipping.Goals as goal

pub skip_members-returns-in_err-some : goal.skip_members-returns-in_err-some
skip_members-returns-in_err-some t c =
    let p = err_from_is_err_and c.from_residual.result c.from_residual.ensures.1 in
    rw (p.1, p.2) ((λ e. c.in_err-some.ensures.0 cc), open_fails (event_at c.args.room) c.args.bytes.now c.in_err-some.field-0.0 c.in_err-some.ensures.1)

pub skip_members-returns-then-not-some : goal.skip_members-returns-then-not-some
skip_members-returns-then-not-some t c =
    opens_none (event_at c.args.room) c.args.bytes.now c.in_ok-some.some c.in_ok-some.rest.now c.if-not-some.true c.in_ok-some.ensures

pub skip_members-loop-init : goal.skip_members-loop-init
skip_members-loop-init t c = opens_some (event_at c.args.room) c.args.bytes.now c.in_ok-some.some c.in_ok-some.rest.now c.if-not-some.false c.in_ok-some.ensures

pub skip_members-returns-in_err-after : goal.skip_members-returns-in_err-after
skip_members-returns-in_err-after t c =
    let p = err_from_is_err_and c.from_residual-in_err-after.result c.from_residual-in_err-after.ensures.1 in
    rw (p.1, p.2) (
      c.in_err-after.ensures.0,
      fails_inside (event_at c.args.room) (length c.in_ok-some.rest.now) c.loop.counter c.loop.rest.now
          c.skip_blanks.result.now c.in_err-after.field-0.0 (left_by (members_at (event_at c.args.room) c.args.bytes.now))
          c.loop-test.true c.skip_blanks.ensures c.in_err-after.ensures.1 c.loop.invariant,
    )

pub skip_members-returns-in_err-more : goal.skip_members-returns-in_err-more
skip_members-returns-in_err-more t c =
    let p = err_from_is_err_and c.from_residual-in_err-more.result c.from_residual-in_err-more.ensures.1 in
    rw (p.1, p.2) (
      (λ e. c.in_err-more.ensures.0 cc),
      fails_behind (event_at c.args.room) (length c.in_ok-some.rest.now) c.loop.counter c.loop.rest.now c.skip_blanks.result.now
          c.in_ok-after.after.now c.in_err-more.field-0.0 (left_by (members_at (event_at c.args.room) c.args.bytes.now))
          c.loop-test.true c.skip_blanks.ensures c.in_ok-after.ensures c.in_err-more.ensures.1 c.loop.invariant,
    )

pub skip_members-returns-then-not-more : goal.skip_members-returns-then-not-more
skip_members-returns-then-not-more t c =
    closes (event_at c.args.room) (length c.in_ok-some.rest.now) c.loop.counter c.loop.rest.now c.skip_blanks.result.now
    c.in_ok-after.after.now c.in_ok-more.more c.in_ok-more.after.now (left_by (members_at (event_at c.args.room) c.args.bytes.now))
    c.loop-test.true c.skip_blanks.ensures c.in_ok-after.ensures c.in_ok-more.ensures c.if-not-more.true c.loop.invariant

pub skip_members-loop-preserved : goal.skip_members-loop-preserved
skip_members-loop-preserved t c =
    goes_on (event_at c.args.room) (length c.in_ok-some.rest.now) c.loop.counter c.loop.rest.now c.skip_blanks.result.now
    c.in_ok-after.after.now c.in_ok-more.more c.in_ok-more.after.now (left_by (members_at (event_at c.args.room) c.args.bytes.now))
    c.loop-test.true c.skip_blanks.ensures c.in_ok-after.ensures c.in_ok-more.ensures c.if-not-more.false c.loop.invariant

pub skip_members-returns : goal.skip_members-returns
skip_members-returns t c = (
  (λ e. cc),
  ends (event_at c.args.room) (length c.in_ok-some.rest.now) c.loop.counter c.loop.rest.now
      (left_by (members_at (event_at c.args.room) c.args.bytes.now)) c.loop-test.false c.loop.invariant,
)

pub skip_event-returns-in-Choose : goal.skip_event-returns-in-Choose
skip_event-returns-in-Choose t c =
    rw (choice_left c.args.room c.args.bytes.now c.in_ok-keyword.keyword c.in_ok-keyword.rest.now
    (omega (arith, c.if-room-eq0.false)) c.in-Choose.is c.in_ok-keyword.ensures) c.skip_members.ensures
