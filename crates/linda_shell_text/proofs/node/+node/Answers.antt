use Rattle.std.proofs.Common.{ap, map, length, arith}
use Rattle.std.proofs.lemmas.Result.{err_from_is_err_and}
use Rattle.linda_event.specs.Trees.{tree_of}
use Rattle.linda_shell_text.specs.declared.keyword.Keyword.TheVariants as keywords
use Rattle.linda_shell_text.specs.Reading.{event_at, members_at}
use Rattle.linda_shell_text.proofs.MemberLoopLaws.{open_fails, opens_none, opens_some, goes_on, closes, fails_inside, fails_behind, ends}
use Rattle.linda_shell_text.proofs.TreeLaws.{node_is, trees_more}
use Rattle.linda_shell_text.proofs.node.+node.Goals as goal

pub build_event-returns-in-Choose : goal.build_event-returns-in-Choose
build_event-returns-in-Choose t c =
    rw (node_is c.args.room c.args.bytes.now c.in_ok-keyword.keyword c.in_ok-keyword.rest.now keywords.Choose
    (omega (arith, c.if-room-eq0.false)) c.in-Choose.is c.in_ok-keyword.ensures) c.build_choice.ensures

pub build_event-returns-in-Wrap : goal.build_event-returns-in-Wrap
build_event-returns-in-Wrap t c =
    rw (node_is c.args.room c.args.bytes.now c.in_ok-keyword.keyword c.in_ok-keyword.rest.now keywords.Wrap
    (omega (arith, c.if-room-eq0.false)) c.in-Wrap.is c.in_ok-keyword.ensures) c.build_wrap.ensures

pub build_event-returns-in-Nack : goal.build_event-returns-in-Nack
build_event-returns-in-Nack t c =
    rw (node_is c.args.room c.args.bytes.now c.in_ok-keyword.keyword c.in_ok-keyword.rest.now keywords.Nack
    (omega (arith, c.if-room-eq0.false)) c.in-Nack.is c.in_ok-keyword.ensures) c.build_nack.ensures

pub build_members-returns-in_err-some : goal.build_members-returns-in_err-some
build_members-returns-in_err-some t c =
    let p = err_from_is_err_and c.from_residual.result c.from_residual.ensures.1 in
    rw (p.1, p.2) (λ _. open_fails (event_at c.args.room) c.args.bytes.now c.in_err-some.field-0.0 c.in_err-some.ensures.1)

pub build_members-returns-then-not-some : goal.build_members-returns-then-not-some
build_members-returns-then-not-some t c =
    opens_none (event_at c.args.room) c.args.bytes.now c.in_ok-some.some c.in_ok-some.rest.now
    (map tree_of c.new-members.result.items) (ap (map tree_of) c.new-members.ensures.items) c.if-not-some.true c.in_ok-some.ensures

pub build_members-loop-init : goal.build_members-loop-init
build_members-loop-init t c =
    opens_some (event_at c.args.room) c.args.bytes.now c.in_ok-some.some c.in_ok-some.rest.now
    (map tree_of c.new-members.result.items) (ap (map tree_of) c.new-members.ensures.items) c.if-not-some.false c.in_ok-some.ensures

pub build_members-returns-in_err-member : goal.build_members-returns-in_err-member
build_members-returns-in_err-member t c =
    let p = err_from_is_err_and c.from_residual-in_err-member.result c.from_residual-in_err-member.ensures.1 in
    rw (p.1, p.2)
    (fails_inside (event_at c.args.room) (map tree_of c.loop.members.items) (length c.in_ok-some.rest.now) c.loop.counter
    c.loop.rest.now c.skip_blanks.result.now c.in_err-member.field-0.0 (members_at (event_at c.args.room) c.args.bytes.now)
    c.loop-test.true c.skip_blanks.ensures c.in_err-member.ensures c.loop.invariant)

pub build_members-returns-in_err-more : goal.build_members-returns-in_err-more
build_members-returns-in_err-more t c =
    let p = err_from_is_err_and c.from_residual-in_err-more.result c.from_residual-in_err-more.ensures.1 in
    rw (p.1, p.2)
    (λ _. fails_behind (event_at c.args.room) (map tree_of c.loop.members.items) (length c.in_ok-some.rest.now) c.loop.counter
    c.loop.rest.now c.skip_blanks.result.now (tree_of c.in_ok-member.member) c.in_ok-member.after.now c.in_err-more.field-0.0
    (members_at (event_at c.args.room) c.args.bytes.now) c.loop-test.true c.skip_blanks.ensures c.in_ok-member.ensures c.in_err-more.ensures.1 c.loop.invariant)

pub build_members-returns-then-not-more : goal.build_members-returns-then-not-more
build_members-returns-then-not-more t c =
    rw (trees_more c.loop.members.items _ c.in_ok-member.member c.in_ok-push.ensures.items)
    (closes (event_at c.args.room) (map tree_of c.loop.members.items) (length c.in_ok-some.rest.now) c.loop.counter c.loop.rest.now
    c.skip_blanks.result.now (tree_of c.in_ok-member.member) c.in_ok-member.after.now c.in_ok-more.more c.in_ok-more.after.now
    (members_at (event_at c.args.room) c.args.bytes.now) c.loop-test.true c.skip_blanks.ensures
    c.in_ok-member.ensures c.in_ok-more.ensures c.if-not-more.true c.loop.invariant)

pub build_members-loop-preserved : goal.build_members-loop-preserved
build_members-loop-preserved t c =
    rw (trees_more c.loop.members.items _ c.in_ok-member.member c.in_ok-push.ensures.items)
    (goes_on (event_at c.args.room) (map tree_of c.loop.members.items) (length c.in_ok-some.rest.now) c.loop.counter c.loop.rest.now
    c.skip_blanks.result.now (tree_of c.in_ok-member.member) c.in_ok-member.after.now c.in_ok-more.more c.in_ok-more.after.now
    (members_at (event_at c.args.room) c.args.bytes.now) c.loop-test.true c.skip_blanks.ensures
    c.in_ok-member.ensures c.in_ok-more.ensures c.if-not-more.false c.loop.invariant)

pub build_members-returns : goal.build_members-returns
build_members-returns t c = λ _. ends (event_at c.args.room) (map tree_of c.loop.members.items)
    (length c.in_ok-some.rest.now) c.loop.counter c.loop.rest.now (members_at (event_at c.args.room) c.args.bytes.now) c.loop-test.false c.loop.invariant
