-- A head is read from the front of what was sent.
use Rattle.std.proofs.Common.{◌<◌, ◌≤◌, inr, Ok, length, subst, take_all, ◌∙◌, arith}
use Rattle.httparse.specs.Grammar.{HasNoRequest}
use Rattle.httparse.specs.Outcome.{IfComplete, OnPartial}
use Rattle.httparse.specs.Spans.{IsRequestOf}
use Rattle.httparse.specs.declared.Error.{Error}
use Rattle.httparse.specs.declared.spans.RequestSpans.{RequestSpans}
use Rattle.linda_net_http.specs.declared.head.TheConstants.{MOST_HEAD}
use Rattle.linda_net_http.proofs.HeadLaws.{read_at}
use Rattle.linda_net_http.proofs.head.parse_head.Goals as goal

pub returns-in-Ok-Complete : goal.returns-in-Ok-Complete
returns-in-Ok-Complete c =
    let buf = c.front-front.result.now in
    let fields = c.parse_request.new.headers in
    let is = subst (λ s. IfComplete {A = RequestSpans} {E = Error} (Ok s) (IsRequestOf buf fields))
    c.in-Ok-Complete.field-0-is c.in-Ok-Complete.ensures.complete in
    read_at c.args.sent.now buf fields c.in-Ok-Complete.head c.head_at.result c.front-front.ensures is c.head_at.ensures

pub returns-then-sent-lt-MOST_HEAD : goal.returns-then-sent-lt-MOST_HEAD
returns-then-sent-lt-MOST_HEAD c =
    let short : length c.args.sent.now < MOST_HEAD = omega (arith, c.if-sent-lt-MOST_HEAD.true) in
    let fits : length c.args.sent.now ≤ MOST_HEAD = omega (arith, short) in
    let none = subst (λ s. OnPartial {A = RequestSpans} {E = Error} (Ok s) (HasNoRequest c.front-front.result.now))
    c.in-Ok-Partial.field-0-is c.in-Ok-Partial.ensures.partial in
    (short, subst HasNoRequest (c.front-front.ensures ∙ take_all MOST_HEAD c.args.sent.now fits) none)

pub returns-else-sent-lt-MOST_HEAD : goal.returns-else-sent-lt-MOST_HEAD
returns-else-sent-lt-MOST_HEAD c =
    let long : MOST_HEAD ≤ length c.args.sent.now = omega (arith, c.if-sent-lt-MOST_HEAD.false) in
    let none = subst (λ s. OnPartial {A = RequestSpans} {E = Error} (Ok s) (HasNoRequest c.front-front.result.now))
    c.in-Ok-Partial.field-0-is c.in-Ok-Partial.ensures.partial in
    inr (long, subst HasNoRequest c.front-front.ensures none)
