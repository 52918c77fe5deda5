use Rattle.std.proofs.Common.{sym, ap, subst}
use Rattle.linda_store_state.specs.State.{State}
use Rattle.linda_snap.specs.BookCopy.{Copies, IsCopyFor}
use Rattle.linda_server.proofs.copying.with_more.Goals as goal

pub returns : goal.returns
returns c copied =
    let book = ap (λ (s : State). s.book) c.state.view_is in
    subst (IsCopyFor c.go_on.result) book (c.go_on.ensures.copies (subst (Copies c.begun.result) (sym book) (c.begun.ensures c.args.state.now.book copied)))
