use Rattle.std.proofs.Common.{sym, ap, subst}
use Rattle.linda_store_state.specs.State.{State}
use Rattle.linda_snap.specs.BookCopy.{IsCopyFor}
use Rattle.linda_server.proofs.copying.renewed.Goals as goal

pub returns-in-Some : goal.returns-in-Some
returns-in-Some c old ranges goes copied =
    let book = ap (λ (s : State). s.book) c.state.view_is in
    subst (IsCopyFor c.renew.result) book
    (c.renew.ensures.copies old c.args.state.now ranges goes (sym book) (subst (λ o. IsCopyFor o old.book) c.in-Some.is copied))
