use Rattle.std.proofs.Common.{◌≤◌, ◌+◌, ◌∷◌, length, drop, sym, ap, subst, ◌∙◌, rules}
use Rattle.std.proofs.lemmas.List.{drop_more, drop_all}
use Rattle.linda_snap.proofs.BookCopyLaws.{CopiesBut, copies_but, first_again, but_for_none}
use Rattle.linda_snap.proofs.book_copy.BookCopy.renew.Goals as goal

pub loop-deed-preserved : goal.loop-deed-preserved
loop-deed-preserved c but =
    let ds = c.args.deeds.now in
    let i = c.loop-deed.deed-index in
    let d = c.deed-item.result in
    let rest = drop (i + 1) ds in
    let first = drop_more ds i d c.loop-deed-test.true ∙ ap (λ e. e ∷ rest) (sym c.deed-item.is) in
    let again = c.in_ok-copy_again.ensures in
    first_again c.loop-deed.copy c.copy_again.new.self d rest c.args.book.now c.client.result c.client.ensures
    (subst (λ l. CopiesBut c.loop-deed.copy l c.args.book.now) first (c.loop-deed.invariant but)) again.here again.none again.others again.same.0 again.same.1

pub returns : goal.returns
returns c = record {
  copies = λ old new ranges goes is copies.
      let ds = c.args.deeds.now in
      let i = c.loop-deed.deed-index in
      let past : length ds ≤ i = search rules in
      but_for_none c.loop-deed.copy c.args.book.now (subst (λ l. CopiesBut c.loop-deed.copy l c.args.book.now) (drop_all i ds past)
      (c.loop-deed.invariant (copies_but c.args.self ds old new c.args.book.now ranges goes is copies)));
}
