use Rattle.std.proofs.Common.{Some, sym, subst, ◌∙◌}
use Rattle.linda_snap.proofs.BookCopyLaws.{Has, one_more}
use Rattle.linda_snap.proofs.book_copy.BookCopy.copy_next.Goals as goal

pub returns : goal.returns
returns c = record {
  copies = λ copies.
      let s = c.args.self.now in
      let book = c.args.book.now in
      let key = c.in-Some.client in
      subst (λ w. Has c.put.new.self.book (Some key) w book) (sym (c.in_ok-put.ensures.same.1 ∙ c.requires))
      (one_more s.book c.put.new.self.book book s.last key (c.in-Some.entry.0, c.in-Some.entry.1.now) (subst (λ w. Has s.book s.last w book) c.requires copies)
      c.in-Some.ensures.found c.in-Some.ensures.above c.in-Some.ensures.least c.in_ok-put.ensures.put);
}
