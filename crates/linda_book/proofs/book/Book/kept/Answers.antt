-- The tree's answer is the map's.
use Rattle.std.proofs.Common.{sym, ◌∙◌}
use Rattle.linda_book.proofs.BookLaws.{viewed}
use Rattle.linda_book.proofs.book.Book.kept.Goals as goal

pub returns-in-Some : goal.returns-in-Some
returns-in-Some c = c.in-Some.ensures.value ∙ sym (viewed c.self.inside.entries c.args.self.now c.self.view_is c.args.client)

pub returns-in-None : goal.returns-in-None
returns-in-None c = c.in-None.ensures.value ∙ sym (viewed c.self.inside.entries c.args.self.now c.self.view_is c.args.client)
