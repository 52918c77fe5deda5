-- The number in the tree's answer is that in the map's.
use Rattle.std.proofs.Common.{ap, sym, ◌∙◌}
use Rattle.linda_book.specs.Entries.{number_in}
use Rattle.linda_book.proofs.BookLaws.{viewed}
use Rattle.linda_book.proofs.book.Book.last.Goals as goal

pub returns-in-Some : goal.returns-in-Some
returns-in-Some c = ap number_in (c.in-Some.ensures.value ∙ sym (viewed c.self.inside.entries c.args.self.now c.self.view_is c.args.client))

pub returns-in-None : goal.returns-in-None
returns-in-None c = ap number_in (c.in-None.ensures.value ∙ sym (viewed c.self.inside.entries c.args.self.now c.self.view_is c.args.client))
