-- A client is in the book exactly if it is in the tree.
use Rattle.std.proofs.Common.{rules}
use Rattle.linda_book.proofs.BookLaws.{viewed}
use Rattle.linda_book.proofs.book.Book.entry_after.Goals as goal

pub returns-clause-found : goal.returns-clause-found
returns-clause-found c = let at = viewed c.self.inside.entries c.args.self.now c.self.view_is in search rules

pub returns-clause-least : goal.returns-clause-least
returns-clause-least c = let at = viewed c.self.inside.entries c.args.self.now c.self.view_is in search rules

pub returns-in_err-next-clause-none : goal.returns-in_err-next-clause-none
returns-in_err-next-clause-none c = let at = viewed c.self.inside.entries c.args.self.now c.self.view_is in search rules
