-- The tree was set at the client; if it was not, it had nothing there.
use Rattle.std.proofs.Common.{ap, ◌∙◌, rules}
use Rattle.std.specs.FinMap.{insert}
use Rattle.linda_map_laws.proofs.MapLaws.{one_set}
use Rattle.linda_book.proofs.BookLaws.{viewed}
use Rattle.linda_book.proofs.book.Book.keep.Goals as goal

pub returns-clause-ok : goal.returns-clause-ok
returns-clause-ok c =
    one_set c.self.inside.entries c.insert.new.self c.args.client (c.args.n, c.args.reply) c.in_ok-insert.ensures.updates
    ∙ ap (λ m. insert m c.args.client (c.args.n, c.args.reply)) c.self.view_is

pub returns-in_err-insert-clause-absent : goal.returns-in_err-insert-clause-absent
returns-in_err-insert-clause-absent c =
    let none = viewed c.self.inside.entries c.args.self.now c.self.view_is c.args.client ∙ c.in_err-insert.ensures.absent in
    search rules
