-- What the tree's answer says of the client is what the map's says.
use Rattle.std.proofs.Common.{ap, sym, ◌∙◌}
use Rattle.linda_book.specs.Entries.{left_in, number_in}
use Rattle.linda_book.proofs.BookLaws.{viewed}
use Rattle.linda_book.proofs.book.Book.standing.Goals as goal

pub returns-in-Some-clause-last : goal.returns-in-Some-clause-last
returns-in-Some-clause-last c = ap number_in (c.in-Some.ensures.value ∙ sym (viewed c.self.inside.entries c.args.self.now c.self.view_is c.args.client))

pub returns-in-Some-clause-left : goal.returns-in-Some-clause-left
returns-in-Some-clause-left c = c.is_left.ensures
    ∙ ap left_in (c.in-Some.ensures.value ∙ sym (viewed c.self.inside.entries c.args.self.now c.self.view_is c.args.client))

pub returns-in-None-clause-last : goal.returns-in-None-clause-last
returns-in-None-clause-last c = ap number_in (c.in-None.ensures.value ∙ sym (viewed c.self.inside.entries c.args.self.now c.self.view_is c.args.client))

pub returns-in-None-clause-left : goal.returns-in-None-clause-left
returns-in-None-clause-left c = ap left_in (c.in-None.ensures.value ∙ sym (viewed c.self.inside.entries c.args.self.now c.self.view_is c.args.client))
