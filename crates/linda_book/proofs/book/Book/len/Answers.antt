-- The map has as many entries as the tree.
use Rattle.std.proofs.Common.{ap, sym, ◌∙◌}
use Rattle.std.specs.FinMap.{len}
use Rattle.linda_map_laws.proofs.MapLaws.{len_entries}
use Rattle.linda_book.proofs.book.Book.len.Goals as goal

pub returns : goal.returns
returns c = c.len.ensures.len ∙ sym (len_entries c.self.inside.entries c.len.ensures.ordered) ∙ ap len c.self.view_is
