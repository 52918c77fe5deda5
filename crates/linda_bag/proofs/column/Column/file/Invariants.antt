use Rattle.linda_bag.specs.Columns.{StaysColumn}
use Rattle.linda_bag.proofs.column.Column.file.Given as goal

abbrev pub invariant-loop : goal.invariant-loop
invariant-loop g l = StaysColumn (g.B.Bag.contents l.bag) l.next l.fn.self l.self
