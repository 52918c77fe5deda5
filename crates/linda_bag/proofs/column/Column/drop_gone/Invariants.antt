use Rattle.std.proofs.Common.{ℕ}
use Rattle.linda_bag.specs.Columns.{StaysColumn}
use Rattle.linda_bag.proofs.column.Column.drop_gone.Given as goal

abbrev pub invariant-loop : goal.invariant-loop
invariant-loop g l = (next : ℕ) → StaysColumn (g.B.Bag.contents l.bag) next l.fn.self l.self
