use Rattle.std.proofs.Common.{refl, ap}
use Rattle.std.specs.Map.{lookup}
use Rattle.std.specs.BTreeMap.{is_at}
use Rattle.linda_tuple.specs.contracts.atom.AtomOrd.TheImpl as atom_ord
use Rattle.linda_bag.proofs.ColumnLaws.{empty_column}
use Rattle.linda_bag.proofs.column.Column.new.Goals as goal

pub returns : goal.returns
returns c =
    empty_column (record { kind = c.in_ok-kind_of.field-0; position = c.args.position; upto = 0; ids = c.new.result })
    c.in_ok-kind_of.ensures refl (λ v. ap (lookup (is_at (atom_ord.ghosts.cmp v))) c.new.ensures.empty)
