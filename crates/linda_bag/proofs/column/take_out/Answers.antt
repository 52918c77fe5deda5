use Rattle.std.proofs.Common.{refl, None, Some}
use Rattle.linda_tuple.specs.contracts.atom.AtomOrd.TheImpl as atom_ord
use Rattle.linda_bag.specs.Ids.{IsOf}
use Rattle.linda_bag.proofs.FilingLaws.{refiled_as}
use Rattle.linda_bag.proofs.column.take_out.Goals as goal

pub returns : goal.returns
returns c =
    refiled_as atom_ord.ghosts.cmp IsOf (λ v. Some v) c.args.ids.now c.unfile.new.id_indexes c.args.id
    (Some c.args.value.now) None (Some (c.args.value.now, c.args.value.now)) None refl refl c.unfile.ensures
