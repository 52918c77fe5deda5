use Rattle.linda_bag.proofs.FilingLaws.{no_id_index}
use Rattle.linda_bag.proofs.id_index.unfile_if_any.Goals as goal

pub returns-in_default : goal.returns-in_default
returns-in_default g c = rw c.in_default.is (no_id_index g.S.IdIndex.has g.K.Ord.cmp c.args.id_indexes.now c.args.id)
