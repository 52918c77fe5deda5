use Rattle.linda_bag.proofs.FilingLaws.{one_id_index, taken}
use Rattle.linda_bag.proofs.id_index.unfile.Goals as goal

pub returns : goal.returns
returns g c = taken g.met.K.Ord.total (one_id_index g.met.K.Ord.total c.take.ensures)
