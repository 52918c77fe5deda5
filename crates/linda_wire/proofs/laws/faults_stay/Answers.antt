use Rattle.linda_wire.specs.Frames as format
use Rattle.linda_wire.proofs.FrontLaws.{broken_stays}
use Rattle.linda_wire.proofs.laws.faults_stay.Goals as goal

pub returns : goal.returns
returns c = broken_stays format.message
