use Rattle.linda_client.proofs.ProgressLaws.{goes}
use Rattle.linda_client.proofs.laws.synchronizations_go_on.Goals as goal

pub returns : goal.returns
returns c = goes
