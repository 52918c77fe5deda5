use Rattle.linda_client.proofs.TakingLaws.{taken_by}
use Rattle.linda_client.proofs.laws.only_a_taken_takes.Goals as goal

pub returns : goal.returns
returns c = taken_by
