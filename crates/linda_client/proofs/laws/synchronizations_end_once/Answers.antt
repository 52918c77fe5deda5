use Rattle.linda_client.proofs.HistoryLaws.{ends_once}
use Rattle.linda_client.proofs.laws.synchronizations_end_once.Goals as goal

pub returns : goal.returns
returns c = ends_once
