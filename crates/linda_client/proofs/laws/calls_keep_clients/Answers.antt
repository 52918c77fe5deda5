use Rattle.linda_client.proofs.RangeLaws.{kept, new_is}
use Rattle.linda_client.proofs.laws.calls_keep_clients.Goals as goal

pub returns : goal.returns
returns c = record { new = new_is; kept = kept }
