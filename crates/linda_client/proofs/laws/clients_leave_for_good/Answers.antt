use Rattle.linda_client.proofs.LeavingLaws.{leaves_good, sends_no_more}
use Rattle.linda_client.proofs.laws.clients_leave_for_good.Goals as goal

pub returns : goal.returns
returns c = record { leaves = leaves_good; after = sends_no_more }
