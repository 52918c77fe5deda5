use Rattle.linda_client.proofs.UseLaws.{repeats_old}
use Rattle.linda_client.proofs.laws.repeats_send_nothing_new.Goals as goal

pub returns : goal.returns
returns c = repeats_old
