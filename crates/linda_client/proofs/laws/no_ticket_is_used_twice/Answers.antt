use Rattle.linda_client.proofs.HistoryLaws.{tickets_once}
use Rattle.linda_client.proofs.UseLaws.{tickets_used_once}
use Rattle.linda_client.proofs.laws.no_ticket_is_used_twice.Goals as goal

pub returns : goal.returns
returns c = record { same = tickets_once; once = tickets_used_once }
