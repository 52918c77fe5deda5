use Rattle.linda_client.proofs.HistoryLaws.{numbers_once}
use Rattle.linda_client.proofs.UseLaws.{numbers_used_once}
use Rattle.linda_client.proofs.laws.no_number_is_used_twice.Goals as goal

pub returns : goal.returns
returns c = record { same = numbers_once; once = numbers_used_once }
