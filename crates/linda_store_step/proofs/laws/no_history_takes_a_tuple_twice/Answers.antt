use Rattle.linda_store_step.proofs.HistoryLaws.{all_safe}
use Rattle.linda_store_step.proofs.laws.no_history_takes_a_tuple_twice.Goals as goal

pub returns : goal.returns
returns c = all_safe
