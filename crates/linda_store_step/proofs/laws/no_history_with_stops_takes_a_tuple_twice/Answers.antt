use Rattle.linda_store_step.proofs.CourseLaws.{all_endured}
use Rattle.linda_store_step.proofs.laws.no_history_with_stops_takes_a_tuple_twice.Goals as goal

pub returns : goal.returns
returns c = all_endured
