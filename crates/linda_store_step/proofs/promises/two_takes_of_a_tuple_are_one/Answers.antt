use Rattle.linda_store_step.proofs.TakeLaws.{one_take}
use Rattle.linda_store_step.proofs.promises.two_takes_of_a_tuple_are_one.Goals as goal

pub returns : goal.returns
returns c = one_take
