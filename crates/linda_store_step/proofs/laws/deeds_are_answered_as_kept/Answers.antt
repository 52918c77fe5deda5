use Rattle.linda_store_step.proofs.KeptLaws.{answered_as_kept}
use Rattle.linda_store_step.proofs.laws.deeds_are_answered_as_kept.Goals as goal

pub returns : goal.returns
returns c = λ st new soft c m answered is. answered_as_kept st new c is soft m answered
