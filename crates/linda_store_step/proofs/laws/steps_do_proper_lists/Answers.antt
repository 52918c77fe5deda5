use Rattle.linda_store_step.proofs.AnswerLaws.{step_proper}
use Rattle.linda_store_step.proofs.laws.steps_do_proper_lists.Goals as goal

pub returns : goal.returns
returns c = λ st mid new soft ds c m answered is done step.
    let both = step_proper st mid new soft ds c m answered is done.proper done.after step in
    record { proper = both.0; after = both.1 }
