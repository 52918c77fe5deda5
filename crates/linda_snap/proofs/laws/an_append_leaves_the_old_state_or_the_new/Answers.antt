use Rattle.linda_snap.proofs.AppendLaws.{stands_with}
use Rattle.linda_snap.proofs.laws.an_append_leaves_the_old_state_or_the_new.Goals as goal

pub returns : goal.returns
returns c = stands_with
