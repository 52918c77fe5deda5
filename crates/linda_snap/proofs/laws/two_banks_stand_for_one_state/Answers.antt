use Rattle.linda_snap.proofs.ChoiceLaws.{one_stands}
use Rattle.linda_snap.proofs.laws.two_banks_stand_for_one_state.Goals as goal

pub returns : goal.returns
returns c = one_stands
