use Rattle.linda_shared_accounts.proofs.CutLaws.{cut_ring, cut_last, cut_again}
use Rattle.linda_shared_accounts.proofs.laws.cut_rings_are_rings.Goals as goal

pub returns-clause-ring : goal.returns-clause-ring
returns-clause-ring c = cut_ring

pub returns-clause-last : goal.returns-clause-last
returns-clause-last c = cut_last

pub returns-clause-again : goal.returns-clause-again
returns-clause-again c = cut_again
