use Rattle.linda_shared_accounts.proofs.WeightLaws.{receipts_snoc, weigh_all}
use Rattle.linda_shared_accounts.proofs.laws.receipts_weigh_one_each.Goals as goal

pub returns-clause-one_more : goal.returns-clause-one_more
returns-clause-one_more c = receipts_snoc

pub returns-clause-all : goal.returns-clause-all
returns-clause-all c = weigh_all
