use Rattle.linda_shared_accounts.proofs.TellingLaws.{more_true}
use Rattle.linda_shared_accounts.proofs.laws.true_receipts_go_on.Goals as goal

pub returns : goal.returns
returns c = more_true
