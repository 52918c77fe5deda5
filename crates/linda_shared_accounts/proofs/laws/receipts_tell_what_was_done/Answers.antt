use Rattle.linda_shared_accounts.proofs.TellingLaws.{true_of_all}
use Rattle.linda_shared_accounts.proofs.laws.receipts_tell_what_was_done.Goals as goal

pub returns : goal.returns
returns c = true_of_all
