use Rattle.linda_shared_accounts.proofs.TellingLaws.{told_once}
use Rattle.linda_shared_accounts.proofs.laws.each_message_is_told_once.Goals as goal

pub returns : goal.returns
returns c = told_once
