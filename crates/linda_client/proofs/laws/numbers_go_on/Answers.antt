use Rattle.linda_client.proofs.NumberLaws.{numbers_go}
use Rattle.linda_client.proofs.RangeLaws.{rises}
use Rattle.linda_client.proofs.laws.numbers_go_on.Goals as goal

pub returns : goal.returns
returns c = record { rises = rises; numbers = numbers_go }
