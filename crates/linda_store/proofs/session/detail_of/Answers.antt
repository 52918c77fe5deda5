use Rattle.linda_store.proofs.OffsetLaws.{has_detail}
use Rattle.linda_store.proofs.session.detail_of.Goals as goal

pub returns-in-Some : goal.returns-in-Some
returns-in-Some c = has_detail c.args.fault c.in-Some.offset c.in-Some.ensures
