use Rattle.linda_bag.proofs.SetLaws.{set_taken}
use Rattle.linda_bag.proofs.ids.take_id.Goals as goal

pub returns : goal.returns
returns c = set_taken c.args.ids.now c.remove.new.self c.args.id c.remove.ensures.removed
