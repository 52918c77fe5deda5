use Rattle.std.proofs.lemmas.Result.{on_ok_weaker}
use Rattle.linda_bag.proofs.SetLaws.{set_added}
use Rattle.linda_bag.proofs.ids.put_id.Goals as goal

pub returns-clause-ok : goal.returns-clause-ok
returns-clause-ok c = on_ok_weaker c.insert.result (λ is. set_added c.args.ids.now c.insert.new.self c.args.id is) c.insert.ensures.ok
