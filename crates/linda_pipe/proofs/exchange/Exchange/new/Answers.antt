use Rattle.linda_pipe.proofs.StepLaws.{begun}
use Rattle.linda_pipe.proofs.exchange.Exchange.new.Goals as goal

pub returns-clause-underway : goal.returns-clause-underway
returns-clause-underway g c = begun c.args.node c.new.result c.new-2.result c.new-3.result c.new.ensures c.new-2.ensures.items c.new-3.ensures.items
