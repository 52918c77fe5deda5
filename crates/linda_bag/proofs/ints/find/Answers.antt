use Rattle.std.proofs.Common.{sym, ◌∙◌}
use Rattle.linda_bag.proofs.IntLaws.{at_code}
use Rattle.linda_bag.proofs.ints.find.Goals as goal

pub returns : goal.returns
returns c = c.get.ensures ∙ sym (at_code c.args.int.now c.code_of.result c.code_of.ensures c.args.sets.now)
