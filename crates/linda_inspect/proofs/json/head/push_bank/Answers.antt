use Rattle.linda_inspect.specs.Object.{json_bank_made, json_bank_sizes}
use Rattle.linda_inspect.proofs.JsonLaws.{pushed_on}
use Rattle.linda_inspect.proofs.json.head.push_bank.Goals as goal

pub returns : goal.returns
returns c =
    pushed_on c.args.out.now.items c.push_bank_made.new.out.items c.push_bank_sizes.new.out.items (json_bank_made c.args.form c.args.generation)
    (json_bank_sizes c.args.records c.args.used c.args.limit) c.in_ok-push_bank_made.ensures c.in_ok-push_bank_sizes.ensures
