use Rattle.std.proofs.Common.{drop}
use Rattle.linda_journal.proofs.JournalLaws.{only_these, only_there}
use Rattle.linda_journal.proofs.journal.read_journal.Goals as goal

pub returns-clause-only : goal.returns-clause-only
returns-clause-only c = only_these c.args.form (drop c.args.at c.args.bytes.now) c.args.at c.collect.result c.collect.ensures.found c.collect.ensures.fault

pub returns-clause-damaged : goal.returns-clause-damaged
returns-clause-damaged c = only_there c.args.form (drop c.args.at c.args.bytes.now) c.args.at c.collect.result c.collect.ensures.found c.collect.ensures.fault
