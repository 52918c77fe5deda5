-- The records, and a closed gate after them.
use Rattle.linda_journal.proofs.SpellLaws.{all_spelled}
use Rattle.linda_journal.proofs.record.spell_all.Goals as goal

pub returns : goal.returns
returns c = all_spelled c.args.form c.args.deeds.now c.in_ok-out.out.items c.push.new.self.items c.in_ok-out.ensures c.requires.some c.in_ok-push.ensures.items
