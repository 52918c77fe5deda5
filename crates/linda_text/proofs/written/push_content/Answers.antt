use Rattle.linda_text.proofs.WrittenLaws.{one_more}
use Rattle.linda_text.proofs.written.push_content.Goals as goal

pub loop-c-preserved : goal.loop-c-preserved
loop-c-preserved c = one_more _ _ _ c.loop-c.yielded c.in-Some.c c.loop-c.invariant c.in_ok-push_char.ensures
