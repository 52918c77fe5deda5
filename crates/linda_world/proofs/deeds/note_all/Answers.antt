use Rattle.std.proofs.Common.{◌+◌, sym, ap, ◌∙◌, subst}
use Rattle.std.specs.FinMap.{insert}
use Rattle.linda_store_state.specs.Deed.{client_of}
use Rattle.linda_world.specs.Noted.{AreNoted}
use Rattle.linda_world.proofs.NotedLaws.{one_noted}
use Rattle.linda_world.proofs.deeds.note_all.Goals as goal

pub loop-noted-preserved : goal.loop-noted-preserved
loop-noted-preserved c =
    subst (AreNoted c.args.all.now (c.loop-noted.noted + 1))
    (sym (c.in_ok-note.ensures.ok ∙ ap (λ k. insert c.loop-noted.lasts k c.number.result) c.client.ensures
    ∙ ap (insert c.loop-noted.lasts (client_of c.index-all-noted.result)) c.number.ensures))
    (one_noted c.args.all.now c.loop-noted.noted c.loop-noted.lasts c.index-all-noted.result c.loop-noted.invariant c.loop-noted-test.true c.index-all-noted.is)
