use Rattle.std.proofs.Common.{◌+◌, ap, ◌∙◌}
use Rattle.linda_net_pump.proofs.ReadingLaws.{reads_more, left_shorter}
use Rattle.linda_net_pump.proofs.pumping.batch.Goals as goal

pub loop-preserved : goal.loop-preserved
loop-preserved c =
    let before = c.loop.invariant in
    let found = rw c.in-Ok-Some.field-0-is at c.in-Ok-Some.ensures.found in (
      reads_more _ _ _ _ _ _ _ before.0 found c.in_ok-keep-in-Ok-Some.ensures.items,
      c.in_ok-keep-in-Ok-Some.ensures.len ∙ ap (λ n. n + 1) before.1,
      left_shorter _ _ _ _ before.2 found.0,
    )
