use Rattle.std.proofs.Common.{length, ap, ◌∙◌}
use Rattle.linda_hold.specs.Waits.{waits_of}
use Rattle.linda_hold.specs.Index.{requests_of}
use Rattle.linda_hold.proofs.WaitLaws.{own_count}
use Rattle.linda_hold.specs.Numbered.{in_order, wait_at}
use Rattle.linda_hold.proofs.NumberedLaws.{found, ordered}
use Rattle.linda_hold.proofs.waits.Waits.count_of.Goals as goal

pub returns : goal.returns
returns c =
    own_count (in_order c.self.inside.by_arrival.entries) (ordered c.self.inside.by_arrival.entries)
    (wait_at c.self.inside.by_arrival.entries) (found c.self.inside.by_arrival.entries) c.args.client c.count_of.result
    (c.count_of.ensures (requests_of (wait_at c.self.inside.by_arrival.entries)) c.self.invariant.1.0)
    ∙ ap (λ waits. length (waits_of c.args.client waits)) c.self.view_is
