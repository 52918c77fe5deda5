-- The counts are those of the step.
use Rattle.std.proofs.Common.{ap, ◌∙◌, ◌++◌, ◌∷◌, [], length}
use Rattle.std.specs.Option.{is_some}
use Rattle.linda_store_step.proofs.served.Served.add.Goals as goal

pub returns-clause-counts : goal.returns-clause-counts
returns-clause-counts c =
    c.in_ok-push.ensures.items ∙ ap (λ x. c.args.self.now.counts.items ++ x ∷ []) (c.counts_of-count.ensures
    ∙ ap (λ l. record { has_deed = is_some c.args.step.deed; sends = length l }) c.deref.ensures.value)
