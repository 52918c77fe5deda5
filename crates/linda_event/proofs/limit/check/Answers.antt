use Rattle.linda_event.specs.Trees.{tree_of}
use Rattle.linda_event.proofs.SeekLaws.{not_too_deep}
use Rattle.linda_event.proofs.limit.check.Goals as goal

pub returns-then-base_count-gt-MAX_BASES-clause-deep : goal.returns-then-base_count-gt-MAX_BASES-clause-deep
returns-then-base_count-gt-MAX_BASES-clause-deep c = (λ e. cc, λ h. absurd (not_too_deep (tree_of c.args.event.now) c.if-is_deep.ensures h))

pub returns-clause-deep : goal.returns-clause-deep
returns-clause-deep c = (λ e. cc, λ h. absurd (not_too_deep (tree_of c.args.event.now) c.if-is_deep.ensures h))
