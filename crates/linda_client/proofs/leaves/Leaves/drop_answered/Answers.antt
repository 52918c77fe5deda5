use Rattle.std.proofs.Common.{rules, ap, ◌∙◌, ◌==◌, ◌&&◌, not}
use Rattle.std.proofs.lemmas.Fn.{filter_same}
use Rattle.linda_client.specs.React.{unanswered_leaves}
use Rattle.linda_client.proofs.leaves.Leaves.drop_answered.Goals as goal

pub returns : goal.returns
returns c =
    filter_same _ (λ p. not ((p.0 == c.args.server) && (p.1 == c.args.n))) _ (λ x b f t. search rules) _ _ c.retain.ensures.filtered
    ∙ ap (unanswered_leaves c.args.server c.args.n) c.self.view_is
