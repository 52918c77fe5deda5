use Rattle.std.proofs.Common.{rules, ◌==◌}
use Rattle.std.proofs.lemmas.Fn.{filter_same}
use Rattle.linda_client.proofs.packet.retain_to.Goals as goal

pub returns : goal.returns
returns c = filter_same _ (λ p. p.0 == c.args.server) _ (λ x b f t. search rules) _ _ c.retain.ensures.filtered
