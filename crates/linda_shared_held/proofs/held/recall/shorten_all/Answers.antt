use Rattle.std.proofs.Common.{inl, refl, ◌∙◌}
use Rattle.linda_shared_accounts.proofs.RecallLaws.{shorten_more}
use Rattle.linda_shared_held.proofs.held.recall.shorten_all.Goals as goal

pub loop-client-init : goal.loop-client-init
loop-client-init g c = (refl, λ q. inl refl)

pub loop-client-preserved : goal.loop-client-preserved
loop-client-preserved g c = (
  c.shorten.ensures.total ∙ c.loop-client.invariant.0,
  shorten_more c.args.accounts.now.places c.loop-client.accounts.places c.shorten.new.self.places
      c.in-Some.client c.loop-client.invariant.1 c.shorten.ensures.at c.shorten.ensures.others,
)
