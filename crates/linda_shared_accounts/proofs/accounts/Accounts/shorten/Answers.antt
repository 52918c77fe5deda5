use Rattle.linda_shared_accounts.proofs.RecallLaws.{tallies_stay}
use Rattle.linda_shared_accounts.proofs.accounts.Accounts.shorten.Goals as goal

pub invariant_of-self : goal.invariant_of-self
invariant_of-self g c =
    tallies_stay c.self.inside.tokens.out c.self.inside.tokens.back c.self.inside.places c.shorten.new.self
    c.args.client c.self.invariant c.shorten.ensures.at c.shorten.ensures.others
