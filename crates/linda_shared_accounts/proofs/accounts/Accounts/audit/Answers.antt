use Rattle.std.proofs.Common.{◌≡◌, sym, ap, ◌∙◌}
use Rattle.std.specs.FinMap as map
use Rattle.linda_shared_accounts.specs.Accounts as seen
use Rattle.linda_shared_accounts.specs.Accounts.{seats_out}
use Rattle.linda_shared_accounts.proofs.AccountsLaws.{nobody_out}
use Rattle.linda_shared_accounts.proofs.accounts.Accounts.audit.Goals as goal

pub returns-clause-none_out : goal.returns-clause-none_out
returns-clause-none_out g c yes_it_is client out =
    let none : seats_out c.self.inside.places ≡ 0 = sym c.self.invariant.out_is ∙ (c.audit.ensures.back yes_it_is).0 in
    nobody_out c.self.inside.places none client (ap (λ (t : seen.Accounts). map.get t.places client) c.self.view_is ∙ out)
