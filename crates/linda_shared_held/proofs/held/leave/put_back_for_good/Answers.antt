use Rattle.std.proofs.Common.{ap}
use Rattle.linda_shared_accounts.specs.Accounts.{Accounts, ComesBack}
use Rattle.linda_shared_held.proofs.AccountsLaws.{either_way}
use Rattle.linda_shared_held.proofs.held.leave.put_back_for_good.Goals as goal

pub returns-clause-total : goal.returns-clause-total
returns-clause-total g c =
    either_way (ComesBack c.args.accounts.now.places c.args.account) c.park.new.self.total c.args.accounts.now.total
    (λ comes. ap (λ (t : Accounts). t.total) (c.park.ensures.parked comes)) (λ lost. ap (λ (t : Accounts). t.total) (c.park.ensures.lost lost))
