use Rattle.std.proofs.Common.{sym, subst}
use Rattle.linda_shared_accounts.specs.Tokens.{Tokens}
use Rattle.linda_shared_accounts.specs.Accounts.{Places, Tallies}
use Rattle.linda_shared_accounts.proofs.AccountsLaws.{nothing_yet}
use Rattle.linda_shared_accounts.proofs.accounts.Accounts.new.Goals as goal

pub invariant_of-result : goal.invariant_of-result
invariant_of-result g c =
    subst (λ (p : Tokens). Tallies p.out p.back c.new-2.result) (sym c.new.ensures)
    (subst (λ (ps : Places). Tallies 0 0 ps) (sym c.new-2.ensures) nothing_yet)
