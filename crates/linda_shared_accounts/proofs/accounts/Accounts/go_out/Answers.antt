-- A client with no place gets one whose seat is out; no deed was reported to it before.
use Rattle.std.proofs.Common.{◌≡◌, ◌+◌, ◌-◌, ℕ, None, refl, sym, subst, rules}
use Rattle.std.specs.FinMap as map
use Rattle.linda_shared_accounts.specs.Tokens.{Tokens}
use Rattle.linda_shared_accounts.specs.Accounts.{Places, Tallies}
use Rattle.linda_shared_accounts.proofs.AccountsLaws.{goes_out}
use Rattle.linda_shared_accounts.proofs.accounts.Accounts.go_out.Goals as goal

pub invariant_of-self-2 : goal.invariant_of-self-2
invariant_of-self-2 g c =
    let ps : Places = c.self.inside.places in
    let out : ℕ = c.self.inside.tokens.out in
    let back : ℕ = c.self.inside.tokens.back in
    let none : map.get ps c.args.client ≡ None = search rules in
    subst (λ (p : Tokens). Tallies p.out p.back c.put.new.self) (sym c.lend-share.ensures.tokens)
    (subst (λ (m : Places). Tallies (out + 1) (back - 0) m) (sym c.in_ok-put.ensures.ok)
    (goes_out out back ps c.args.client None c.self.invariant none refl).1)
