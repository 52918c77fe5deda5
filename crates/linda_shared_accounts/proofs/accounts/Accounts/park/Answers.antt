-- The account's place was out; its amount is what it counted, since it is no more than all.
use Rattle.std.proofs.Common.{◌≡◌, ◌+◌, ◌-◌, Some, refl, sym, ap, subst, ◌∙◌, rules}
use Rattle.std.specs.FinMap as map
use Rattle.linda_shared_accounts.specs.declared.place.Place.TheVariants as places
use Rattle.linda_shared_accounts.specs.Account.{Account}
use Rattle.linda_shared_accounts.specs.Tokens.{Tokens}
use Rattle.linda_shared_accounts.specs.Ring.{IsRing}
use Rattle.linda_shared_accounts.specs.Accounts.{Places, Tallies, IsPlaceOf}
use Rattle.linda_shared_accounts.proofs.AccountsLaws.{comes_back_counted, gives_up_uncounted}
use Rattle.linda_shared_accounts.proofs.accounts.Accounts.park.Goals as goal

pub invariant_of-self : goal.invariant_of-self
invariant_of-self g c =
    let old = c.self.inside.tokens in
    let ps : Places = c.self.inside.places in
    let part = c.account.inside in
    let is : map.get ps c.client-client.result ≡ Some places.Out = search rules in
    subst (λ (p : Tokens). Tallies p.out p.back c.remove.new.self) (sym c.take_back.ensures.tokens)
    (subst (λ (m : Places). Tallies (old.out - 1) (old.back + part.share.amount) m) (sym c.remove.ensures)
    (gives_up_uncounted old.out old.back part.deeds part.share.amount old.total ps c.client-client.result
    c.self.invariant is c.account.invariant.1 c.take_back.ensures.told c.if-deeds-eq0.true))

pub invariant_of-self-else-deeds-eq0-2 : goal.invariant_of-self-else-deeds-eq0-2
invariant_of-self-else-deeds-eq0-2 g c =
    let old = c.self.inside.tokens in
    let ps : Places = c.self.inside.places in
    let part = c.account.inside in
    let is : map.get ps c.client-client.result ≡ Some places.Out = search rules in
    let place = places.Parked part.ring part.deeds c.args.for_good in
    let own : IsPlaceOf c.client-client.result place = (
      ap (λ (a : Account). a.client) c.account.view_is ∙ sym c.client-client.ensures.is,
      subst (λ (a : Account). IsRing a.client a.ring) (sym c.account.view_is) c.client-client.ensures.ring,
    ) in
    subst (λ (p : Tokens). Tallies p.out p.back c.swap-out.new.self) (sym c.take_back.ensures.tokens)
    (subst (λ (m : Places). Tallies (old.out - 1) (old.back + part.share.amount) m) (sym c.swap-out.ensures.new)
    (comes_back_counted old.out old.back part.deeds part.share.amount old.total ps c.client-client.result
    place c.self.invariant is c.account.invariant.1 c.take_back.ensures.told refl refl own))
