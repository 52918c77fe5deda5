-- The seat that goes out was parked.
use Rattle.std.proofs.Common.{◌≡◌, ◌≤◌, ◌*◌, ◌+◌, ◌-◌, ℕ, false, Some, sym, ap, subst, ◌∙◌}
use Rattle.std.specs.FinMap as map
use Rattle.linda_shared_accounts.specs.declared.limits.TheConstants.{ACCOUNT_PARTS, PARTS}
use Rattle.linda_shared_accounts.specs.declared.place.Place.TheVariants as places
use Rattle.linda_shared_accounts.specs.Tokens.{Tokens}
use Rattle.linda_shared_accounts.specs.Accounts as seen
use Rattle.linda_shared_accounts.specs.Accounts.{Places, Tallies, is_away, seats_out}
use Rattle.linda_shared_accounts.proofs.AccountsLaws.{goes_out}
use Rattle.linda_shared_accounts.proofs.accounts.Accounts.go_out_again.Goals as goal

pub lend-share-requires : goal.lend-share-requires
lend-share-requires g c =
    let ps : Places = c.self.inside.places in
    let parked : map.get ps c.args.client ≡ Some (places.Parked c.in-Parked.ring c.in-Parked.deeds c.in-Parked.for_good) =
    c.swap.ensures.old ∙ ap Some c.in-Parked.is in
    let here : is_away (Some (places.Parked c.in-Parked.ring c.in-Parked.deeds c.in-Parked.for_good)) ≡ false =
    ap is_away (sym parked) ∙ (ap (λ (t : seen.Accounts). is_away (map.get t.places c.args.client)) c.self.view_is ∙ c.requires.place.0) in
    let out : c.self.inside.tokens.out ≡ seats_out c.args.self.now.places = c.self.invariant.out_is
    ∙ ap (λ (t : seen.Accounts). seats_out t.places) c.self.view_is in (
      subst (λ (n : ℕ). ACCOUNT_PARTS * (n + 1) ≤ PARTS) (sym out) c.requires.parts,
      (goes_out c.self.inside.tokens.out c.self.inside.tokens.back ps c.args.client
          (Some (places.Parked c.in-Parked.ring c.in-Parked.deeds c.in-Parked.for_good)) c.self.invariant parked here).0,
    )

pub invariant_of-self : goal.invariant_of-self
invariant_of-self g c =
    let ps : Places = c.self.inside.places in
    let parked : map.get ps c.args.client ≡ Some (places.Parked c.in-Parked.ring c.in-Parked.deeds c.in-Parked.for_good) =
    c.swap.ensures.old ∙ ap Some c.in-Parked.is in
    let here : is_away (Some (places.Parked c.in-Parked.ring c.in-Parked.deeds c.in-Parked.for_good)) ≡ false =
    ap is_away (sym parked) ∙ (ap (λ (t : seen.Accounts). is_away (map.get t.places c.args.client)) c.self.view_is ∙ c.requires.place.0) in
    let out : ℕ = c.self.inside.tokens.out in
    let back : ℕ = c.self.inside.tokens.back in
    subst (λ (p : Tokens). Tallies p.out p.back c.swap.new.self) (sym c.lend-share.ensures.tokens)
    (subst (λ (m : Places). Tallies (out + 1) (back - c.in-Parked.deeds) m) (sym c.swap.ensures.new)
    (goes_out out back ps c.args.client (Some (places.Parked c.in-Parked.ring c.in-Parked.deeds c.in-Parked.for_good)) c.self.invariant parked here).1)
