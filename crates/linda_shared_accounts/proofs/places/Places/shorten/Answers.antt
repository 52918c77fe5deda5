-- The place is taken out, and put back with a shorter ring.
use Rattle.std.proofs.Common.{Some, IsSome, refl, sym, ap, subst, ◌∙◌}
use Rattle.std.specs.FinMap as map
use Rattle.linda_map_laws.proofs.MapLaws.{get_same, get_other}
use Rattle.linda_shared_accounts.specs.declared.place.Place.TheVariants as places
use Rattle.linda_shared_accounts.specs.Accounts.{Places, shortened_at}
use Rattle.linda_shared_accounts.proofs.places.Places.shorten.Goals as goal

pub swap-out-requires : goal.swap-out-requires
swap-out-requires c =
    subst (λ (m : Places). IsSome (map.get m c.args.client)) (sym c.swap-place.ensures.new)
    (subst (λ o. IsSome o) (sym (get_same c.args.self.now c.args.client places.Out)) refl)

pub returns-clause-at : goal.returns-clause-at
returns-clause-at c =
    ap (λ (m : Places). map.get m c.args.client) c.swap-out.ensures.new
    ∙ (get_same c.swap-place.new.self c.args.client c.shortened.result ∙ (ap Some c.shortened.ensures ∙ sym (ap shortened_at c.swap-place.ensures.old)))

pub returns-clause-others : goal.returns-clause-others
returns-clause-others c q apart =
    ap (λ (m : Places). map.get m q) c.swap-out.ensures.new
    ∙ (get_other c.swap-place.new.self c.args.client c.shortened.result q apart
    ∙ (ap (λ (m : Places). map.get m q) c.swap-place.ensures.new ∙ get_other c.args.self.now c.args.client places.Out q apart))
