-- A client that has a place has one in the tree, and its entry is set there.
use Rattle.std.proofs.Common.{◌≡◌, None, IsSome, sym, ap, ◌∙◌, subst, rules}
use Rattle.std.specs.FinMap as map
use Rattle.linda_map_laws.proofs.MapLaws.{one_set}
use Rattle.linda_shared_accounts.proofs.PlaceLaws.{viewed}
use Rattle.linda_shared_accounts.proofs.places.Places.swap.Goals as goal

pub unreachable-requires : goal.unreachable-requires
unreachable-requires c =
    let none : map.get c.args.self.now c.args.client ≡ None =
    viewed c.self.inside.entries c.args.self.now c.self.view_is c.args.client ∙ (sym c.in-Ok-None.ensures.old ∙ c.in-Ok-None.field-0-is) in
    let some = subst (λ o. IsSome o) none c.requires in
    search rules

pub unreachable-requires-in-Err : goal.unreachable-requires-in-Err
unreachable-requires-in-Err c =
    let none : map.get c.args.self.now c.args.client ≡ None =
    viewed c.self.inside.entries c.args.self.now c.self.view_is c.args.client ∙ c.in-Err.ensures.absent in
    let some = subst (λ o. IsSome o) none c.requires in
    search rules

pub returns-clause-new : goal.returns-clause-new
returns-clause-new c =
    one_set c.self.inside.entries c.insert.new.self c.args.client c.args.place c.in-Ok-Some.ensures.updates
    ∙ ap (λ m. map.insert m c.args.client c.args.place) c.self.view_is

pub returns-clause-old : goal.returns-clause-old
returns-clause-old c =
    viewed c.self.inside.entries c.args.self.now c.self.view_is c.args.client
    ∙ (sym c.in-Ok-Some.ensures.old ∙ c.in-Ok-Some.field-0-is)
