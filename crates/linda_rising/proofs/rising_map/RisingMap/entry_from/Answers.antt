use Rattle.std.proofs.Common.{◌≡◌, ℕ, ◌<◌, ◌≤◌, None, Some, subst}
use Rattle.std.specs.FinMap as map
use Rattle.linda_rising.proofs.RunLaws.{first_above, first_found, first_least}
use Rattle.linda_rising.proofs.rising_map.RisingMap.entry_from.Goals as goal

pub returns-in-Some-clause-found : goal.returns-in-Some-clause-found
returns-in-Some-clause-found g c =
    subst (λ e. map.get c.args.self.now e.0 ≡ Some e.1) c.index-found-0.is
    (first_found (map.get c.args.self.now) c.args.id c.in-Some.found.rows.now c.in-Some.found.next c.in-Some.ensures.run _ c.index-found-0.is)

pub returns-in-Some-clause-above : goal.returns-in-Some-clause-above
returns-in-Some-clause-above g c =
    subst (λ e. c.args.id ≤ e.0) c.index-found-0.is
    (first_above (map.get c.args.self.now) c.args.id c.in-Some.found.rows.now c.in-Some.found.next c.in-Some.ensures.run _ c.index-found-0.is)

pub returns-in-Some-clause-least : goal.returns-in-Some-clause-least
returns-in-Some-clause-least g c =
    subst (λ e. (k : ℕ) → c.args.id ≤ k → k < e.0 → map.get c.args.self.now k ≡ None) c.index-found-0.is
    (first_least (map.get c.args.self.now) c.args.id c.in-Some.found.rows.now c.in-Some.found.next c.in-Some.ensures.run _ c.index-found-0.is)
