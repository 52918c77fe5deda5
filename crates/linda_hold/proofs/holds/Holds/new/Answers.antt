use Rattle.std.proofs.Common.{◌≡◌, ℕ, None, sym, ap, subst, ◌∙◌}
use Rattle.std.specs.FinMap as map
use Rattle.linda_map_laws.proofs.MapLaws.{get_empty}
use Rattle.linda_hold.specs.TicketIndex.{HasNames}
use Rattle.linda_hold.proofs.holds.Holds.new.Goals as goal

pub invariant_of-result : goal.invariant_of-result
invariant_of-result c =
    let none : (q : ℕ) → map.get c.new.result q ≡ None = λ q. ap (λ m. map.get m q) c.new.ensures ∙ get_empty q in
    subst (HasNames c.empty.result) (λ j. λ q. sym (none q) j) c.empty.ensures
