use Rattle.std.proofs.Common.{◌≤◌, ◌<◌, ℕ, [], ◌∷◌, Option, Some, None}
use Rattle.std.specs.Prelude.{IfSome, IfNone}
use Rattle.std.specs.Ordering.{nat_cmp}
use Rattle.std.specs.FinMap.{FinMap}
use Rattle.linda_tuple.specs.Tuple.{Tuple}
use Rattle.linda_tuple.specs.Template.{Template}
use Rattle.linda_shared_listing.specs.Firsts.{IsNext}
use Rattle.linda_shared_listing.specs.Shapes.{is_matched}
use Rattle.linda_shared_listing.proofs.ShapeLaws.{free, free_matched, not_matched}
use Rattle.linda_shared_listing.proofs.found.next_match.Goals as goal

next_is : (bag : FinMap nat_cmp Tuple) (shape : Template) (from : ℕ) (found : Option ℕ) → IfSome found (free bag shape) → IfSome found (λ id. from ≤ id)
    → IfSome found (λ id. (k : ℕ) → from ≤ k → k < id → free bag shape k → ⊥)
    → IfNone found ((k : ℕ) → from ≤ k → free bag shape k → ⊥) → IsNext (is_matched bag (shape ∷ [])) from found
next_is bag shape from None is above least none = λ k le. not_matched bag shape k (none k le)
next_is bag shape from (Some id) is above least none = record {
  above = above;
  so = free_matched bag shape id is;
  least = λ k le lt. not_matched bag shape k (least k le lt);
}

pub returns : goal.returns
returns c =
    let e = c.least_match_from.ensures in
    next_is c.args.bag.now c.args.shape.now c.args.from c.least_match_from.result.id e.found e.above e.least e.none
