use Rattle.std.proofs.Common.{ap, eqb-true, nat_cmp}
use Rattle.std.specs.Ordering.{is_eq}
use Rattle.linda_bag.proofs.ids.Ids.is_only.Goals as goal

pub returns-in-One : goal.returns-in-One
returns-in-One c = rw c.in-One.is (λ same q. ap (λ k. is_eq (nat_cmp q k)) (eqb-true _ _ same))
