use Rattle.std.proofs.Common.{ap, sym, ◌∙◌, is_some, true≢false, eqb-true, eq-eqb}
use Rattle.std.specs.FinMap as map
use Rattle.linda_bag.proofs.SetLaws.{set_bare}
use Rattle.linda_bag.proofs.OrderLaws.{number_itself}
use Rattle.linda_bag.proofs.ids.IdsIdIndex.is_empty.Goals as goal

pub returns-in-One : goal.returns-in-One
returns-in-One g c = rw c.in-One.is (λ rows same. (
  (λ no. absurd (true≢false (sym no))),
  (λ bare. absurd (true≢false (sym (number_itself c.in-One.field-0) ∙ same c.in-One.field-0 ∙ ap is_some (bare c.in-One.field-0)))),
))

pub returns-in-Many : goal.returns-in-Many
returns-in-Many g c = rw c.in-Many.is (λ rows same.
    let bare = set_bare c.in-Many.ids.value rows same in
    let long = c.len.ensures ∙ ap (λ m. map.len m) c.deref.ensures in
    ((λ yes. bare.0 (sym long ∙ eqb-true _ _ yes)), (λ none. eq-eqb _ _ (long ∙ bare.1 none))))
