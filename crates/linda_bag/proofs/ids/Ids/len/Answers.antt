use Rattle.std.proofs.Common.{◌≡◌, ◌||◌, false, true, Bool, refl, arith, ap, sym, ◌∙◌, subst, [], ◌∷◌}
use Rattle.std.specs.FinMap as map
use Rattle.std.proofs.lemmas.Map.Keys.{sorted_from_strictly_increasing}
use Rattle.linda_bag.specs.Ids.{IsCount}
use Rattle.linda_bag.proofs.SetLaws.{set_counted}
use Rattle.linda_bag.proofs.ids.Ids.len.Goals as goal

or_false : (b : Bool) → (b || false) ≡ b
or_false true = refl
or_false false = refl

pub returns-in-Nothing : goal.returns-in-Nothing
returns-in-Nothing g c =
    rw c.in-Nothing.is (λ rows of. record {
      ids = [];
      ascending =
          sorted_from_strictly_increasing [] (λ k within. absurd (omega arith));
      each = λ id. of id;
      long = refl;
    })

pub returns-in-One : goal.returns-in-One
returns-in-One g c = rw c.in-One.is
    (λ rows of. record {
      ids = c.in-One.field-0 ∷ [];
      ascending =
          sorted_from_strictly_increasing (c.in-One.field-0 ∷ []) (λ k within. absurd (omega arith));
      each = λ id. or_false _ ∙ of id;
      long = refl;
    })

pub returns-in-Many : goal.returns-in-Many
returns-in-Many g c = rw c.in-Many.is (λ rows of.
    subst (IsCount rows) (sym (c.len.ensures ∙ ap (λ m. map.len m) c.deref.ensures)) (set_counted c.in-Many.ids.value rows of))
