use Rattle.std.proofs.Common.{int_cmp, refl, rules, sym, ap, subst, ◌∙◌}
use Rattle.linda_bag.specs.Filing.{IsIndexed, no_rows, rows_at}
use Rattle.linda_bag.specs.Ids.{IsOf}
use Rattle.linda_bag.specs.Ints.{ids_at}
use Rattle.linda_bag.specs.FirstFieldIndex.{int_of}
use Rattle.linda_bag.proofs.IntLaws.{none_at}
use Rattle.linda_bag.proofs.first_field_index.FirstFieldIndex.empty.Goals as goal

pub returns : goal.returns
returns g c = (
  (λ q. subst (λ o. IsIndexed IsOf o (rows_at int_cmp (int_of g.R.Tagged.first_of) q no_rows))
      (sym (ap (λ m. ids_at m q) c.new.ensures ∙ none_at q)) (λ id. refl)),
  (λ q. search rules),
)
