use Rattle.std.proofs.Common.{arith, None, sym, ap, subst, ◌∙◌}
use Rattle.std.specs.FinMap as map
use Rattle.linda_bag.specs.Bytes.{bytes_of}
use Rattle.linda_bag.proofs.BytesLaws.{gone_bytes, none_gone}
use Rattle.linda_bag.proofs.PlaceLaws.{HasIndex}
use Rattle.linda_bag.proofs.KeptLaws.{as_after, rows_gone}
use Rattle.linda_bag.proofs.FilingLaws.{same_row}
use Rattle.linda_bag.proofs.index_bag.IndexBagBag.remove.Goals as goal

pub invariant_of-self : goal.invariant_of-self
invariant_of-self c =
    let there = sym c.remove.ensures.value ∙ c.in_err-tuple.was in
    let gone = rows_gone c.self.inside.tuples c.remove.new.self c.args.id c.remove.ensures.removed in (
      subst (HasIndex c.self.inside.index) (λ j. λ q. sym (gone q ∙ same_row (map.get c.self.inside.tuples) c.args.id None there q) j) c.self.invariant.0,
      c.self.invariant.1 ∙ ap bytes_of (sym (c.remove.ensures.removed ∙ none_gone c.self.inside.tuples c.args.id there)),
    )

pub returns-in_err-tuple-clause-value : goal.returns-in_err-tuple-clause-value
returns-in_err-tuple-clause-value c =
    c.from_residual.ensures ∙ sym c.in_err-tuple.was ∙ c.remove.ensures.value ∙ ap (λ m. map.get m c.args.id) c.self.view_is

pub returns-in_err-tuple-clause-removed : goal.returns-in_err-tuple-clause-removed
returns-in_err-tuple-clause-removed c = c.remove.ensures.removed ∙ ap (λ m. map.remove m c.args.id) c.self.view_is

pub overflow_sub-self : goal.overflow_sub-self
overflow_sub-self c =
    let there = sym c.remove.ensures.value ∙ c.in_ok-tuple.was in
    let gone = gone_bytes c.self.inside.tuples c.args.id c.in_ok-tuple.tuple there in
    omega (arith, gone, c.self.invariant.1, c.tuple_len.ensures.exact)

pub invariant_of-self-2 : goal.invariant_of-self-2
invariant_of-self-2 c =
    let there = sym c.remove.ensures.value ∙ c.in_ok-tuple.was in
    let gone = gone_bytes c.self.inside.tuples c.args.id c.in_ok-tuple.tuple there in
    let now = ap bytes_of c.remove.ensures.removed in (
      as_after (HasIndex c.self.inside.index) (HasIndex c.remove-2.new.self) (map.get c.self.inside.tuples) _ (map.get c.remove.new.self) _ _
          there (rows_gone c.self.inside.tuples c.remove.new.self c.args.id c.remove.ensures.removed) c.remove-2.ensures c.self.invariant.0,
      omega (arith, gone, now, c.self.invariant.1, c.tuple_len.ensures.exact),
    )

pub returns-clause-value : goal.returns-clause-value
returns-clause-value c = sym c.in_ok-tuple.was ∙ c.remove.ensures.value ∙ ap (λ m. map.get m c.args.id) c.self.view_is

pub returns-clause-removed : goal.returns-clause-removed
returns-clause-removed c = c.remove.ensures.removed ∙ ap (λ m. map.remove m c.args.id) c.self.view_is
