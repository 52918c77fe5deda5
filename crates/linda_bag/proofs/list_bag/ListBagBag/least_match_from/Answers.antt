use Rattle.std.proofs.Common.{rules, ℕ, IsSome, refl, sym, subst}
use Rattle.linda_tuple.specs.Tuple.{Tuple}
use Rattle.linda_bag.proofs.LeftLaws.{all_left, first_stored, fewer_left, none_below, not_free}
use Rattle.linda_bag.proofs.list_bag.ListBagBag.least_match_from.Goals as goal

pub loop-id-init : goal.loop-id-init
loop-id-init g c =
    let begun = c.into_iter-id-iterator.ensures.into_iter_gives in
    all_left c.args.self.now.tuples _ _ begun.0 begun.5 begun.6 (λ k wanted. subst (λ o. IsSome o) (sym wanted.1.stored) refl)

pub returns-then-is_free_match-clause-found : goal.returns-then-is_free_match-clause-found
returns-then-is_free_match-clause-found g c =
    let fits = c.is_free_match.ensures.0 c.if-is_free_match.true in
    record {
      row = c.in-Some.tuple.now;
      stored = first_stored _ _ _ (c.in-Some.id.now, c.in-Some.tuple.now) _ c.loop-id.invariant c.in-Some.ensures.steps;
      matches = fits.0;
      free = fits.1;
    }

pub returns-then-is_free_match-clause-least : goal.returns-then-is_free_match-clause-least
returns-then-is_free_match-clause-least g c = λ k from below free.
    none_below _ _ _ (c.in-Some.id.now, c.in-Some.tuple.now) _ c.loop-id.invariant c.in-Some.ensures.steps k below (from, free)

pub loop-id-preserved-then-id-from : goal.loop-id-preserved-then-id-from
loop-id-preserved-then-id-from g c =
    let entry : ℕ × Tuple = (c.in-Some.id.now, c.in-Some.tuple.now) in
    let stored = first_stored _ _ _ entry _ c.loop-id.invariant c.in-Some.ensures.steps in
    fewer_left _ _ _ entry _ c.loop-id.invariant c.in-Some.ensures.steps
    (λ wanted. not_free _ _ _ entry _ stored c.is_free_match.ensures c.if-is_free_match.false wanted.1)

pub loop-id-preserved : goal.loop-id-preserved
loop-id-preserved g c =
    let entry : ℕ × Tuple = (c.in-Some.id.now, c.in-Some.tuple.now) in
    fewer_left _ _ _ entry _ c.loop-id.invariant c.in-Some.ensures.steps (λ wanted. let from = wanted.0 in search rules)
