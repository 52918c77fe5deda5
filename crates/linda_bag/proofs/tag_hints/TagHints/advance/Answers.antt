use Rattle.std.proofs.Common.{IsSome, subst, sym, refl, ◌∙◌}
use Rattle.linda_bag.proofs.HintLaws.{one_template, moved_on, untouched}
use Rattle.linda_bag.proofs.tag_hints.TagHints.advance.Goals as goal

pub returns-then-eq : goal.returns-then-eq
returns-then-eq c =
    let updates = (c.get_mut.follows.holds c.advance.new.self).3 (subst (λ s. IsSome s) c.in-Some.ensures.value refl) in
    moved_on c.args.self.now (record { by_tag = c.get_mut.follows.lender c.advance.new.self }) c.tag.result.now c.in-Some.hint.now c.advance.new.self
    c.in-Some.ensures.value updates.0 c.advance.ensures.template
    c.args.template.now c.args.from (one_template _ _ (sym c.eq.ensures ∙ c.if-eq.true))
    c.advance.ensures.below c.advance.ensures.covers

pub returns-else-eq : goal.returns-else-eq
returns-else-eq c =
    let updates = (c.get_mut.follows.holds c.in-Some.hint.now).3 (subst (λ s. IsSome s) c.in-Some.ensures.value refl) in
    untouched c.args.self.now (record { by_tag = c.get_mut.follows.lender c.in-Some.hint.now }) c.tag.result.now c.in-Some.hint.now
    c.in-Some.ensures.value updates.0 c.args.template.now c.args.from
