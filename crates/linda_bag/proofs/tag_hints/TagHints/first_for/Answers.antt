use Rattle.std.proofs.Common.{subst, sym, ◌∙◌}
use Rattle.linda_bag.specs.FreeMatch.{IsFreeMatch}
use Rattle.linda_bag.proofs.HintLaws.{one_template}
use Rattle.linda_bag.proofs.tag_hints.TagHints.first_for.Goals as goal

pub returns-then-eq : goal.returns-then-eq
returns-then-eq c = λ bag passed next rights k free.
    let same = one_template c.in-Some.hint.now.template c.args.template.now (sym c.eq.ensures ∙ c.if-eq.true) in
    c.first.ensures k ((rights c.tag.result.now c.in-Some.hint.now (sym c.in-Some.ensures.value)).1.each k
    (subst (λ t. IsFreeMatch bag t passed k) (sym same) free))
