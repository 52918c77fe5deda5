use Rattle.std.proofs.Common.{IsSome, subst, refl}
use Rattle.linda_bag.proofs.HintLaws.{now_held}
use Rattle.linda_bag.proofs.tag_hints.TagHints.hold.Goals as goal

pub returns-in-Some : goal.returns-in-Some
returns-in-Some c =
    let updates = (c.get_mut.follows.holds c.hold.new.self).3 (subst (λ s. IsSome s) c.in-Some.ensures.value refl) in
    now_held c.args.self.now (record { by_tag = c.get_mut.follows.lender c.hold.new.self }) c.tag.result.now c.in-Some.hint.now c.hold.new.self
    c.in-Some.ensures.value updates.0 c.hold.ensures.template c.args.id c.hold.ensures.from c.hold.ensures.covers
