use Rattle.std.proofs.Common.{IsSome, refl, subst, sym}
use Rattle.linda_bag.specs.SearchHints.{AreBegun}
use Rattle.linda_bag.proofs.HintLaws.{now_free, free_of_none}
use Rattle.linda_bag.proofs.tag_hints.TagHints.free.Goals as goal

pub returns-in-Some : goal.returns-in-Some
returns-in-Some c = λ bag before after next stored others rights.
    let updates = (c.get_mut.follows.holds c.free.new.self).3 (subst (λ s. IsSome s) c.in-Some.ensures.value refl) in
    now_free bag before after next c.args.id c.args.tuple.now stored others c.args.self.now
    (record { by_tag = c.get_mut.follows.lender c.free.new.self }) c.tag.result.now c.in-Some.hint.now c.free.new.self
    c.tag.ensures.value c.in-Some.ensures.value updates.0 c.free.ensures.template c.free.ensures.below c.free.ensures.covers c.free.ensures.here rights

pub returns-in_default : goal.returns-in_default
returns-in_default c = λ bag before after next stored others rights.
    subst (λ t. AreBegun bag after next (record { by_tag = t })) (sym c.get_mut.follows.holds-at-none)
    (free_of_none bag before after next c.args.id c.args.tuple.now stored others c.args.self.now c.tag.result.now
    c.tag.ensures.value c.in_default.ensures.value rights)
