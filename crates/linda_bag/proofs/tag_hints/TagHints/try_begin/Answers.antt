use Rattle.std.proofs.Common.{refl, ◌∙◌}
use Rattle.linda_bag.proofs.HintLaws.{begun}
use Rattle.linda_bag.proofs.tag_hints.TagHints.try_begin.Goals as goal

pub returns : goal.returns
returns c =
    begun c.args.self.now (record { by_tag = c.insert.new.self }) c.in_ok-tag.tag
    (record { template = c.in_ok-try_clone.field-0; from = c.args.from; freed = c.new.result })
    c.args.template.now c.args.from (λ q. c.in_ok-insert.ensures.updates.0 q) (c.in_ok-tag.ensures ∙ c.tag.ensures.value) c.in_ok-try_clone.ensures refl
