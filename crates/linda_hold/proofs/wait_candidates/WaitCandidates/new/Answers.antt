use Rattle.std.proofs.Common.{List, length, subst}
use Rattle.std.specs.Option.{option_copied}
use Rattle.linda_tuple.specs.declared.atom.Atom.{Atom}
use Rattle.linda_bag.specs.Filing.{IsIndexed}
use Rattle.linda_bag.specs.TagIndex.{with_head}
use Rattle.linda_hold.specs.TagIndex.{tag_of, count_of}
use Rattle.linda_hold.specs.Index.{asked_of}
use Rattle.linda_hold.specs.Numbered.{wait_at}
use Rattle.linda_hold.specs.FirstValueIndex.{HasPositions}
use Rattle.linda_hold.proofs.MetLaws.{all_met}
use Rattle.linda_hold.proofs.wait_candidates.WaitCandidates.new.Goals as goal

pub invariant_of-result : goal.invariant_of-result
invariant_of-result c =
    let asked = asked_of (wait_at c.args.by_arrival.now.entries) in (
      c.requires.below,
      subst (λ (fields : List Atom). IsIndexed HasPositions (option_copied c.alike.result)
          (with_head tag_of count_of c.args.tuple.now.tag (length fields) asked)) c.fields.ensures.value
          (subst (λ (tag : Atom). IsIndexed HasPositions (option_copied c.alike.result)
          (with_head tag_of count_of tag (length c.fields.result.now) asked)) c.tag.ensures.value
          (c.alike.ensures asked c.requires.filed)),
      c.ranges.end.fits,
    )

pub returns : goal.returns
returns c = all_met c.args.by_arrival.now.entries c.args.tuple.now
