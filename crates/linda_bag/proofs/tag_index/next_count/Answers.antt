use Rattle.std.proofs.Common.{sym}
use Rattle.linda_bag.proofs.TagIndexLaws.{at_head, no_count, fewer}
use Rattle.linda_bag.proofs.tag_index.next_count.Goals as goal

pub returns-clause-found : goal.returns-clause-found
returns-clause-found g c = λ rows filed.
    at_head g.T.Tagged.tag_of g.T.Tagged.count_of g.S.IdIndex.has c.args.tag_index.now rows filed c.args.tag.now c.in-Some.counts.now
    (sym c.in-Some.ensures.value) c.in-Some-next_id_index.count.now c.in-Some-next_id_index.id_index.now c.in-Some-next_id_index.ensures.found

pub returns-clause-least : goal.returns-clause-least
returns-clause-least g c = λ rows filed count past less.
    no_count g.T.Tagged.tag_of g.T.Tagged.count_of g.S.IdIndex.has c.args.tag_index.now rows filed c.args.tag.now c.in-Some.counts.now
    (sym c.in-Some.ensures.value) count (c.in-Some-next_id_index.ensures.least count (fewer _ _ past) (fewer _ _ less))
