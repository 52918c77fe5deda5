use Rattle.linda_bag.proofs.TagIndexLaws.{some_count, tag_least}
use Rattle.linda_bag.proofs.tag_index.next_tag.Goals as goal

pub returns-in_default-next_id_index-clause-none : goal.returns-in_default-next_id_index-clause-none
returns-in_default-next_id_index-clause-none g c = λ rows filed tag count past.
    absurd (some_count g.T.Tagged.tag_of g.T.Tagged.count_of g.S.IdIndex.has c.args.tag_index.now rows filed
    c.in-Some.tag.now c.in-Some.counts.now c.in-Some.ensures.found (λ q. c.in_default-next_id_index.ensures.none q tt))

pub returns-clause-least : goal.returns-clause-least
returns-clause-least g c = λ rows filed.
    tag_least g.T.Tagged.tag_of g.T.Tagged.count_of g.S.IdIndex.has c.args.tag_index.now rows filed c.args.last c.in-Some.tag.now
    c.in-Some.counts.now c.in-Some-next_id_index.count.now c.in-Some.ensures.found c.in-Some.ensures.least c.in-Some-next_id_index.ensures.least
