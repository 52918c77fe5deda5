use Rattle.std.proofs.lemmas.Option.{IfSome_then}
use Rattle.linda_bag.proofs.HintLaws.{IfNone_then}
use Rattle.linda_bag.proofs.TagIndexLaws.{count_least, past_tag}
use Rattle.linda_bag.proofs.tag_index.next_tag_entry.Goals as goal

pub returns-in_default-clause-least : goal.returns-in_default-clause-least
returns-in_default-clause-least g c = λ rows filed.
    IfSome_then c.next_tag.result (c.next_tag.ensures.least rows filed) (λ head least. λ tag count past before. least tag count tt before)

pub returns-in_default-clause-none : goal.returns-in_default-clause-none
returns-in_default-clause-none g c = λ rows filed.
    IfNone_then c.next_tag.result (c.next_tag.ensures.none rows filed) (λ none. λ tag count past. none tag count tt)

pub returns-in-Some-next_count-clause-least : goal.returns-in-Some-next_count-clause-least
returns-in-Some-next_count-clause-least g c = rw c.in-Some.is (λ rows filed.
    count_least g.T.Tagged.tag_of g.T.Tagged.count_of rows c.in-Some.tag.now c.in-Some.count c.in-Some-next_count.head.tag.now
    c.in-Some-next_count.head.count c.in-Some-next_count.ensures.past.0 (c.in-Some-next_count.ensures.least rows filed))

pub returns-in-None-clause-least : goal.returns-in-None-clause-least
returns-in-None-clause-least g c = rw c.in-Some.is (λ rows filed.
    IfSome_then c.next_tag-in-None.result (c.next_tag-in-None.ensures.least rows filed) (λ head least. λ tag count past before.
    past_tag g.T.Tagged.tag_of g.T.Tagged.count_of rows c.in-Some.tag.now c.in-Some.count
    (c.in-None.ensures.none rows filed) tag count (λ less. least tag count less before) past))

pub returns-in-None-clause-none : goal.returns-in-None-clause-none
returns-in-None-clause-none g c = rw c.in-Some.is (λ rows filed.
    IfNone_then c.next_tag-in-None.result (c.next_tag-in-None.ensures.none rows filed) (λ none. λ tag count past.
    past_tag g.T.Tagged.tag_of g.T.Tagged.count_of rows c.in-Some.tag.now c.in-Some.count
    (c.in-None.ensures.none rows filed) tag count (λ less. none tag count less) past))
