-- Heads of requests: a tuple may answer those that ask for its tag and its number of fields and, if
-- their template has a value, for the field that is where the first one is.
use Rattle.std.specs.Prelude.{ℕ, Bool, Option, length}
use Rattle.linda_tuple.specs.declared.atom.Atom.{Atom}
use Rattle.linda_tuple.specs.Tuple.{Tuple}
use Rattle.linda_bag.specs.declared.tag_index.TagIndex.{TagIndex}
use Rattle.linda_bag.specs.Filing.{Rows}
use Rattle.linda_bag.specs.TagIndex.{HasTags, with_head}
use Rattle.linda_hold.specs.declared.asked.Asked.{Asked}
use Rattle.linda_hold.specs.declared.first_value_index.FirstValueIndex.{FirstValueIndex}
use Rattle.linda_hold.specs.FirstValueIndex.{HasPositions, is_met}
use Rattle.linda_hold.specs.Waits.{Wait}

-- The wait under each number, if there is one.
abbrev pub Waiting : Type 0
Waiting = Rows Wait

-- what a request is filed under: the tag that it asks for, then the number of fields
abbrev pub tag_of : Asked → Atom
tag_of asked = asked.template.tag

abbrev pub count_of : Asked → ℕ
count_of asked = length asked.template.fields

-- The heads have the numbers of what these requests ask.
abbrev pub HasAsked : TagIndex FirstValueIndex → Rows Asked → Type 0
HasAsked tag_index asked = HasTags tag_of count_of HasPositions tag_index asked

-- what asks for a tuple of this tag and of as many fields
abbrev pub alike : Tuple → Rows Asked → Rows Asked
alike row asked = with_head tag_of count_of row.tag (length row.fields) asked

-- whether there is a request that the tuple may answer
abbrev pub may_answer : Tuple → Option Asked → Bool
may_answer row asked = is_met row.fields (alike row (λ _. asked) 0)
