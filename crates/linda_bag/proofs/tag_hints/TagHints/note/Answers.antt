use Rattle.linda_bag.proofs.tag_hints.TagHints.note.Goals as goal

pub returns-then-passed-ge-MANY : goal.returns-then-passed-ge-MANY
returns-then-passed-ge-MANY c = λ bag passed next low none rights. c.begin.ensures bag passed next low none (c.advance.ensures bag passed next low none rights)
