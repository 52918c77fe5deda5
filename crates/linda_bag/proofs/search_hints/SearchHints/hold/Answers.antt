use Rattle.linda_bag.proofs.search_hints.SearchHints.hold.Goals as goal

pub returns : goal.returns
returns c = λ bag passed next held rights. (c.hold.ensures bag passed next held rights.0, rights.1)
