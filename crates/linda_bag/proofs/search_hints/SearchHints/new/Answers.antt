use Rattle.linda_bag.proofs.search_hints.SearchHints.new.Goals as goal

pub returns : goal.returns
returns c = λ bag passed next. (c.new.ensures bag passed next, c.new-2.ensures bag next)
