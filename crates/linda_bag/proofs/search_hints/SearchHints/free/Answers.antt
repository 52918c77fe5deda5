use Rattle.linda_bag.proofs.search_hints.SearchHints.free.Goals as goal

pub returns : goal.returns
returns c = λ bag before after next stored others rights. (c.free.ensures bag before after next stored others rights.0, rights.1)
