use Rattle.linda_bag.proofs.index.GroupIdIndexTuple.remove.Goals as goal

pub returns : goal.returns
returns c = λ rows there known. (c.remove.ensures rows there known.0, c.remove-2.ensures rows there known.1)
