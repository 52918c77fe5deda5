-- A size is the bytes of a need.
use Rattle.linda_store_step.proofs.store.Store.size_of.Goals as goal

pub returns-in-Some-clause-bytes : goal.returns-in-Some-clause-bytes
returns-in-Some-clause-bytes g c all happens = (c.in-Some.ensures.need all happens).1

pub returns-in-Some-clause-suit : goal.returns-in-Some-clause-suit
returns-in-Some-clause-suit g c all happens = (c.in-Some.ensures.need all happens).2

pub returns-in-None-clause-none : goal.returns-in-None-clause-none
returns-in-None-clause-none g c all happens = c.in-None.ensures.need all happens
