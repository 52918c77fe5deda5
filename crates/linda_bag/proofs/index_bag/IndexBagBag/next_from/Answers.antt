use Rattle.linda_bag.proofs.index_bag.IndexBagBag.next_from.Goals as goal

pub returns-clause-found : goal.returns-clause-found
returns-clause-found c = rw c.self.view_is at c.next_from.ensures.found

pub returns-clause-least : goal.returns-clause-least
returns-clause-least c = rw c.self.view_is at c.next_from.ensures.least

pub returns-clause-none : goal.returns-clause-none
returns-clause-none c = rw c.self.view_is at c.next_from.ensures.none
