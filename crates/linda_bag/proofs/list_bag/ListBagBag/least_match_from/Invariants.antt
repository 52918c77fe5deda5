use Rattle.std.proofs.Common.{◌≤◌, nat_cmp}
use Rattle.std.specs.FinMap.{from_entries}
use Rattle.linda_bag.specs.FreeMatch.{IsFreeMatch}
use Rattle.linda_bag.proofs.LeftLaws.{IsLeft}
use Rattle.linda_bag.proofs.list_bag.ListBagBag.least_match_from.Given as goal

-- What is left has every free match from there on.
abbrev pub invariant-loop-id : goal.invariant-loop-id
invariant-loop-id g l =
    let contents = from_entries {R = nat_cmp} l.self.tuples.entries in
    IsLeft contents (λ k. (l.from ≤ k) × IsFreeMatch contents l.template (g.P.IdSet.has l.passed) k) l.id-iterator
