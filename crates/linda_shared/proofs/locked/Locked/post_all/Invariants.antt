use Rattle.std.proofs.Common.{◌≡◌, true}
use Rattle.linda_shared.proofs.locked.Locked.post_all.Given as goal

abbrev pub invariant-loop : goal.invariant-loop
invariant-loop g l =
    (goal.iterator-loop g).can_next l.iterator' × (goal.iterator-loop g).is_finite l.iterator'
    × (l.self.is_given_up ≡ l.fn.self.is_given_up)
    × (l.self.held.server ≡ l.fn.self.held.server)
    × (l.fn.self.is_given_up ≡ true → l.posts ≡ l.fn.posts)
