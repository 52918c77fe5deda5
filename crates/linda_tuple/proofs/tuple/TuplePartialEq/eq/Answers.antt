-- What `==` computes decides whether the tuples are equal.
use Rattle.std.proofs.Common.{◌≡◌, rules}
use Rattle.std.proofs.lemmas.Bool.Decides.{Decides-at}
use Rattle.linda_tuple.specs.Sameness.{same_tuple, same_tuple-decides}
use Rattle.linda_tuple.proofs.tuple.TuplePartialEq.eq.Goals as goal

pub returns-then-eq-clause-exact : goal.returns-then-eq-clause-exact
returns-then-eq-clause-exact c =
    let test : c.eq-then-eq.result ≡ same_tuple c.args.self.now c.args.other.now = search rules in
    Decides-at c.eq-then-eq.result (same_tuple c.args.self.now c.args.other.now) test (same_tuple-decides c.args.self.now c.args.other.now)
