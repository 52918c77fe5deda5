use Rattle.std.proofs.Common.{◌≡◌, replicate}
use Rattle.linda_tuple.specs.declared.pattern.Pattern.TheVariants as patterns
use Rattle.linda_shared_listing.proofs.shapes.any_of.Given as goal

abbrev pub invariant-loop : goal.invariant-loop
invariant-loop l = l.patterns.items ≡ replicate l.counter patterns.Any
