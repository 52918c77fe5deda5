use Rattle.std.proofs.Common.{◌≡◌, All}
use Rattle.linda_tuple.specs.declared.pattern.Pattern.{Pattern}
use Rattle.linda_tuple.specs.declared.pattern.Pattern.TheVariants as patterns
use Rattle.linda_bag.proofs.column.kind_of.Given as goal

abbrev pub invariant-loop : goal.invariant-loop
invariant-loop l = All (λ (p : Pattern). p ≡ patterns.Any) l.fields.items
