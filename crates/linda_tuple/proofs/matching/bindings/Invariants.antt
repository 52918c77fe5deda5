use Rattle.std.proofs.Common.{◌≡◌, ◌++◌}
use Rattle.std.specs.Slice.Iter.{iter_rest}
use Rattle.std.specs.Iterator.Adapters.{zip_first, zip_second}
use Rattle.linda_tuple.specs.Matching.{bound_at, bindings_of}
use Rattle.linda_tuple.proofs.matching.bindings.Given as goal

-- What was bound so far, before what the places that are left will bind, is all.
abbrev pub invariant-loop-pattern : goal.invariant-loop-pattern
invariant-loop-pattern l =
    l.bound.items ++ bound_at (iter_rest (zip_first l.pattern-iterator)) (iter_rest (zip_second l.pattern-iterator)) ≡ bindings_of l.template l.tuple
