use Rattle.std.proofs.Common.{take}
use Rattle.linda_shared_listing.specs.Firsts.{IsNext}
use Rattle.linda_shared_listing.specs.Shapes.{is_matched}
use Rattle.linda_shared_listing.proofs.found.next_matched.Given as goal

-- It is the least id that one of the templates so far matches.
abbrev pub invariant-loop-shape : goal.invariant-loop-shape
invariant-loop-shape l = IsNext (is_matched l.bag (take l.shape-index l.shapes)) l.from l.least
