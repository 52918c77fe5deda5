use Rattle.std.proofs.Common.{length}
use Rattle.std.specs.FinMap.{entries}
use Rattle.linda_inspect.specs.Json.{json_entry, json_rows, json_tuples}
use Rattle.linda_snap.specs.Rising.{entries_from}
use Rattle.linda_inspect.proofs.JsonLaws.{IsSoFar}
use Rattle.linda_inspect.proofs.json.listing.write_tuples.Given as goal

abbrev pub invariant-loop-id : goal.invariant-loop-id
invariant-loop-id g l =
    IsSoFar (g.W.Write.contents l.initial.writer) (g.W.Write.contents l.writer)
    (json_rows json_entry l.mark (entries_from l.from l.state.bag))
    (json_tuples (entries l.state.bag))

abbrev pub decreases-loop-id : goal.decreases-loop-id
decreases-loop-id g l = length (entries_from l.from l.state.bag)
