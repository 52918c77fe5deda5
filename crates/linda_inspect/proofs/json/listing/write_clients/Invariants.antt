use Rattle.std.proofs.Common.{length}
use Rattle.std.specs.FinMap.{entries}
use Rattle.linda_inspect.specs.Json.{json_client, json_rows, json_clients}
use Rattle.linda_snap.specs.Rising.{entries_from, first_after}
use Rattle.linda_inspect.proofs.JsonLaws.{IsSoFar}
use Rattle.linda_inspect.proofs.json.listing.write_clients.Given as goal

abbrev pub invariant-loop-client : goal.invariant-loop-client
invariant-loop-client g l =
    IsSoFar (g.W.Write.contents l.initial.writer) (g.W.Write.contents l.writer)
    (json_rows json_client l.mark (entries_from (first_after l.last) l.book))
    (json_clients (entries l.book))

abbrev pub decreases-loop-client : goal.decreases-loop-client
decreases-loop-client g l = length (entries_from (first_after l.last) l.book)
