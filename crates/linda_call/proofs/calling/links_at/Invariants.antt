use Rattle.std.proofs.Common.{◌≡◌, ◌++◌, Some, drop, map}
use Rattle.std.specs.Prelude.{All}
use Rattle.std.specs.List.{enumerate_from}
use Rattle.std.specs.String.{string_bytes}
use Rattle.linda_call.specs.Links.{path_of, IsOf}
use Rattle.linda_call.proofs.calling.links_at.Given as goal

-- The links so far, before those to the paths that are left, are all; each is the client's.
abbrev pub invariant-loop-server : goal.invariant-loop-server
invariant-loop-server l =
    (map path_of l.links.items ++ enumerate_from l.server (map (λ path. Some path) (map string_bytes (drop l.server l.paths)))
    ≡ enumerate_from 0 (map (λ path. Some path) (map string_bytes l.paths)))
    × All (IsOf l.client l.fresh) l.links.items
    × (l.links.len ≡ l.server)
