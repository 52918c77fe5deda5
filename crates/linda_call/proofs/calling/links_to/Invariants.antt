use Rattle.std.proofs.Common.{◌≡◌, ◌++◌, drop, map}
use Rattle.std.specs.Prelude.{All}
use Rattle.std.specs.List.{enumerate_from}
use Rattle.linda_call.specs.Links.{place_of, IsOf}
use Rattle.linda_call.proofs.calling.links_to.Given as goal

-- The links so far, before those to the ports that are left, are all; each is the client's.
abbrev pub invariant-loop-server : goal.invariant-loop-server
invariant-loop-server l =
    (map place_of l.links.items ++ enumerate_from l.server (drop l.server l.ports) ≡ enumerate_from 0 l.ports)
    × All (IsOf l.client l.fresh) l.links.items
    × (l.links.len ≡ l.server)
