use Rattle.std.proofs.Common.{◌≡◌, ◌++◌, drop}
use Rattle.std.specs.List.{enumerate_from}
use Rattle.linda_client.proofs.leaves.Leaves.new.Given as goal

-- The Leaves so far, before those to the servers that are left, are all.
abbrev pub invariant-loop-server : goal.invariant-loop-server
invariant-loop-server l = l.items.items ++ enumerate_from l.server (drop l.server l.next) ≡ enumerate_from 0 l.next
