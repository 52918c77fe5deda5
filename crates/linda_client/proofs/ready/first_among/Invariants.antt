use Rattle.std.proofs.Common.{◌≡◌, map, drop}
use Rattle.std.specs.Prelude.{filter_map}
use Rattle.std.specs.List.{enumerate_from}
use Rattle.linda_event.specs.Bases.{kind_of}
use Rattle.linda_client.specs.Ask.{ready_at}
use Rattle.linda_client.proofs.ready.first_among.Given as goal

-- What is ready among the bases that are left is all that is ready.
abbrev pub invariant-loop-number : goal.invariant-loop-number
invariant-loop-number l =
    filter_map (ready_at l.clock) (enumerate_from l.number (map kind_of (drop l.number l.bases)))
    ≡ filter_map (ready_at l.clock) (enumerate_from 0 (map kind_of l.bases))
