use Rattle.std.proofs.Common.{◌≡◌, ◌++◌, map, drop}
use Rattle.std.specs.Prelude.{filter_map}
use Rattle.std.specs.List.{enumerate_from}
use Rattle.linda_event.specs.Bases.{kind_of}
use Rattle.linda_client.specs.Ask.{alarm_of}
use Rattle.linda_client.proofs.ask.alarms_among.Given as goal

-- The alarms so far, before those of the bases that are left, are all.
abbrev pub invariant-loop-number : goal.invariant-loop-number
invariant-loop-number l =
    l.alarms.items ++ filter_map (λ b. alarm_of b.0 b.1) (enumerate_from l.number (map kind_of (drop l.number l.bases)))
    ≡ filter_map (λ b. alarm_of b.0 b.1) (enumerate_from 0 (map kind_of l.bases))
