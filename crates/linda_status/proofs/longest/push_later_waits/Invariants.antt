use Rattle.std.proofs.Common.{◌≡◌, ◌++◌, take}
use Rattle.std.specs.List.{flat_map}
use Rattle.linda_status.specs.Longest.{json_later_wait}
use Rattle.linda_status.proofs.longest.push_later_waits.Given as goal

abbrev pub invariant-loop-row : goal.invariant-loop-row
invariant-loop-row l = l.out.items ≡ l.initial.out.items ++ flat_map json_later_wait (take l.row-index l.rows)
