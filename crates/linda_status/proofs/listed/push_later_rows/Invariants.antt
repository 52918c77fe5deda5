use Rattle.std.proofs.Common.{◌≡◌, ◌++◌, take}
use Rattle.std.specs.List.{flat_map}
use Rattle.linda_status.specs.Listed.{json_later_row}
use Rattle.linda_status.proofs.listed.push_later_rows.Given as goal

abbrev pub invariant-loop-row : goal.invariant-loop-row
invariant-loop-row l = l.out.items ≡ l.initial.out.items ++ flat_map json_later_row (take l.row-index l.rows)
