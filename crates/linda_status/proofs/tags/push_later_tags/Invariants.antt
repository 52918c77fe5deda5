use Rattle.std.proofs.Common.{◌≡◌, ◌++◌, take}
use Rattle.std.specs.List.{flat_map}
use Rattle.linda_status.specs.Tags.{json_later_tag}
use Rattle.linda_status.proofs.tags.push_later_tags.Given as goal

abbrev pub invariant-loop-row : goal.invariant-loop-row
invariant-loop-row l = l.out.items ≡ l.initial.out.items ++ flat_map json_later_tag (take l.row-index l.rows)
