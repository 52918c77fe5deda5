use Rattle.std.proofs.Common.{◌≡◌}
use Rattle.std.specs.List.{list_any}
use Rattle.linda_event.specs.Bases.{is_ready}
use Rattle.linda_event.proofs.NodeLaws.{bases_in}
use Rattle.linda_event.proofs.MemberLaws.{rest_nodes}
use Rattle.linda_event.proofs.ready.+has_ready_base.Given as goal

-- One of the members that are left is ready exactly if one of all is.
abbrev pub invariant-loop-member : goal.invariant-loop-member
invariant-loop-member l =
    list_any (is_ready l.clock) (bases_in (rest_nodes l.member-index l.member-items)) ≡ list_any (is_ready l.clock) (bases_in (rest_nodes 0 l.member-items))
