use Rattle.std.proofs.Common.{◌≡◌, ◌+◌, length}
use Rattle.std.specs.Prelude.{ltb}
use Rattle.std.specs.List.{list_any}
use Rattle.linda_event.specs.declared.limits.TheConstants.{MAX_DEPTH}
use Rattle.linda_event.proofs.NodeLaws.{leaves_in}
use Rattle.linda_event.proofs.MemberLaws.{rest_nodes}
use Rattle.linda_event.proofs.limit.+is_deep.Given as goal

abbrev pub decreases-is_deep : goal.decreases-is_deep
decreases-is_deep l = goal.size-is_deep l

abbrev pub invariant-loop-member : goal.invariant-loop-member
invariant-loop-member l =
    list_any (λ leaf. ltb MAX_DEPTH (l.above + length leaf.0)) (leaves_in (rest_nodes l.member-index l.member-items))
    ≡ list_any (λ leaf. ltb MAX_DEPTH (l.above + length leaf.0)) (leaves_in (rest_nodes 0 l.member-items))
