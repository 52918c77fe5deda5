use Rattle.std.proofs.Common.{◌≡◌, ◌+◌, ◌≤◌, min, length}
use Rattle.linda_event.proofs.NodeLaws.{bases_in}
use Rattle.linda_event.proofs.MemberLaws.{rest_nodes}
use Rattle.linda_event.proofs.limit.+base_count.Given as goal

abbrev pub invariant-loop-member : goal.invariant-loop-member
invariant-loop-member l = record {
  sum : min (l.count + length (bases_in (rest_nodes l.member-index l.member-items))) 18446744073709551615
      ≡ min (length (bases_in (rest_nodes 0 l.member-items))) 18446744073709551615;
  fits : l.count ≤ 18446744073709551615;
}
