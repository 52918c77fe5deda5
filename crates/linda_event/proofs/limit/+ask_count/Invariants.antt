use Rattle.std.proofs.Common.{◌≡◌, ◌+◌, ◌≤◌, min}
use Rattle.std.specs.Prelude.{count_by}
use Rattle.linda_event.specs.Limits.{is_ask}
use Rattle.linda_event.proofs.NodeLaws.{bases_in}
use Rattle.linda_event.proofs.MemberLaws.{rest_nodes}
use Rattle.linda_event.proofs.limit.+ask_count.Given as goal

abbrev pub invariant-loop-member : goal.invariant-loop-member
invariant-loop-member l = record {
  sum : min (l.count + count_by is_ask (bases_in (rest_nodes l.member-index l.member-items))) 18446744073709551615
      ≡ min (count_by is_ask (bases_in (rest_nodes 0 l.member-items))) 18446744073709551615;
  fits : l.count ≤ 18446744073709551615;
}
