use Rattle.std.proofs.Common.{◌≡◌, ◌+◌, length}
use Rattle.std.specs.Prelude.{slice_get}
use Rattle.linda_event.proofs.NodeLaws.{leaves_in}
use Rattle.linda_event.proofs.MemberLaws.{rest_nodes}
use Rattle.linda_event.proofs.path.+descent.Given as goal

abbrev pub invariant-descend-loop-number : goal.invariant-descend-loop-number
invariant-descend-loop-number l = record {
  there : slice_get (leaves_in (rest_nodes l.number l.member-items)) l.left ≡ slice_get (leaves_in (rest_nodes 0 l.member-items)) l.initial.left;
  passed : l.initial.left + length (leaves_in (rest_nodes l.number l.member-items)) ≡ l.left + length (leaves_in (rest_nodes 0 l.member-items));
  same : l.place.items ≡ l.initial.place.items;
}
