use Rattle.std.proofs.Common.{◌≡◌, ◌++◌, map}
use Rattle.linda_event.specs.Bases.{kind_of}
use Rattle.linda_event.proofs.NodeLaws.{bases_in}
use Rattle.linda_event.proofs.MemberLaws.{rest_nodes}
use Rattle.linda_event.proofs.base.+push_bases.Given as goal

abbrev pub invariant-loop-member : goal.invariant-loop-member
invariant-loop-member l =
    map kind_of l.found.items ++ bases_in (rest_nodes l.member-index l.member-items)
    ≡ map kind_of l.initial.found.items ++ bases_in (rest_nodes 0 l.member-items)
