use Rattle.std.proofs.Common.{◌≡◌, ◌++◌, option_map}
use Rattle.linda_event.proofs.NodeLaws.{nacks_off}
use Rattle.linda_event.proofs.MemberLaws.{rest_nodes}
use Rattle.linda_event.proofs.path.+push_raised.Given as goal

abbrev pub invariant-loop-number : goal.invariant-loop-number
invariant-loop-number l =
    l.found.items ++ nacks_off (option_map (λ s. s.now) l.way) (rest_nodes l.number l.member-items)
    ≡ l.initial.found.items ++ nacks_off (option_map (λ s. s.now) l.way) (rest_nodes 0 l.member-items)
