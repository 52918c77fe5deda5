use Rattle.std.proofs.Common.{◌≡◌, ◌++◌, option_map}
use Rattle.linda_event.proofs.NodeLaws.{labels_on}
use Rattle.linda_event.proofs.MemberLaws.{rest_nodes}
use Rattle.linda_event.proofs.path.+push_labels.Given as goal

abbrev pub decreases-push_labels : goal.decreases-push_labels
decreases-push_labels l = goal.size-push_labels l

abbrev pub invariant-loop-number : goal.invariant-loop-number
invariant-loop-number l =
    l.found.items ++ labels_on (option_map (λ s. s.now) l.way) (rest_nodes l.number l.member-items)
    ≡ l.initial.found.items ++ labels_on (option_map (λ s. s.now) l.way) (rest_nodes 0 l.member-items)
