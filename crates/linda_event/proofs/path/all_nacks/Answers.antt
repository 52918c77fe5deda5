use Rattle.linda_event.specs.Trees.{tree_of}
use Rattle.linda_event.specs.Paths.{nodes}
use Rattle.linda_event.proofs.NodeLaws.{nacks_off_none}
use Rattle.linda_event.proofs.PushLaws.{part_alone}
use Rattle.linda_event.proofs.path.all_nacks.Goals as goal

pub returns : goal.returns
returns c = part_alone _ _ _ _ c.new-found.ensures.items (nacks_off_none (nodes (tree_of c.args.event.now))) c.in_ok-push_raised.ensures
