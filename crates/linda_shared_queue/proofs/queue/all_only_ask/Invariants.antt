use Rattle.std.proofs.Common.{◌≡◌, length}
use Rattle.linda_shared_queue.specs.Queue.{all_ask}
use Rattle.linda_shared_queue.proofs.queue.all_only_ask.Given as goal

abbrev pub invariant-loop-rest : goal.invariant-loop-rest
invariant-loop-rest g l = all_ask l.rest ≡ all_ask l.fn.messages

abbrev pub decreases-loop-rest : goal.decreases-loop-rest
decreases-loop-rest g l = length l.rest
