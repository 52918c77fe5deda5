use Rattle.std.proofs.Common.{◌≡◌, ◌++◌, map}
use Rattle.linda_store_step.proofs.DispatchLaws.{read_for}
use Rattle.linda_store_step.proofs.soft.answer_reads.Given as goal

-- the answers to the reads so far come after the earlier sends
abbrev pub invariant-loop-client : goal.invariant-loop-client
invariant-loop-client l = l.sends.items ≡ l.fn.sends.items ++ map (read_for l.id l.tuple) l.yielded
