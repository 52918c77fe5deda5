use Rattle.std.proofs.Common.{◌≡◌, ◌++◌}
use Rattle.linda_store_state.specs.State.{IsState}
use Rattle.linda_store_state.specs.Proper.{AreDone}
use Rattle.linda_snap.specs.Replay.{joined}
use Rattle.linda_snap.proofs.replay.replay.Given as goal

-- The records that the loop had were done.
abbrev pub invariant-loop-record : goal.invariant-loop-record
invariant-loop-record g l = AreDone l.fn.state (joined l.yielded) l.state × IsState l.state × (l.yielded ++ l.record-iterator.rest.items ≡ l.fn.records.items)
