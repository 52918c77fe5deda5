use Rattle.std.proofs.Common.{◌≡◌, ◌++◌}
use Rattle.linda_store_state.specs.State.{IsState}
use Rattle.linda_snap.specs.Replay.{GoesOn}
use Rattle.linda_snap.proofs.replay.redo_all.Given as goal

-- The deeds that the loop had were done.
abbrev pub invariant-loop-deed : goal.invariant-loop-deed
invariant-loop-deed g l = GoesOn l.fn.state l.yielded l.state × IsState l.state × (l.yielded ++ l.deed-iterator.rest.items ≡ l.fn.deeds.items)
