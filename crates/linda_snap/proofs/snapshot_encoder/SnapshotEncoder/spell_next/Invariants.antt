use Rattle.std.proofs.Common.{ℕ, List, ◌++◌, ◌+◌, ◌<◌, ◌≤◌, length}
use Rattle.linda_store_state.specs.State.{State}
use Rattle.linda_snap.specs.declared.entry.TheConstants.{MAX_KEPT_BYTES}
use Rattle.linda_snap.specs.SnapshotEncoder.{Owes}
use Rattle.linda_snap.proofs.SnapshotWriterLaws.{moved}
use Rattle.linda_snap.proofs.snapshot_encoder.SnapshotEncoder.spell_next.Given as goal

-- What was spelled so far comes after what is written, and the rest is owed.
abbrev pub invariant-loop : goal.invariant-loop
invariant-loop g l =
    ((begun : State) (bytes : List ℕ) → Owes begun l.self bytes l.state.bag
    → Owes begun (moved l.from l.self) (bytes ++ l.more.items) l.state.bag)
    × (0 < length l.more.items)
    × (length l.more.items ≤ l.most + MAX_KEPT_BYTES)
