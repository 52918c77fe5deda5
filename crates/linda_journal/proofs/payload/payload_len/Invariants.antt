use Rattle.std.proofs.Common.{◌≡◌, ◌*◌, ◌≤◌, All, length, take}
use Rattle.linda_store_state.specs.declared.limits.TheConstants.{MAX_DEED_BYTES}
use Rattle.linda_journal.specs.Records.{payload, FitsDeed, SuitsForm}
use Rattle.linda_journal.proofs.payload.payload_len.Given as goal

-- The first deeds have a spelling, and were counted.
abbrev pub invariant-loop-deed : goal.invariant-loop-deed
invariant-loop-deed l =
    (l.len ≡ length (payload l.form (take l.deed-index l.deeds)))
    × (l.len ≤ MAX_DEED_BYTES * l.deed-index)
    × All (SuitsForm l.form) (take l.deed-index l.deeds)
    × All (FitsDeed l.form) (take l.deed-index l.deeds)
