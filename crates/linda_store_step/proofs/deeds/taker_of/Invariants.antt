use Rattle.std.proofs.Common.{ℕ, take, Contains}
use Rattle.linda_store_state.specs.declared.deed.Deed.TheVariants.{Take}
use Rattle.linda_store_step.proofs.deeds.taker_of.Given as goal

-- No deed so far takes the tuple.
abbrev pub invariant-loop-deed : goal.invariant-loop-deed
invariant-loop-deed l = (c n : ℕ) → Contains (take l.deed-index l.deeds) (Take c n l.id) → ⊥
