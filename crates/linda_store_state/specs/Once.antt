-- No tuple is taken twice.
use Rattle.std.specs.Prelude.{ℕ, ◌≤◌, List, length, filter}
use Rattle.linda_store_state.specs.declared.deed.Deed.{Deed}
use Rattle.linda_store_state.specs.Deed.{takes}

-- No tuple is taken by two deeds of the list.
abbrev pub IsTakenOnce : List Deed → Type 0
IsTakenOnce ds = (id : ℕ) → length (filter (takes id) ds) ≤ 1
