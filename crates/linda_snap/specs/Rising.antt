-- The entries of a finite map from a key on.
use Rattle.std.specs.Prelude.{ℕ, suc, nat_lt, not, List, Option, Some, None}
use Rattle.std.specs.List.{filter}
use Rattle.std.specs.Ordering.{nat_cmp}
use Rattle.std.specs.FinMap.{FinMap, entries}

-- The entries whose keys are not below that one, in the order of their keys.
abbrev pub entries_from : {X : Type 0} → ℕ → FinMap nat_cmp X → List (ℕ × X)
entries_from from m = filter (λ e. not (nat_lt e.0 from)) (entries m)

-- The first key that is above the last one, if there is one.
abbrev pub first_after : Option ℕ → ℕ
first_after None = 0
first_after (Some key) = suc key
