-- Waits by their numbers, as a map keeps them that is in no order.
use Rattle.std.specs.Prelude.{◌≡◌, ℕ, ◌<◌, List, true, nat_eq}
use Rattle.std.specs.Option.{is_some}
use Rattle.std.specs.Ordering.{nat_cmp}
use Rattle.std.specs.Map.{lookup}
use Rattle.std.specs.FinMap as map
use Rattle.linda_hold.specs.Waits.{Wait}
use Rattle.linda_hold.specs.TagIndex.{Waiting}

-- the waits with their numbers, in order of the numbers
abbrev pub in_order : List (ℕ × Wait) → List (ℕ × Wait)
in_order es = map.entries (map.from_entries {R = nat_cmp} es)

-- the wait under a number
abbrev pub wait_at : List (ℕ × Wait) → Waiting
wait_at es q = lookup (nat_eq q) es

-- All numbers are below this one.
abbrev pub AreBelow : ℕ → Waiting → Type 0
AreBelow next waiting = (q : ℕ) → is_some (waiting q) ≡ true → q < next
