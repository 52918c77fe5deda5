-- Numbers that are remembered for clients from one snapshot to the next.
use Rattle.std.specs.Prelude.{◌≡◌, ℕ, Option, Some, None, IfSome}
use Rattle.std.specs.Ordering.{nat_cmp}
use Rattle.std.specs.FinMap as map
use Rattle.linda_store_state.specs.State.{State}
use Rattle.linda_store_step.specs.Answer.{last_number}
use Rattle.linda_shared_held.specs.declared.held.recall.Recall.{Recall}

-- the numbers that are remembered, by client
abbrev pub floors_of : Recall → map.FinMap nat_cmp ℕ
floors_of recall = map.from_entries {R = nat_cmp} recall.floors.entries

-- that number, 0 if none is remembered
abbrev pub floor_in : Option ℕ → ℕ
floor_in None = 0
floor_in (Some number) = number

-- the number that is remembered for the client, 0 if none is
abbrev pub floor_of : Recall → ℕ → ℕ
floor_of recall client = floor_in (map.get (floors_of recall) client)

-- The number of this client is remembered no more; all others are.
abbrev pub IsTaken : Recall → ℕ → Recall → Type 0
IsTaken old client new = floors_of new ≡ map.remove (floors_of old) client

-- Each number that is remembered is the client's last one in this state.
abbrev pub Remembers : State → Recall → Type 0
Remembers st recall =
    (c : ℕ) → IfSome (map.get (floors_of recall) c) (λ number. number ≡ last_number st c)
