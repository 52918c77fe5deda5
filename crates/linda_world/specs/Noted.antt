-- Each client's last number, noted for the first deeds of a list.
use Rattle.std.specs.Prelude.{◌≡◌, ℕ, ◌≤◌, List, length, take, Option, Some, None}
use Rattle.std.specs.Ordering.{nat_cmp}
use Rattle.std.specs.FinMap as map
use Rattle.linda_store_state.specs.declared.deed.Deed.{Deed}
use Rattle.linda_store_step.specs.Deeds.{last_in}

-- numbers by clients
abbrev pub Lasts : Type 0
Lasts = map.FinMap nat_cmp ℕ

-- the number that is noted, 0 if none is
abbrev pub noted_number : Option ℕ → ℕ
noted_number None = 0
noted_number (Some n) = n

-- Of so many deeds of the list, from the first one on, each client's last number is noted.
pub record AreNoted (ds : List Deed) (count : ℕ) (lasts : Lasts) : Type 0 where
  pub within : count ≤ length ds
  pub each : (c : ℕ) → noted_number (map.get lasts c) ≡ last_in (take count ds) c
