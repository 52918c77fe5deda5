-- Turns of a session that is woken: what it gets out of its mailbox.
use Rattle.std.specs.Prelude.{◌≡◌, Bool, true, false, Option, Some, None}

-- It is what the place has, if there is one.
abbrev pub IsThere : {A : Type 0} → Option A → Option (Option A) → Type 0
IsThere got None = got ≡ None
IsThere got (Some has) = got ≡ has

-- A session that is to lead gets nothing; else it gets what its place has.
abbrev pub GivesFrom : {A : Type 0} → Bool → Option (Option A) → Option A → Type 0
GivesFrom true place got = got ≡ None
GivesFrom false place got = IsThere got place
