-- The state of a server: its tuples, what it keeps for each client, and the next id.
use Rattle.std.specs.Prelude.{ℕ, ◌<◌, ◌≤◌, IfSome}
use Rattle.std.specs.Ordering.{nat_cmp}
use Rattle.std.specs.FinMap as map
use Rattle.linda_wire.specs.declared.limits.TheConstants.{MAX_CLIENTS}
use Rattle.linda_wire.specs.declared.limits.TheConstants.{NUMBER_LIMIT}
use Rattle.linda_tuple.specs.Tuple.{Tuple}
use Rattle.linda_book.specs.Entries.{Entry}

-- Tuples by id, the last kept reply by client, and the id that the next tuple gets.
pub record State : Type 0 where
  pub bag : map.FinMap nat_cmp Tuple
  pub book : map.FinMap nat_cmp Entry
  pub next : ℕ

-- No tuple was ever put, and no client is known.
abbrev pub empty_state : State
empty_state = record { bag = map.empty; book = map.empty; next = 1 }

-- The ranges that every state keeps: ids of the bag are at least 1 and below the next id, kept
-- numbers are at least 1 and below the limit, and no more clients are kept than the limit.
pub record IsState (st : State) : Type 0 where
  pub next_low : 1 ≤ st.next
  pub next_high : st.next ≤ NUMBER_LIMIT
  pub ids : (id : ℕ) → IfSome (map.get st.bag id) (λ _. (1 ≤ id) × (id < st.next))
  pub numbers : (c : ℕ) → IfSome (map.get st.book c) (λ e. (1 ≤ e.0) × (e.0 < NUMBER_LIMIT))
  pub clients : map.len st.book ≤ MAX_CLIENTS
