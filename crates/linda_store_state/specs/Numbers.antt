-- Number of deeds that clients have done, as their numbers say: each client counts its deeds from
-- 1.
use Rattle.std.specs.Prelude.{ℕ}
use Rattle.std.specs.List.{sum_by}
use Rattle.std.specs.Map.{values_of}
use Rattle.std.specs.FinMap as map
use Rattle.linda_book.specs.Entries.{Entry}
use Rattle.linda_store_state.specs.State.{State}

-- the sum of the kept numbers of all clients
abbrev pub kept_sum : State → ℕ
kept_sum st = sum_by (λ (e : Entry). e.0) (values_of (map.entries st.book))
