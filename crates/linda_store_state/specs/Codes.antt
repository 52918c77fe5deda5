-- Codes of states, for a model's value that holds one.
use Rattle.std.specs.Prelude.{ℕ, refl}
use Rattle.std.specs.Coded.{Coded, code_by, coded×, coded_ℕ}
use Rattle.std.specs.FinMap as map
use Rattle.std.specs.Ordering.{nat_cmp}
use Rattle.linda_tuple.specs.Tuple.{Tuple}
use Rattle.linda_tuple.specs.Codes.{tuple_code}
use Rattle.linda_book.specs.Entries.{Entry}
use Rattle.linda_book.specs.Codes.{book_code}
use Rattle.linda_store_state.specs.State.{State}

-- a state in parts, and their code
abbrev pub StateParts : Type 0
StateParts = map.FinMap nat_cmp Tuple × (map.FinMap nat_cmp Entry × ℕ)

abbrev pub parts_code : Coded StateParts
parts_code = coded× (map.code coded_ℕ tuple_code) (coded× book_code coded_ℕ)

-- the code of a state
abbrev pub state_code : Coded State
state_code =
    code_by StateParts parts_code (λ s. (s.bag, (s.book, s.next)))
    (λ p. record { bag = p.0; book = p.1.0; next = p.1.1 }) (λ _. refl)
