-- The states whose snapshots are given.
use Rattle.std.specs.Prelude.{ℕ, List, [], ◌∷◌}
use Rattle.std.specs.FinMap.{from_sorted}
use Rattle.linda_tuple.specs.Tuple.{Tuple}
use Rattle.linda_book.specs.Entries.{Entry}
use Rattle.linda_book.specs.declared.kept_reply.KeptReply.TheVariants.{Stored, Gone, Left}
use Rattle.linda_store_state.specs.State.{State}
use Rattle.linda_test_code_libraries.specs.Examples.{client, number, id, row, later_client}
use Rattle.linda_test_code_libraries.specs.Examples.{later_number, later_id, last_client}
use Rattle.linda_test_code_libraries.specs.Examples.{last_number, stored_id, next_id, tag_only}

-- The state of these tuples by rising id and these clients by rising number.
abbrev pub state_of : ℕ → List (ℕ × Tuple) → List (ℕ × Entry) → State
state_of next tuples clients =
    record { bag = from_sorted tuples; book = from_sorted clients; next = next }

abbrev pub tuples : List (ℕ × Tuple)
tuples = (id, row) ∷ (later_id, tag_only) ∷ []

abbrev pub first_client : ℕ × Entry
first_client = (client, (number, Stored stored_id))

abbrev pub clients : List (ℕ × Entry)
clients =
    first_client ∷ (later_client, (later_number, Gone)) ∷ (last_client, (last_number, Left)) ∷ []

abbrev pub state : State
state = state_of next_id tuples clients

-- A state that has a spelling in the first form too: nobody left.
abbrev pub state_before : State
state_before = state_of next_id tuples (first_client ∷ [])
