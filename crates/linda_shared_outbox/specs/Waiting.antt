-- Waiting replies of each client, as a function that answers nothing if the client has no outbox.
use Rattle.std.specs.Prelude.{ℕ, ◌+◌, ◌≤◌, ◌<◌, ⊤, List, Option, None, Some, All, length}
use Rattle.std.specs.Prelude.{vec_len, vec_capacity}
use Rattle.linda_wire.specs.declared.reply.Reply.{Reply}
use Rattle.linda_shared_outbox.specs.Boxes.{box_of, replies_in, TakesMore}
use Rattle.linda_shared_outbox.specs.declared.outboxes.Outboxes.{Outboxes}

-- what waits for a client, if it has an outbox
abbrev pub waits_for : Outboxes → ℕ → Option (List Reply)
waits_for outboxes c = replies_in (box_of outboxes.keys outboxes.boxes c)

-- There is room for so many more to this client, and for as many clients more that wait.
abbrev pub HasRoom : ℕ → Outboxes → ℕ → Type 0
HasRoom n outboxes c =
    (vec_len outboxes.waiting + n ≤ vec_capacity outboxes.waiting)
    × TakesMore n (box_of outboxes.keys outboxes.boxes c)

-- There is room for all that is sent.
abbrev pub HasPlaces : Outboxes → List (ℕ × Reply) → Type 0
HasPlaces outboxes sends =
    (vec_len outboxes.waiting + length sends ≤ vec_capacity outboxes.waiting)
    × All (λ s. TakesMore (length sends) (box_of outboxes.keys outboxes.boxes s.0)) sends

-- The client is above the last one, if there is a last one.
abbrev pub IsAbove : Option ℕ → ℕ → Type 0
IsAbove None client = ⊤
IsAbove (Some last) client = last < client
