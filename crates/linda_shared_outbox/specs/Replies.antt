-- Lists of replies that wait; none if there is no outbox.
use Rattle.std.specs.Prelude.{ℕ, ◌==◌, List, [], ◌∷◌, ◌++◌, Option, Some, None, if◌then◌else◌}
use Rattle.linda_wire.specs.declared.reply.Reply.{Reply}

-- the replies to a client, in order
abbrev pub replies_to : ℕ → List (ℕ × Reply) → List Reply
replies_to c [] = []
replies_to c (s ∷ ss) = if s.0 == c then s.1 ∷ replies_to c ss else replies_to c ss

-- an empty outbox if there was none
abbrev pub opened : Option (List Reply) → Option (List Reply)
opened None = Some []
opened (Some rs) = Some rs

-- these after what waits
abbrev pub with_more : List Reply → Option (List Reply) → Option (List Reply)
with_more more None = None
with_more more (Some rs) = Some (rs ++ more)

-- the outbox with nothing in it, if there is one
abbrev pub emptied : Option (List Reply) → Option (List Reply)
emptied None = None
emptied (Some rs) = Some []

-- what is handed out
abbrev pub handed_out : Option (List Reply) → List Reply
handed_out None = []
handed_out (Some rs) = rs
