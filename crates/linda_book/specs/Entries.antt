-- Entries of a book, one for each client.
use Rattle.std.specs.Prelude.{ℕ, Bool, true, false, Option, Some, None}
use Rattle.linda_book.specs.declared.kept_reply.KeptReply.{KeptReply}
use Rattle.linda_book.specs.declared.kept_reply.KeptReply.TheVariants.{Stored, Taken, Gone, Left}

-- The reply has a tuple.
abbrev pub HasTuple : KeptReply → Type 0
HasTuple (Stored id) = ⊥
HasTuple (Taken id tuple) = Unit {0}
HasTuple Gone = ⊥
HasTuple Left = ⊥

-- whether the reply is that to a Leave
abbrev pub is_left : KeptReply → Bool
is_left (Stored id) = false
is_left (Taken id tuple) = false
is_left Gone = false
is_left Left = true

-- An entry: the number of the client's last numbered message, and the reply to it.
abbrev pub Entry : Type 0
Entry = ℕ × KeptReply

-- the number in an entry, 0 if there is none
abbrev pub number_in : Option Entry → ℕ
number_in None = 0
number_in (Some entry) = entry.0

-- whether the client of an entry left
abbrev pub left_in : Option Entry → Bool
left_in None = false
left_in (Some entry) = is_left entry.1
