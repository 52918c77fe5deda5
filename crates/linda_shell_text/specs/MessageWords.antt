-- The one text of a message and of a reply: a word, numbers after one blank each, and a tuple or a
-- template.
use Rattle.std.specs.Prelude.{ℕ, Bool, true, false, List, ◌∷◌, ◌++◌, codes}
use Rattle.std.specs.Fmt.{decimal}
use Rattle.linda_tuple.specs.Tuple.{Tuple}
use Rattle.linda_text.specs.Written.{written_tuple, written_template}
use Rattle.linda_wire.specs.declared.message.Message.{Message}
use Rattle.linda_wire.specs.declared.message.Message.TheVariants as messages
use Rattle.linda_wire.specs.declared.reply.Reply.{Reply}
use Rattle.linda_wire.specs.declared.reply.Reply.TheVariants as replies

-- A blank, and what follows.
abbrev pub spaced : List ℕ → List ℕ
spaced text = 32 ∷ text

-- A word and a number.
abbrev pub numbered : List ℕ → ℕ → List ℕ
numbered word number = word ++ spaced (decimal number)

-- A word, a number, and what follows after a blank.
abbrev pub numbered_then : List ℕ → ℕ → List ℕ → List ℕ
numbered_then word number rest = word ++ spaced (decimal number ++ spaced rest)

-- A word, two numbers, and what follows after a blank.
abbrev pub twice_numbered_then : List ℕ → ℕ → ℕ → List ℕ → List ℕ
twice_numbered_then word one two rest = numbered_then word one (decimal two ++ spaced rest)

-- Whether a client has kept nothing.
abbrev pub fresh_word : Bool → List ℕ
fresh_word true = codes "fresh"
fresh_word false = codes "known"

-- Whether a client wants to take what it asks for.
abbrev pub ask_word : Bool → List ℕ
ask_word true = codes "in"
ask_word false = codes "rd"

abbrev pub message_words : Message → List ℕ
message_words (messages.Hello version client fresh) =
    twice_numbered_then (codes "hello") version client (fresh_word fresh)
message_words (messages.Out n tuple) = numbered_then (codes "out") n (written_tuple tuple)
message_words (messages.Ask ticket remove template) =
    numbered_then (ask_word remove) ticket (written_template template)
message_words (messages.Accept n ticket id) =
    twice_numbered_then (codes "accept") n ticket (decimal id)
message_words (messages.Cancel ticket) = numbered (codes "cancel") ticket
message_words (messages.Leave n) = numbered (codes "leave") n

-- Two numbers and a tuple after a word.
abbrev pub entry_words : List ℕ → ℕ → ℕ → Tuple → List ℕ
entry_words word number id tuple = twice_numbered_then word number id (written_tuple tuple)

abbrev pub reply_words : Reply → List ℕ
reply_words (replies.Welcome last) = numbered (codes "welcome") last
reply_words (replies.Stored n id) = numbered_then (codes "stored") n (decimal id)
reply_words (replies.Offer ticket id tuple) = entry_words (codes "offer") ticket id tuple
reply_words (replies.Read ticket id tuple) = entry_words (codes "read") ticket id tuple
reply_words (replies.Taken n id tuple) = entry_words (codes "taken") n id tuple
reply_words (replies.Gone n) = numbered (codes "gone") n
reply_words (replies.Refused code detail) = numbered_then (codes "refused") code (decimal detail)
reply_words (replies.Left n) = numbered (codes "left") n
