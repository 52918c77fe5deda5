-- The messages that wait, as contracts see them, and which kind is next.
use Rattle.std.specs.Prelude.{ℕ, Bool, true, false, not, ◌&&◌, ◌||◌, List, [], ◌∷◌, map}
use Rattle.std.specs.Prelude.{length, nat_lt}
use Rattle.linda_wire.specs.declared.message.Message.{Message}
use Rattle.linda_wire.specs.declared.message.Message.TheVariants as messages
use Rattle.linda_shared_queue.specs.declared.reply_slot.ReplySlot.{ReplySlot}
use Rattle.linda_shared_queue.specs.declared.queue.Waiting.{Waiting}
use Rattle.linda_shared_queue.specs.declared.queue.Queue.{Queue}

-- Whether no deed comes of the message.
abbrev pub only_asks : Message → Bool
only_asks (messages.Hello version client fresh) = false
only_asks (messages.Out n tuple) = false
only_asks (messages.Ask ticket remove template) = true
only_asks (messages.Accept n ticket id) = false
only_asks (messages.Cancel ticket) = true
only_asks (messages.Leave n) = false

-- Whether the next group is one of Asks and Cancels, given whether such wait, whether others wait,
-- and whether the last group was one. If both kinds wait, the groups alternate.
abbrev pub asks_next : Bool → Bool → Bool → Bool
asks_next asks others has_asked = asks && (not others || not has_asked)

module _ {L : Type 0} where
  -- a message that waits, where its answer goes, and how many messages of its call come after it
  abbrev pub seen : Waiting L → Message × ReplySlot L × ℕ
  seen w = (w.message, w.asked.address, w.behind)

  -- the messages of one call, each with the number of those after it
  abbrev pub all_seen : List (Message × ReplySlot L) → List (Message × ReplySlot L × ℕ)
  all_seen [] = []
  all_seen (m ∷ ms) = (m.0, m.1, length ms) ∷ all_seen ms

  -- the messages of a kind that wait, in order: Asks and Cancels, or all others
  abbrev pub line : Bool → Queue L → List (Message × ReplySlot L × ℕ)
  line true q = map seen q.asking.items
  line false q = map seen q.doing.items

  -- Whether the message in front of a line fits into this room, with all those of its call after
  -- it.
  abbrev pub fits : ℕ → List (Message × ReplySlot L × ℕ) → Bool
  fits room [] = false
  fits room (m ∷ ms) = nat_lt m.2 room

  -- Whether no deed comes of any of these.
  abbrev pub all_ask : List (Message × ReplySlot L) → Bool
  all_ask [] = true
  all_ask (m ∷ ms) = only_asks m.0 && all_ask ms
