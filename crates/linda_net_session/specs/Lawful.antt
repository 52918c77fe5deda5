-- Laws of each session, which hold after any calls.
use Rattle.std.specs.Prelude.{◌≡◌, ℕ, ◌≤◌, true, List, [], ◌∷◌, ◌++◌, All}
use Rattle.std.specs.Prelude.{Some, None}
use Rattle.std.specs.List.{flat_map}
use Rattle.linda_wire.specs.declared.message.Message.{Message}
use Rattle.linda_wire.specs.declared.reply.Reply.{Reply}
use Rattle.linda_wire.specs.Frames.{message_frame, reply_frame, FitsMessage}
use Rattle.linda_wire.specs.Refusal.{refused}
use Rattle.linda_wire.specs.Stream.{Partial, HasNoValue, message_front}
use Rattle.linda_net_session.specs.declared.end.SessionEnd.{SessionEnd}
use Rattle.linda_net_session.specs.declared.end.SessionEnd.TheVariants as ends
use Rattle.linda_net_session.specs.declared.phase.TheConstants.{MOST_ASKED}
use Rattle.linda_net_session.specs.Place.{on_way}
use Rattle.linda_net_session.specs.Session.{Session, messages}

-- These are the first ones of the others.
abbrev pub IsPrefixOf : {A : Type 0} → List A → List A → Type 0
IsPrefixOf {A = A} these others = (rest : List A) × (others ≡ these ++ rest)

-- The bytes spell these messages, each of which fits its frame, and a rest.
pub record IsReading (bytes : List ℕ) (ms : List Message) (rest : List ℕ) : Type 0 where
  pub fit : All FitsMessage ms
  pub spelled : bytes ≡ flat_map message_frame ms ++ rest

-- What went out and what waits are the frames of the replies that were queued; of a broken session,
-- what went out is the front of them.
abbrev pub HasSaid : SessionEnd → List Reply → List ℕ → List ℕ → Type 0
HasSaid ends.Never told sent pending = flat_map reply_frame told ≡ sent ++ pending
HasSaid ends.Shut told sent pending = flat_map reply_frame told ≡ sent ++ pending
HasSaid (ends.Ending word) told sent pending = flat_map reply_frame told ≡ sent ++ pending
HasSaid (ends.Told word) told sent pending = flat_map reply_frame told ≡ sent ++ pending
HasSaid ends.Broken told sent pending =
    (pending ≡ []) × IsPrefixOf sent (flat_map reply_frame told)

-- The last word, if there is one, is the last reply that was queued.
abbrev pub HasLast : SessionEnd → List Reply → Type 0
HasLast ends.Never told = Unit {0}
HasLast ends.Shut told = Unit {0}
HasLast (ends.Ending word) told = Unit {0}
HasLast (ends.Told None) told = Unit {0}
HasLast (ends.Told (Some word)) told = (before : List Reply) × (told ≡ before ++ refused word ∷ [])
HasLast ends.Broken told = Unit {0}

-- What holds of each session.
pub record IsLawful (s : Session) : Type 0 where
  -- what was taken are the messages of the whole frames that were received, once and in order
  pub read : IsReading s.received (messages s.taken) s.unread
  -- what was and will be written are the frames of the replies that were queued, in order, and
  -- nothing else
  pub said : HasSaid s.ends s.told s.sent s.pending
  pub last : HasLast s.ends s.told
  -- few messages are on their way
  pub few : on_way s.phase ≤ MOST_ASKED
  -- if it rests no whole message is left
  pub rest : s.rests ≡ true → message_front s.unread ≡ Partial

-- If one session received the first bytes of what another did, and the other left no whole message,
-- the one took the first messages of the other: it does not matter how the bytes were cut.
abbrev pub HaveOneStory : Session → Session → Type 0
HaveOneStory one other =
    IsPrefixOf one.received other.received → HasNoValue (message_front other.unread)
    → IsPrefixOf (messages one.taken) (messages other.taken)
