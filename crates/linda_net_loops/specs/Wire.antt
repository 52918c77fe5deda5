-- The way of bytes between the socket of a connection and its session.
use Rattle.std.specs.Prelude.{◌≡◌, ◌⊎◌, ℕ, false, List, [], ◌++◌, All, Option, None}
use Rattle.std.specs.Io.KnownBytes.{Appends, Consumes}
use Rattle.std.specs.List.{flat_map}
use Rattle.linda_wire.specs.Frames.{message_frame, reply_frame, FitsMessage}
use Rattle.linda_net_session.specs.Session.{Session, is_fed, messages}
use Rattle.linda_net_session.specs.Lawful.{IsPrefixOf}

-- The bytes of a socket that are still to be read, and those that went out, if they are known.
pub record Wire : Type 0 where
  pub left : Option (List ℕ)
  pub out : Option (List ℕ)

-- A socket of which nothing is known, as of the system.
abbrev pub unknown : Wire
unknown = record { left = None; out = None }

-- The session received all bytes that were read, in order; once it takes no more, the first ones.
pub record Receives (read : List ℕ) (old new : Session) : Type 0 where
  pub rest : List ℕ
  pub first : old.received ++ read ≡ new.received ++ rest
  pub whole : (rest ≡ []) ⊎ (is_fed new.ends ≡ false)

-- A session that takes no more bytes takes none again.
abbrev pub StaysOver : Session → Session → Type 0
StaysOver old new =
    is_fed old.ends ≡ false → (is_fed new.ends ≡ false) × (new.received ≡ old.received)

-- What was read of the socket was received, and what the session sent went out: nothing is lost,
-- added, repeated or in another order.
pub record Carries (before after : Wire) (old new : Session) : Type 0 where
  pub read : List ℕ
  pub consumed : Consumes before.left after.left read
  pub receives : Receives read old new
  pub over : StaysOver old new
  pub written : List ℕ
  pub appended : Appends before.out after.out written
  pub sent : new.sent ≡ old.sent ++ written

-- The whole life of a connection: the messages that were taken are the first that the bytes read of
-- the socket spell, and the bytes that went out are the first of those that spell the replies that
-- it was to send, in order. It does not matter how the bytes were cut.
pub record IsStory (before after : Wire) (s : Session) : Type 0 where
  pub read : List ℕ
  pub consumed : Consumes before.left after.left read
  pub fit : All FitsMessage (messages s.taken)
  pub taken : IsPrefixOf (flat_map message_frame (messages s.taken)) read
  pub written : List ℕ
  pub appended : Appends before.out after.out written
  pub told : IsPrefixOf written (flat_map reply_frame s.told)
