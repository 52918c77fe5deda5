-- Sessions as contracts see them: what one received, took, queued and wrote, and how far it is.
use Rattle.std.specs.Prelude.{ℕ, ◌==◌, ◌&&◌, nat_le, Bool, true, false, not, if◌then◌else◌}
use Rattle.std.specs.Prelude.{List, [], ◌∷◌, ◌++◌, length, map, take, drop, Option, Some, None}
use Rattle.std.specs.Prelude.{option_map}
use Rattle.std.specs.List.{flat_map}
use Rattle.linda_wire.specs.declared.fault.FrameFault.{FrameFault}
use Rattle.linda_wire.specs.declared.message.Message.{Message}
use Rattle.linda_wire.specs.declared.refusal.Refusal.{Refusal}
use Rattle.linda_wire.specs.declared.refusal.Refusal.TheVariants as refusals
use Rattle.linda_wire.specs.declared.reply.Reply.{Reply}
use Rattle.linda_wire.specs.Frames.{message_frame, reply_frame}
use Rattle.linda_wire.specs.Offset.{offset_of}
use Rattle.linda_net_session.specs.declared.end.SessionEnd.{SessionEnd}
use Rattle.linda_net_session.specs.declared.end.SessionEnd.TheVariants as ends
use Rattle.linda_net_session.specs.declared.limits.TheConstants.{MOST_UNSENT}
use Rattle.linda_net_session.specs.declared.phase.Phase.{Phase}
use Rattle.linda_net_session.specs.declared.phase.Phase.TheVariants as phases
use Rattle.linda_net_session.specs.declared.phase.Way.{Way}
use Rattle.linda_net_session.specs.declared.route.Route.{Route}
use Rattle.linda_net_session.specs.Place.{on_way, answered}

pub record Session : Type 0 where
  -- all bytes that were received, and those of them that are not taken yet
  pub received : List ℕ
  pub unread : List ℕ
  -- the messages that were taken, and where each of them went
  pub taken : List (Message × Route)
  -- the replies that were queued, all bytes that went out, and those that wait
  pub told : List Reply
  pub sent : List ℕ
  pub pending : List ℕ
  pub phase : Phase
  pub ends : SessionEnd
  -- no whole message is left, as was seen
  pub rests : Bool

-- the messages, without their routes
abbrev pub messages : List (Message × Route) → List Message
messages taken = map (λ t. t.0) taken

-- ---- the end

-- Whether something may still be taken.
abbrev pub is_open : SessionEnd → Bool
is_open ends.Never = true
is_open ends.Shut = true
is_open (ends.Ending word) = false
is_open (ends.Told word) = false
is_open ends.Broken = false

-- Whether more bytes may come.
abbrev pub is_fed : SessionEnd → Bool
is_fed ends.Never = true
is_fed ends.Shut = false
is_fed (ends.Ending word) = false
is_fed (ends.Told word) = false
is_fed ends.Broken = false

-- Whether nothing more is queued.
abbrev pub is_closed : SessionEnd → Bool
is_closed ends.Never = false
is_closed ends.Shut = false
is_closed (ends.Ending word) = false
is_closed (ends.Told word) = true
is_closed ends.Broken = true

-- Nothing more is taken. The first word that is given is queued last.
abbrev pub ended_by : Option Refusal → SessionEnd → SessionEnd
ended_by word ends.Never = ends.Ending word
ended_by word ends.Shut = ends.Ending word
ended_by word (ends.Ending None) = ends.Ending word
ended_by word (ends.Ending (Some other)) = ends.Ending (Some other)
ended_by word (ends.Told other) = ends.Told other
ended_by word ends.Broken = ends.Broken

-- No more bytes come.
abbrev pub shut_by : SessionEnd → SessionEnd
shut_by ends.Never = ends.Shut
shut_by ends.Shut = ends.Shut
shut_by (ends.Ending word) = ends.Ending word
shut_by (ends.Told word) = ends.Told word
shut_by ends.Broken = ends.Broken

-- No whole message is left: it ends, if no more bytes come.
abbrev pub rested : SessionEnd → SessionEnd
rested ends.Never = ends.Never
rested ends.Shut = ends.Ending None
rested (ends.Ending word) = ends.Ending word
rested (ends.Told word) = ends.Told word
rested ends.Broken = ends.Broken

-- The word for a fault of a frame: the offset in it of the first byte at fault, 0 if its length is
-- at fault. Nothing if memory ran out.
abbrev pub word_of : FrameFault → Option Refusal
word_of fault = option_map (λ offset. refusals.Malformed offset) (offset_of fault)

-- ---- what may happen

-- Whether a message of a client that was not greeted is on its way.
abbrev pub is_greeting : Phase → Bool
is_greeting phases.Fresh = false
is_greeting phases.Greeting = true
is_greeting (phases.Open asks deeds) = false

-- Whether a message may be taken.
abbrev pub may_take : Session → Bool
may_take s = is_open s.ends && (not (is_greeting s.phase) && nat_le (length s.pending) MOST_UNSENT)

-- Whether bytes are wanted: no whole message is left.
abbrev pub wants_read : Session → Bool
wants_read s = may_take s && (is_fed s.ends && s.rests)

-- Whether there may be something to take.
abbrev pub has_more : Session → Bool
has_more s = may_take s && not (is_fed s.ends && s.rests)

-- Whether nothing is on its way, and nothing more is queued.
abbrev pub has_left : Session → Bool
has_left s = is_closed s.ends && (on_way s.phase == 0)

-- Whether all is answered, queued and written.
abbrev pub is_over : Session → Bool
is_over s = has_left s && (length s.pending == 0)

-- ---- what happens

-- Nothing came yet.
abbrev pub begun : Session
begun = record {
  received = [];
  unread = [];
  taken = [];
  told = [];
  sent = [];
  pending = [];
  phase = phases.Fresh;
  ends = ends.Never;
  rests = true;
}

-- These bytes came.
abbrev pub came : List ℕ → Session → Session
came bytes s =
    if is_fed s.ends
    then record s { received = s.received ++ bytes; unread = s.unread ++ bytes; rests = false }
    else s

-- No more bytes come.
abbrev pub shut : Session → Session
shut s = record s { ends = shut_by s.ends }

-- It ends with this word.
abbrev pub ended : Option Refusal → Session → Session
ended word s = record s { ends = ended_by word s.ends }

-- No whole message is left.
abbrev pub at_rest : Session → Session
at_rest s = record s { ends = rested s.ends; rests = true }

-- A message was taken off the front.
abbrev pub took : Message → List ℕ → Route × Phase → Session → Session
took m rest placed s =
    record s { unread = rest; taken = s.taken ++ (m, placed.0) ∷ []; phase = placed.1 }

-- This reply is queued.
abbrev pub said : Reply → Session → Session
said r s = record s { told = s.told ++ r ∷ []; pending = s.pending ++ reply_frame r }

-- It can be neither read nor written.
abbrev pub broken : Session → Session
broken s = record s { pending = []; ends = ends.Broken }

-- It is this far.
abbrev pub in_phase : Phase → Session → Session
in_phase phase s = record s { phase = phase }

-- One that went this way came back.
abbrev pub heard : Way → Session → Session
heard way s = record s { phase = answered way s.phase }

-- So many bytes went out.
abbrev pub wrote : ℕ → Session → Session
wrote count s =
    record s { sent = s.sent ++ take count s.pending; pending = drop count s.pending }

-- ---- what the fields of a session say

-- The bytes that are not taken: the frame of a message that was read and kept, and those not read.
abbrev pub unread_of : Option Message → List ℕ → List ℕ
unread_of None feed = feed
unread_of (Some m) feed = message_frame m ++ feed

-- A session with these fields. What came is a feed and how long it was before; what went out is
-- what waited and how much of that went out.
abbrev pub session_of : List (List ℕ × ℕ) → Option Message → List ℕ → List (Message × Route)
    → List (Reply × Unit {0}) → List (List ℕ × ℕ) → List ℕ → Phase → SessionEnd → Bool → Session
session_of reads held feed takes tells writes out phase end may_have = record {
  received = flat_map (λ r. drop r.1 r.0) reads;
  unread = unread_of held feed;
  taken = takes;
  told = map (λ t. t.0) tells;
  sent = flat_map (λ w. take w.1 w.0) writes;
  pending = out;
  phase = phase;
  ends = end;
  rests = not may_have;
}
