-- Conversation over a reader and a writer: what it did, however it ended.
use Rattle.std.specs.Prelude.{◌≡◌, ℕ, ◌≤◌, Bool, false, List, ◌++◌, length, take}
use Rattle.std.specs.Prelude.{Option, Some, None, Result, Ok, Err, IfOk}
use Rattle.std.specs.List.{flat_map}
use Rattle.std.specs.Io.KnownBytes.{Consumes, Appends, IsAtEnd}
use Rattle.linda_wire.specs.declared.reply.Reply.{Reply}
use Rattle.linda_wire.specs.Frames.{reply_frame}
use Rattle.linda_store.specs.declared.connection_state.ConnectionState.{ConnectionState}
use Rattle.linda_store.specs.declared.connection_state.ConnectionState.TheVariants as stages
use Rattle.linda_store.specs.declared.conversation.TheConstants.{MAX_READS}
use Rattle.linda_store.specs.declared.end.End.{End}
use Rattle.linda_store.specs.declared.end.End.TheVariants as ends
use Rattle.linda_store.specs.declared.end.ConverseFault.{ConverseFault}
use Rattle.linda_store.specs.declared.end.ConverseFault.TheVariants as faults
use Rattle.linda_store.specs.Node.{Node, NodeAnswer, Closes}
use Rattle.linda_store.specs.Turn.{Point, point_at, beginning}
use Rattle.linda_store.specs.Conversation.{IsTalk, IsConversation}
use Rattle.linda_store.specs.Session.{Session, point_of}

-- All that came was answered, up to a rest, and all of the answers were written.
pub record IsWritten (from : Point) (read written : List ℕ) (stage : ConnectionState)
    (rest : List ℕ)
    (to : Point) : Type 0 where
  pub said : List Reply
  pub talk : IsConversation from read said stage rest to
  pub spelled : written ≡ flat_map reply_frame said

-- All that came was answered, up to a rest, and a prefix of the answers was written.
pub record IsWrittenInPart (from : Point) (read written : List ℕ) (to : Point) : Type 0 where
  pub said : List Reply
  pub stage : ConnectionState
  pub rest : List ℕ
  pub count : ℕ
  pub talk : IsConversation from read said stage rest to
  pub spelled : written ≡ take count (flat_map reply_frame said)

-- Some first messages of what came were answered, and a prefix of the answers was written.
pub record IsBrokenOff (from : Point) (read written : List ℕ) (to : Point) : Type 0 where
  pub said : List Reply
  pub rest : List ℕ
  pub count : ℕ
  pub talk : IsTalk from read said rest to
  pub spelled : written ≡ take count (flat_map reply_frame said)

-- What was done with bytes that were there, if only the writer or memory may fail: all is answered
-- and written, up to a rest, and the connection is in this state; or some of it is.
abbrev pub AnswersSo : Result ConnectionState ConverseFault → Point → List ℕ → List ℕ → List ℕ
    → Point
    → Type 0
AnswersSo (Ok stage) from bytes written rest to = IsWritten from bytes written stage rest to
AnswersSo (Err faults.Write) from bytes written rest to = IsWrittenInPart from bytes written to
AnswersSo (Err faults.Memory) from bytes written rest to = IsBrokenOff from bytes written to
AnswersSo (Err faults.Read) from bytes written rest to = ⊥
AnswersSo (Err faults.Turns) from bytes written rest to = ⊥
AnswersSo (Err faults.Down) from bytes written rest to = ⊥

-- A session that was open took a piece and put bytes after those of a writer.
pub record HasReplied (old : Session) (was : Node) (piece : List ℕ) (output now : Option (List ℕ))
    (result : Result ConnectionState ConverseFault) (new : Session) (node : Node) : Type 0 where
  pub written : List ℕ
  pub is_open : Bool
  pub appended : Appends output now written
  pub answers :
      AnswersSo result (point_of old was) (old.unread ++ piece) written new.unread
      (point_at node new.greeted is_open)
  pub stage : IfOk result (λ stage. new.stage ≡ stage)
  pub not_spent : IfOk result (λ _. new.is_spent ≡ false)

-- How a conversation ended: what came and what was written, what the reader has left, and the point
-- of the conversation then.
abbrev pub EndsSo : Result End ConverseFault → Point → List ℕ → List ℕ → Option (List ℕ) → Point
    → Type 0
EndsSo (Ok (ends.Ended n)) from read written left to =
    IsAtEnd left × ((rest : List ℕ)
    × (IsWritten from read written stages.Open rest to × (n ≡ length rest)))
EndsSo (Ok (ends.Malformed detail)) from read written left to =
    (rest : List ℕ) × IsWritten from read written (stages.Malformed detail) rest to
EndsSo (Err faults.Down) from read written left to =
    (rest : List ℕ) × IsWritten from read written stages.Down rest to
EndsSo (Err faults.Read) from read written left to =
    (rest : List ℕ) × IsWritten from read written stages.Open rest to
EndsSo (Err faults.Turns) from read written left to =
    (MAX_READS ≤ length read) × ((rest : List ℕ) × IsWritten from read written stages.Open rest to)
EndsSo (Err faults.Write) from read written left to = IsWrittenInPart from read written to
EndsSo (Err faults.Memory) from read written left to = IsBrokenOff from read written to

-- A conversation with a node took bytes off a reader and put bytes after those of a writer, and
-- ended so.
pub record HasEnded (node : Node) (input left output now : Option (List ℕ))
    (result : Result End ConverseFault) (to : Point) : Type 0 where
  pub read : List ℕ
  pub written : List ℕ
  pub consumed : Consumes input left read
  pub appended : Appends output now written
  pub ends : EndsSo result (beginning node) read written left to

-- what contracts know of a reader or a writer: the bytes that are left, or that were written
abbrev pub KnownBytes : Type 0
KnownBytes = Option (List ℕ)

-- A conversation with a node ended so at a point of which only the node and the greeted client are
-- given.
abbrev pub HasEndedAt :
    Node → KnownBytes → KnownBytes → KnownBytes → KnownBytes → Result End ConverseFault → Node
    → Option ℕ → Type 0
HasEndedAt node input left output now result new greeted =
    (is_open : Bool) × HasEnded node input left output now result (point_at new greeted is_open)

-- The greeted client, if there is one, is closed; this is the node after it.
abbrev pub IsLeft : Option ℕ → Node → Node → Type 0
IsLeft None old new = new ≡ old
IsLeft (Some c) old new = (answer : NodeAnswer) × Closes old c answer new

-- A whole conversation: it ended in some point, and then the greeted client was closed.
abbrev pub HasConversed :
    Node → KnownBytes → KnownBytes → KnownBytes → KnownBytes → Result End ConverseFault → Node
    → Type 0
HasConversed node input left output now result new =
    (point : Point) × (HasEnded node input left output now result point
    × IsLeft point.greeted point.node new)
