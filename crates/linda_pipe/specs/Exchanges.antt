-- Exchanges of lines, and where their steps lead.
use Rattle.std.specs.Prelude.{◌≡◌, ℕ, ◌≤◌, Bool, true, false, List, [], ◌++◌, map, length}
use Rattle.std.specs.Prelude.{Option, Some, Result, Ok, Err}
use Rattle.std.specs.List.{flat_map, concat}
use Rattle.std.specs.Io.KnownBytes.{Appends, Consumes}
use Rattle.linda_pipe.specs.Lines.{HasNoFeed, IsCut}
use Rattle.linda_pipe.specs.Hex.{piece_of}
use Rattle.linda_pipe.specs.Piping.{reply_line, HasEnded, IsPipedTo, IsTextOf}
use Rattle.linda_wire.specs.declared.reply.Reply.{Reply}
use Rattle.linda_store.specs.declared.connection_state.ConnectionState.TheVariants as stages
use Rattle.linda_store.specs.Node.{Node}
use Rattle.linda_store.specs.Turn.{beginning}
use Rattle.linda_store.specs.Conversation.{IsConversation}
use Rattle.linda_store.specs.Session.{Session, point_of}
use Rattle.linda_pipe.specs.declared.fault.PipeFault.{PipeFault}
use Rattle.linda_pipe.specs.declared.exchange.Exchange.{Exchange}

-- The conversation may go on, and memory did not run out in it.
abbrev pub IsOpen : Session → Type 0
IsOpen session = (session.stage ≡ stages.Open) × (session.is_spent ≡ false)

-- whether a conversation goes on; else a malformed frame has ended it
abbrev pub GoesOn : Bool → Session → Type 0
GoesOn true session = IsOpen session
GoesOn false session = (detail : ℕ) × (session.stage ≡ stages.Malformed detail)

-- It ends here, whatever text comes later, with a node that was this one at first.
abbrev pub IsOver : Node → List ℕ → List ℕ → Result Unit PipeFault → Type 0
IsOver first text written result =
    (later : List ℕ) (left : Option (List ℕ)) → HasEnded first (text ++ later) written left result

-- It ends with what was read so far, given what is left to the reader.
pub record IsEnded (first : Node) (read written : List ℕ) (left : Option (List ℕ))
    (result : Result Unit PipeFault) : Type 0 where
  pub text : List ℕ
  pub text_is : IsTextOf read left text
  pub ends : HasEnded first text written left result

-- The node of an exchange is shown so.
module _ {N : Type 0} (shown : N → Node) where
  -- The conversation over these bytes, in which this is said, began with that node and is now as
  -- the exchange has it.
  abbrev pub HasTalked : Node → List ℕ → List Reply → Exchange N → Type 0
  HasTalked first bytes said x =
      IsConversation (beginning first) bytes said x.session.stage x.session.unread
      (point_of x.session (shown x.node))

  -- A conversation in which `said` was said covers these bytes now; what was said to the newest of
  -- them is in the buffer.
  pub record IsContinued (first : Node) (bytes : List ℕ) (said : List Reply) (goes_on : Bool)
      (old new : Exchange N) : Type 0 where
    pub later : List Reply
    pub talk : HasTalked first bytes (said ++ later) new
    pub out : new.replies.items ≡ old.replies.items ++ flat_map reply_line later
    pub goes : GoesOn goes_on new.session

  -- What taking a piece leads to.
  abbrev pub Continues : List ℕ → Bool → Exchange N → Exchange N → Type 0
  Continues piece goes_on old new =
      (first : Node) (bytes : List ℕ) (said : List Reply) → IsOpen old.session
      → HasTalked first bytes said old
      → IsContinued first (bytes ++ piece) said goes_on old new

  -- The text so far is lines, which were answered, and this unfinished line. The reply lines are
  -- those that were sent and those in the buffer. The node was that one at first.
  pub record IsAtLine (first : Node) (text sent line : List ℕ) (x : Exchange N) : Type 0 where
    pub lines : List (List ℕ)
    pub pieces : List (List ℕ)
    pub said : List Reply
    pub cut : IsCut text lines line
    pub unfinished : HasNoFeed line
    pub counted : x.lines ≡ length lines
    pub decoded : map piece_of lines ≡ map Some pieces
    pub talk : HasTalked first (concat pieces) said x
    pub is_open : IsOpen x.session
    pub out : flat_map reply_line said ≡ sent ++ x.replies.items

  -- The same, and the exchange keeps the unfinished line.
  abbrev pub IsUnderway : Node → List ℕ → List ℕ → Exchange N → Type 0
  IsUnderway first text sent x = IsAtLine first text sent x.line.items x

  -- What taking some text leads to: the exchange is under way still, or it is over.
  abbrev pub LeadsTo : Node → List ℕ → List ℕ → Exchange N → Result Bool PipeFault → Type 0
  LeadsTo first text sent x (Ok true) = IsUnderway first text sent x
  LeadsTo first text sent x (Ok false) = IsOver first text (sent ++ x.replies.items) (Ok tt)
  LeadsTo first text sent x (Err fault) = IsOver first text (sent ++ x.replies.items) (Err fault)

  -- What taking the bytes of a read leads to: the exchange is under way still, or it has ended.
  abbrev pub ReadsTo :
      Node → List ℕ → List ℕ → Option (List ℕ) → Exchange N → Result Bool PipeFault → Type 0
  ReadsTo first read sent left x (Ok true) = IsUnderway first read sent x
  ReadsTo first read sent left x (Ok false) =
      IsEnded first read (sent ++ x.replies.items) left (Ok tt)
  ReadsTo first read sent left x (Err fault) =
      IsEnded first read (sent ++ x.replies.items) left (Err fault)

  -- After so many reads, each of which gave a byte at least: what was read is under way, and all
  -- reply lines were written.
  pub record IsPiping (first : Node) (reads : ℕ)
      (reader_old reader_new writer_old writer_new : Option (List ℕ))
      (x : Exchange N) : Type 0 where
    pub read : List ℕ
    pub written : List ℕ
    pub many : reads ≤ length read
    pub consumed : Consumes reader_old reader_new read
    pub appended : Appends writer_old writer_new written
    pub underway : IsUnderway first read written x
    pub sent : x.replies.items ≡ []

  -- What one read leads to, with which there were so many.
  abbrev pub TurnsTo : Node → ℕ → Option (List ℕ) → Option (List ℕ) → Option (List ℕ)
      → Option (List ℕ)
      → Exchange N → Result Bool PipeFault → Type 0
  TurnsTo first reads reader_old reader_new writer_old writer_new x (Ok true) =
      IsPiping first reads reader_old reader_new writer_old writer_new x
  TurnsTo first reads reader_old reader_new writer_old writer_new x (Ok false) =
      IsPipedTo first reader_old reader_new writer_old writer_new (Ok tt)
  TurnsTo first reads reader_old reader_new writer_old writer_new x (Err fault) =
      IsPipedTo first reader_old reader_new writer_old writer_new (Err fault)
