-- Piping: from lines to pieces, from pieces to a conversation, from replies to lines.
use Rattle.std.specs.Prelude.{◌≡◌, ℕ, ◌+◌, ◌≤◌, false, List, [], ◌++◌, map, length, take, ◌⊎◌}
use Rattle.std.specs.Prelude.{Option, Some, None, Result, Ok, Err}
use Rattle.std.specs.List.{flat_map, concat}
use Rattle.std.specs.Io.KnownBytes.{Appends, Consumes, IsAtEnd}
use Rattle.hex.specs.Hex.{encode_lower}
use Rattle.linda_pipe.specs.Lines.{HasNoFeed, ended, IsCut}
use Rattle.linda_pipe.specs.Hex.{piece_of}
use Rattle.linda_wire.specs.declared.reply.Reply.{Reply}
use Rattle.linda_wire.specs.Frames.{reply_frame}
use Rattle.linda_store.specs.declared.connection_state.ConnectionState.{ConnectionState}
use Rattle.linda_store.specs.declared.connection_state.ConnectionState.TheVariants as stages
use Rattle.linda_store_state.specs.State.{empty_state}
use Rattle.linda_store_step.specs.Soft.{no_asks}
use Rattle.linda_store.specs.Node.{Node}
use Rattle.linda_store.specs.Turn.{Point, beginning}
use Rattle.linda_store.specs.Conversation.{IsConversation}
use Rattle.linda_store.specs.declared.conversation.TheConstants.{MAX_READS}
use Rattle.linda_pipe.specs.declared.fault.PipeFault.{PipeFault}
use Rattle.linda_pipe.specs.declared.fault.PipeFault.TheVariants as faults

-- a reply as a line: the digits of its frame, in lower case, and the line feed
abbrev pub reply_line : Reply → List ℕ
reply_line reply = ended (encode_lower (reply_frame reply))

-- a volatile server that was never used
abbrev pub unused : Node
unused =
    record { state = empty_state; soft = no_asks; is_down = false; may_fill = false; lost = [] }

-- The lines say pieces of a stream, and these replies are all that a node, which was this one at
-- first, says to it.
pub record IsAnswered (first : Node) (lines : List (List ℕ)) (said : List Reply)
    (stage : ConnectionState)
    : Type 0 where
  pub pieces : List (List ℕ)
  pub unread : List ℕ
  pub to : Point
  pub decoded : map piece_of lines ≡ map Some pieces
  pub talk : IsConversation (beginning first) (concat pieces) said stage unread to

-- The text goes on with a line that is not hexadecimal.
pub record HasBadLine (text : List ℕ) : Type 0 where
  pub line : List ℕ
  pub later : List ℕ
  pub spelled : text ≡ ended line ++ later
  pub whole : HasNoFeed line
  pub bad : piece_of line ≡ None

-- A conversation that ended well: the text and the input have ended, or a reply has ended the
-- conversation.
abbrev pub IsDone : ConnectionState → List ℕ → Option (List ℕ) → Type 0
IsDone stages.Open more left = (more ≡ []) × IsAtEnd left
IsDone (stages.Malformed detail) more left = Unit {0}
IsDone stages.Down more left = ⊥

-- How the pipe ends, after so many lines of a text of so many bytes, with so much of the text after
-- them and such bytes left to the reader. If reading failed, all whole lines were taken.
abbrev pub EndsAs : Result Unit PipeFault → ℕ → ℕ → List ℕ → Option (List ℕ) → ConnectionState
    → Type 0
EndsAs (Ok done) count size more left stage = IsDone stage more left
EndsAs (Err (faults.NotHexadecimal n)) count size more left stage =
    (n ≡ count + 1) × HasBadLine more × (stage ≡ stages.Open)
EndsAs (Err (faults.Memory n)) count size more left stage = (n ≡ count + 1) × (stage ≡ stages.Open)
EndsAs (Err faults.Read) count size more left stage = HasNoFeed more × (stage ≡ stages.Open)
EndsAs (Err faults.Write) count size more left stage = Unit {0}
EndsAs (Err faults.Turns) count size more left stage =
    (HasNoFeed more × (stage ≡ stages.Open)) × (MAX_READS ≤ size)

-- What has gone out: all reply lines, or, if writing failed, some first bytes of them.
abbrev pub GoesOut : Result Unit PipeFault → List ℕ → List ℕ → Type 0
GoesOut (Ok done) all written = written ≡ all
GoesOut (Err (faults.NotHexadecimal n)) all written = written ≡ all
GoesOut (Err (faults.Memory n)) all written = written ≡ all
GoesOut (Err faults.Read) all written = written ≡ all
GoesOut (Err faults.Write) all written = (k : ℕ) × (written ≡ take k all)
GoesOut (Err faults.Turns) all written = written ≡ all

-- A text was taken line by line up to here, and this was written.
pub record HasEnded (first : Node) (text written : List ℕ) (left : Option (List ℕ))
    (result : Result Unit PipeFault) : Type 0 where
  pub lines : List (List ℕ)
  pub more : List ℕ
  pub said : List Reply
  pub stage : ConnectionState
  pub cut : IsCut text lines more
  pub answered : IsAnswered first lines said stage
  pub ending : EndsAs result (length lines) (length text) more left stage
  pub out : GoesOut result (flat_map reply_line said) written

-- The text that was read; if the input has ended, its last line may lack the line feed, which is
-- then added.
abbrev pub IsTextOf : List ℕ → Option (List ℕ) → List ℕ → Type 0
IsTextOf read left text = (text ≡ read) ⊎ (IsAtEnd left × (text ≡ ended read))

-- From its reader and its writer as they were to what they are: what was read was taken line by
-- line, and what was written are the lines of the replies of a node that was this one at first.
pub record IsPipedTo (first : Node) (reader_old reader_new writer_old writer_new : Option (List ℕ))
    (result : Result Unit PipeFault) : Type 0 where
  pub read : List ℕ
  pub text : List ℕ
  pub written : List ℕ
  pub consumed : Consumes reader_old reader_new read
  pub appended : Appends writer_old writer_new written
  pub text_is : IsTextOf read reader_new text
  pub ended_so : HasEnded first text written reader_new result

-- The same of a server in memory that was never used.
abbrev pub IsPiped : Option (List ℕ) → Option (List ℕ) → Option (List ℕ) → Option (List ℕ)
    → Result Unit PipeFault → Type 0
IsPiped reader_old reader_new writer_old writer_new result =
    IsPipedTo unused reader_old reader_new writer_old writer_new result
