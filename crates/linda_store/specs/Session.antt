-- Session as contracts see it, and what it did with a piece of a stream.
use Rattle.std.specs.Prelude.{◌≡◌, ℕ, Bool, true, false, List, [], ◌++◌, Option, None, Result, Ok}
use Rattle.std.specs.Prelude.{Err}
use Rattle.linda_store.specs.declared.connection_state.ConnectionState.{ConnectionState}
use Rattle.linda_store.specs.declared.connection_state.ConnectionState.TheVariants as stages
use Rattle.linda_store.specs.declared.connection_state.Taken.{Taken}
use Rattle.linda_store.specs.Node.{Node}
use Rattle.linda_store.specs.Turn.{Point, point_at}
use Rattle.linda_store.specs.Conversation.{is_up, stays_open, IsConversation, IsGivenUp}

-- What contracts see of a session: the client that was greeted, the bytes that make no whole frame
-- yet, the state of the connection, and whether memory ran out in it.
pub record Session : Type 0 where
  pub greeted : Option ℕ
  pub unread : List ℕ
  pub stage : ConnectionState
  pub is_spent : Bool

-- a session that began
abbrev pub beginner : Session
beginner = record { greeted = None; unread = []; stage = stages.Open; is_spent = false }

-- the point of the conversation of a session with a node
abbrev pub point_of : Session → Node → Point
point_of talker node = point_at node talker.greeted (is_up talker.stage)

-- A session took a piece and answered it.
pub record HasTaken (old : Session) (was : Node) (piece : List ℕ) (taken : Taken) (new : Session)
    (now : Node) : Type 0 where
  pub talk :
      IsConversation (point_of old was) (old.unread ++ piece)
      taken.replies.items new.stage new.unread
      (point_of new now)
  pub goes_on : taken.goes_on ≡ stays_open new.stage
  pub not_spent : new.is_spent ≡ false

-- Memory ran out while a session took a piece: some of its messages were taken, and nothing is said
-- of them.
pub record HasGivenUp (old : Session) (was : Node) (piece : List ℕ) (new : Session) (now : Node)
    : Type 0 where
  pub talk : IsGivenUp (point_of old was) (old.unread ++ piece) now new.greeted
  pub spent : new.is_spent ≡ true

-- What a session that had not ended answered to a piece.
abbrev pub AnswersPiece : {E : Type 0} → Session → Node → List ℕ → Result Taken E → Session → Node
    → Type 0
AnswersPiece old was piece (Ok taken) new now = HasTaken old was piece taken new now
AnswersPiece old was piece (Err fault) new now = HasGivenUp old was piece new now

-- A session that had ended takes nothing and says nothing.
pub record StaysSilent (old : Session) (was : Node) (taken : Taken) (new : Session) (now : Node)
    : Type 0 where
  pub no_replies : taken.replies.items ≡ []
  pub ended : taken.goes_on ≡ false
  pub same : new ≡ old
  pub node_same : now ≡ was
