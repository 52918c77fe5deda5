-- The loop of a conversation: what holds before each read, and what follows when it ends.
use Rattle.std.proofs.Common.{◌≡◌, ℕ, ◌+◌, ◌<◌, ◌≤◌, arith, Bool, true, false, List, [], ◌++◌, length, take, refl, sym, ap, subst}
use Rattle.std.specs.Prelude.{Option, Ok, Err}
use Rattle.std.specs.Io.KnownBytes.{Keeps, Consumes, Appends}
use Rattle.std.proofs.lemmas.List.{length-append, length-take-le}
use Rattle.linda_store.specs.declared.connection_state.ConnectionState.{ConnectionState}
use Rattle.linda_store.specs.declared.connection_state.ConnectionState.TheVariants as stages
use Rattle.linda_store.specs.declared.end.End.TheVariants as ends
use Rattle.linda_store.specs.declared.end.ConverseFault.{ConverseFault}
use Rattle.linda_store.specs.declared.end.ConverseFault.TheVariants as faults
use Rattle.linda_store.specs.Node.{Node}
use Rattle.linda_store.specs.Turn.{point_at, beginning}
use Rattle.linda_store.specs.Conversation.{is_up}
use Rattle.linda_store.specs.Session.{Session, beginner, point_of}
use Rattle.linda_store.specs.Converse.{IsWritten, HasReplied, HasEndedAt}
use Rattle.std.proofs.KnownBytes.{Appends-nil, Appends-trans, Consumes-nil, Consumes-trans, Consumes-kept}
use Rattle.linda_store.proofs.WrittenLaws.{nothing_written, written_then, part_then, broken_then}

-- All that came is answered and written, and the session is open; each read gave a byte at least.
pub record IsTalking (node : Node) (input left output now : Option (List ℕ)) (talker : Session) (new : Node) (reads : ℕ) : Type 0 where
  pub read : List ℕ
  pub written : List ℕ
  pub consumed : Consumes input left read
  pub appended : Appends output now written
  pub done : IsWritten (beginning node) read written stages.Open talker.unread (point_at new talker.greeted true)
  pub is_open : talker.stage ≡ stages.Open
  pub not_spent : talker.is_spent ≡ false
  pub many : reads ≤ length read

pub talking_begins : (node : Node) (input output : Option (List ℕ)) (talker : Session) → talker ≡ beginner
    → IsTalking node input input output output talker node 0
talking_begins node input output talker begins =
    subst (λ (talker : Session). IsTalking node input input output output talker node 0) (sym begins) (record {
      read = [];
      written = [];
      consumed = Consumes-nil input;
      appended = Appends-nil output;
      done = nothing_written (beginning node) refl;
      is_open = refl;
      not_spent = refl;
      many = omega arith;
    })

-- the reader failed
pub read_failed : (reads : ℕ) (node : Node) (input left after output now : Option (List ℕ)) (talker : Session) (new : Node)
    → IsTalking node input left output now talker new reads → Keeps left after
    → HasEndedAt node input after output now (Err faults.Read) new talker.greeted
read_failed reads node input left after output now talker new talking kept = (
  true,
  record {
    read = talking.read;
    written = talking.written;
    consumed = Consumes-kept input left after talking.read talking.consumed kept;
    appended = talking.appended;
    ends = (talker.unread, talking.done);
  },
)

-- the point of an open session before a piece
open_point : (talker : Session) (new : Node) → talker.stage ≡ stages.Open → point_of talker new ≡ point_at new talker.greeted true
open_point talker new opens = ap (λ stage. point_at new talker.greeted (is_up stage)) opens

-- a piece was answered, and this is the state of the connection
pub piece_answered : (reads : ℕ) (node : Node) (input left after output now later : Option (List ℕ))
    (talker : Session) (was : Node) (piece : List ℕ) (stage : ConnectionState) (next : Session) (new : Node)
    → IsTalking node input left output now talker was reads → Consumes left after piece
    → HasReplied talker was piece now later (Ok stage) next new
    → (read : List ℕ) × ((written : List ℕ) × ((is_open : Bool) × (Consumes input after read × (Appends output later written
    × IsWritten (beginning node) read written stage next.unread (point_at new next.greeted is_open)))))
piece_answered reads node input left after output now later talker was piece stage next new talking consumed replied = (
  talking.read ++ piece,
  (
    talking.written ++ replied.written,
    (
      replied.is_open,
      (
        Consumes-trans input left after talking.read piece talking.consumed consumed,
        (
          Appends-trans output now later talking.written replied.written talking.appended replied.appended,
          written_then (beginning node) (point_at was talker.greeted true) (point_at new next.greeted replied.is_open)
              talking.read piece talker.unread next.unread talking.written replied.written stage talking.done
              (rw (open_point talker was talking.is_open) at replied.answers),
        ),
      ),
    ),
  ),
)

-- the conversation goes on
pub goes_on : (reads : ℕ) (node : Node) (input left after output now later : Option (List ℕ))
    (talker : Session) (was : Node) (piece : List ℕ) (next : Session) (new : Node)
    → IsTalking node input left output now talker was reads → Consumes left after piece
    → HasReplied talker was piece now later (Ok stages.Open) next new
    → 0 < length piece → IsTalking node input after output later next new (reads + 1)
unfolding piece_answered
goes_on reads node input left after output now later talker was piece next new talking consumed replied some =
    let all = piece_answered reads node input left after output now later talker was piece stages.Open next new talking consumed replied in
    record {
      read = all.0;
      written = all.1.0;
      consumed = all.1.1.1.0;
      appended = all.1.1.1.1.0;
      done = subst (λ (is_open : Bool). IsWritten (beginning node) all.0 all.1.0 stages.Open next.unread
          (point_at new next.greeted is_open)) all.1.1.1.1.1.talk.up all.1.1.1.1.1;
      is_open = replied.stage;
      not_spent = replied.not_spent;
      many = let longer : reads + 1 ≤ length (talking.read ++ piece) = omega (arith, talking.many, length-append talking.read piece) in longer;
    }

-- a malformed frame ended it
pub frame_ended : (reads : ℕ) (node : Node) (input left after output now later : Option (List ℕ))
    (talker : Session) (was : Node) (piece : List ℕ) (detail : ℕ) (next : Session) (new : Node)
    → IsTalking node input left output now talker was reads → Consumes left after piece
    → HasReplied talker was piece now later (Ok (stages.Malformed detail)) next new
    → HasEndedAt node input after output later (Ok (ends.Malformed detail)) new next.greeted
frame_ended reads node input left after output now later talker was piece detail next new talking consumed replied =
    let all = piece_answered reads node input left after output now later talker was piece (stages.Malformed detail) next new talking consumed replied in
    (all.1.1.0, record { read = all.0; written = all.1.0; consumed = all.1.1.1.0; appended = all.1.1.1.1.0; ends = (next.unread, all.1.1.1.1.1) })

-- the node went down
pub down_ended : (reads : ℕ) (node : Node) (input left after output now later : Option (List ℕ))
    (talker : Session) (was : Node) (piece : List ℕ) (next : Session) (new : Node)
    → IsTalking node input left output now talker was reads → Consumes left after piece
    → HasReplied talker was piece now later (Ok stages.Down) next new
    → HasEndedAt node input after output later (Err faults.Down) new next.greeted
down_ended reads node input left after output now later talker was piece next new talking consumed replied =
    let all = piece_answered reads node input left after output now later talker was piece stages.Down next new talking consumed replied in
    (all.1.1.0, record { read = all.0; written = all.1.0; consumed = all.1.1.1.0; appended = all.1.1.1.1.0; ends = (next.unread, all.1.1.1.1.1) })

-- the writer failed, or memory ran out
pub piece_failed : (reads : ℕ) (node : Node) (input left after output now later : Option (List ℕ))
    (talker : Session) (was : Node) (piece : List ℕ) (fault : ConverseFault) (next : Session) (new : Node)
    → IsTalking node input left output now talker was reads → Consumes left after piece
    → HasReplied talker was piece now later (Err fault) next new
    → HasEndedAt node input after output later (Err fault) new next.greeted
piece_failed reads node input left after output now later talker was piece faults.Write next new talking consumed replied = (
  replied.is_open,
  record {
    read = talking.read ++ piece;
    written = talking.written ++ replied.written;
    consumed = Consumes-trans input left after talking.read piece talking.consumed consumed;
    appended = Appends-trans output now later talking.written replied.written talking.appended replied.appended;
    ends = part_then (beginning node) (point_at was talker.greeted true)
        (point_at new next.greeted replied.is_open) talking.read piece talker.unread talking.written replied.written talking.done
        (rw (open_point talker was talking.is_open) at replied.answers);
  },
)
piece_failed reads node input left after output now later talker was piece faults.Memory next new talking consumed replied = (
  replied.is_open,
  record {
    read = talking.read ++ piece;
    written = talking.written ++ replied.written;
    consumed = Consumes-trans input left after talking.read piece talking.consumed consumed;
    appended = Appends-trans output now later talking.written replied.written talking.appended replied.appended;
    ends = broken_then (beginning node) (point_at was talker.greeted true)
        (point_at new next.greeted replied.is_open) talking.read piece talker.unread talking.written replied.written talking.done
        (rw (open_point talker was talking.is_open) at replied.answers);
  },
)
piece_failed reads node input left after output now later talker was piece faults.Read next new talking consumed replied = absurd replied.answers
piece_failed reads node input left after output now later talker was piece faults.Turns next new talking consumed replied = absurd replied.answers
piece_failed reads node input left after output now later talker was piece faults.Down next new talking consumed replied = absurd replied.answers

-- a piece that is not empty has bytes
pub piece_some : (len : ℕ) (bytes : List ℕ) → len ≤ length bytes → (len ≡ 0 → ⊥) → 0 < length (take len bytes)
piece_some len bytes within some = rw (length-take-le len bytes within) (omega (arith, some))
