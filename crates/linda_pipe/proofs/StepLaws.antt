-- What the steps of an exchange lead to, over plain texts.
use Rattle.std.proofs.Common.{◌≡◌, ◌≢◌, ℕ, ◌+◌, Bool, true, false, List, [], ◌∷◌, ◌++◌, map, length, Some, None, Result}
use Rattle.std.proofs.Common.{Ok, Err, refl, sym, ap, ◌∙◌, subst, append_assoc, append-nil, length-append}
use Rattle.std.specs.List.{flat_map, concat}
use Rattle.std.specs.Global.{Vec}
use Rattle.std.proofs.lemmas.Grind.{flat_map-append}
use Rattle.std.proofs.lemmas.List.{map-append}
use Rattle.std.proofs.lemmas.List.Folds.{concat-append}
use Rattle.std.proofs.lemmas.List.Elements.{All-append, All-nil, All-push}
use Rattle.linda_pipe.specs.Lines.{HasNoFeed, ended, IsCut}
use Rattle.linda_pipe.specs.Hex.{piece_of}
use Rattle.linda_pipe.specs.Piping.{reply_line, HasEnded}
use Rattle.linda_pipe.specs.Exchanges.{HasTalked, IsOpen, GoesOn, Continues, IsContinued, IsAtLine, IsUnderway, IsOver, LeadsTo}
use Rattle.linda_wire.specs.declared.reply.Reply.{Reply}
use Rattle.linda_store.specs.declared.connection_state.ConnectionState.TheVariants as stages
use Rattle.linda_store.specs.Node.{Node}
use Rattle.linda_store.specs.Turn.{beginning}
use Rattle.linda_store.specs.Conversation.{IsConversation}
use Rattle.linda_store.specs.Session.{Session, HasTaken, beginner, point_of}
use Rattle.linda_store.specs.declared.connection_state.Taken.{Taken}
use Rattle.linda_store.proofs.ConversationLaws.{conversation_begins, conversation_goes_on}
use Rattle.linda_pipe.specs.declared.fault.PipeFault.{PipeFault}
use Rattle.linda_pipe.specs.declared.fault.PipeFault.TheVariants as faults
use Rattle.linda_pipe.specs.declared.exchange.Exchange.{Exchange}
use Rattle.linda_pipe.specs.declared.line.TheConstants.{LINE_FEED}

-- more text after the lines
pub cut_more : (text more later : List ℕ) (lines : List (List ℕ)) → IsCut text lines more → IsCut (text ++ later) lines (more ++ later)
cut_more text more later lines c = record {
  spelled = ap (λ t. t ++ later) c.spelled ∙ append_assoc (flat_map ended lines) more later;
  whole = c.whole;
}

-- the same, after a line feed
cut_ended : (text line later : List ℕ) (lines : List (List ℕ)) → IsCut text lines line → IsCut (ended text ++ later) lines (ended line ++ later)
cut_ended text line later lines c =
    subst (λ t. IsCut t lines (ended line ++ later)) (sym (append_assoc text (LINE_FEED ∷ []) later))
    (subst (IsCut (text ++ ((LINE_FEED ∷ []) ++ later)) lines) (sym (append_assoc line (LINE_FEED ∷ []) later))
    (cut_more text line ((LINE_FEED ∷ []) ++ later) lines c))

-- the unfinished line becomes a whole one
pub cut_line : (text line : List ℕ) (lines : List (List ℕ)) → IsCut text lines line → HasNoFeed line → IsCut (ended text) (lines ++ line ∷ []) []
cut_line text line lines c h = record {
  spelled =
      ap ended c.spelled ∙ append_assoc (flat_map ended lines) line (LINE_FEED ∷ [])
      ∙ ap (λ t. flat_map ended lines ++ t) (sym (append-nil (ended line)))
      ∙ sym (flat_map-append ended lines (line ∷ []))
      ∙ sym (append-nil (flat_map ended (lines ++ line ∷ [])));
  whole = All-push HasNoFeed lines line c.whole h;
}

decoded_more : (lines pieces : List (List ℕ)) (line piece : List ℕ) → map piece_of lines ≡ map Some pieces → piece_of line ≡ Some piece
    → map piece_of (lines ++ line ∷ []) ≡ map Some (pieces ++ piece ∷ [])
decoded_more lines pieces line piece all one =
    map-append piece_of lines (line ∷ []) ∙ ap (λ l. l ++ piece_of line ∷ []) all ∙ ap (λ p. map Some pieces ++ p ∷ []) one
    ∙ sym (map-append Some pieces (piece ∷ []))

concat_more : (pieces : List (List ℕ)) (piece : List ℕ) → concat pieces ++ piece ≡ concat (pieces ++ piece ∷ [])
concat_more pieces piece = ap (λ l. concat pieces ++ l) (sym (append-nil piece)) ∙ sym (concat-append pieces (piece ∷ []))

said_more : (said later : List Reply) (sent old new : List ℕ) → flat_map reply_line said ≡ sent ++ old → new ≡ old ++ flat_map reply_line later
    → flat_map reply_line (said ++ later) ≡ sent ++ new
said_more said later sent old new one two =
    flat_map-append reply_line said later ∙ ap (λ l. l ++ flat_map reply_line later) one ∙ append_assoc sent old (flat_map reply_line later)
    ∙ ap (λ l. sent ++ l) (sym two)

-- a line was found after the front of a text
pub line_found : (front part later rest text : List ℕ) → text ≡ front ++ rest → rest ≡ part ++ LINE_FEED ∷ later → text ≡ (front ++ ended part) ++ later
line_found front part later rest text e f =
    e ∙ ap (λ t. front ++ t) (f ∙ sym (append_assoc part (LINE_FEED ∷ []) later)) ∙ sym (append_assoc front (ended part) later)

pub read_line : (read front part : List ℕ) → ended ((read ++ front) ++ part) ≡ read ++ (front ++ ended part)
read_line read front part =
    append_assoc (read ++ front) part (LINE_FEED ∷ []) ∙ append_assoc read front (ended part)

-- ---- when it is over

module _ {first : Node} where
  -- more text after the place at which it ended
  pub over_more : (text more written : List ℕ) (result : Result Unit PipeFault) → IsOver first text written result → IsOver first (text ++ more) written result
  over_more text more written result o =
      λ later left. subst (λ t. HasEnded first t written left result) (sym (append_assoc text more later)) (o (more ++ later) left)

  -- it was over after a line of the text
  pub over_line : (read front part later rest text written : List ℕ) (result : Result Unit PipeFault) → text ≡ front ++ rest → rest ≡ part ++ LINE_FEED ∷ later
      → IsOver first (ended ((read ++ front) ++ part)) written result → IsOver first (read ++ text) written result
  over_line read front part later rest text written result e f o =
      subst (λ t. IsOver first t written result)
      (ap (λ t. t ++ later) (read_line read front part) ∙ append_assoc read (front ++ ended part) later
      ∙ ap (λ t. read ++ t) (sym (line_found front part later rest text e f)))
      (over_more (ended ((read ++ front) ++ part)) later written result o)

  -- it was over in the rest of the text
  pub over_all : (read front rest text written : List ℕ) (result : Result Unit PipeFault)
      → text ≡ front ++ rest → IsOver first ((read ++ front) ++ rest) written result
      → IsOver first (read ++ text) written result
  over_all read front rest text written result e o =
      subst (λ t. IsOver first t written result) (append_assoc read front rest ∙ ap (λ t. read ++ t) (sym e)) o

-- ---- an exchange at a line

module _ {N : Type 0} {shown : N → Node} {first : Node} where
  -- a text moves to the unfinished line
  pub grown : (read sent line front : List ℕ) (x : Exchange N) → HasNoFeed front → IsAtLine shown first read sent line x
      → IsAtLine shown first (read ++ front) sent (line ++ front) x
  grown read sent line front x h u = record {
    lines = u.lines;
    pieces = u.pieces;
    said = u.said;
    cut = cut_more read line front u.lines u.cut;
    unfinished = All-append (λ b. b ≢ LINE_FEED) line front u.unfinished h;
    counted = u.counted;
    decoded = u.decoded;
    talk = u.talk;
    is_open = u.is_open;
    out = u.out;
  }

  -- the exchange keeps another line
  pub kept : (text sent line : List ℕ) (x : Exchange N) (other : Vec ℕ) → IsAtLine shown first text sent line x
      → IsAtLine shown first text sent line (record x { line = other })
  kept text sent line x other u = record {
    lines = u.lines;
    pieces = u.pieces;
    said = u.said;
    cut = u.cut;
    unfinished = u.unfinished;
    counted = u.counted;
    decoded = u.decoded;
    talk = u.talk;
    is_open = u.is_open;
    out = u.out;
  }

  -- a text moves to the unfinished line, which the exchange keeps
  pub grown_kept : (read sent front : List ℕ) (x : Exchange N) (longer : Vec ℕ) → HasNoFeed front → longer.items ≡ x.line.items ++ front
      → IsUnderway shown first read sent x → IsUnderway shown first (read ++ front) sent (record x { line = longer })
  grown_kept read sent front x longer h e u =
      subst (λ l. IsAtLine shown first (read ++ front) sent l (record x { line = longer })) (sym e)
      (kept (read ++ front) sent (x.line.items ++ front) x longer (grown read sent x.line.items front x h u))

  -- a text begins the line, and ends it
  pub grown_alone : (read sent front : List ℕ) (x : Exchange N) → HasNoFeed front → x.line.items ≡ [] → IsUnderway shown first read sent x
      → IsAtLine shown first (read ++ front) sent front x
  grown_alone read sent front x h e u =
      subst (λ l. IsAtLine shown first (read ++ front) sent (l ++ front) x) e (grown read sent x.line.items front x h u)

  -- nothing more is taken of a text, since memory ran out
  pub memory_ends : (text sent line : List ℕ) (x : Exchange N) → IsAtLine shown first text sent line x
      → IsOver first text (sent ++ x.replies.items) (Err (faults.Memory (x.lines + 1)))
  memory_ends text sent line x u = λ later left. record {
    lines = u.lines;
    more = line ++ later;
    said = u.said;
    stage = x.session.stage;
    cut = cut_more text line later u.lines u.cut;
    answered = record { pieces = u.pieces; unread = x.session.unread; to = point_of x.session (shown x.node); decoded = u.decoded; talk = u.talk };
    ending = (ap (λ k. k + 1) u.counted, u.is_open.0);
    out = sym u.out;
  }

  -- the same, if more of the text was there
  pub memory_ends_before : (text sent line more : List ℕ) (x : Exchange N) → IsAtLine shown first text sent line x
      → IsOver first (text ++ more) (sent ++ x.replies.items) (Err (faults.Memory (x.lines + 1)))
  memory_ends_before text sent line more x u =
      over_more text more (sent ++ x.replies.items) (Err (faults.Memory (x.lines + 1))) (memory_ends text sent line x u)

  -- the line is whole, and is not hexadecimal
  pub bad_ends : (text sent line : List ℕ) (x : Exchange N) → piece_of line ≡ None → IsAtLine shown first text sent line x
      → IsOver first (ended text) (sent ++ x.replies.items) (Err (faults.NotHexadecimal (x.lines + 1)))
  bad_ends text sent line x bad u = λ later left. record {
    lines = u.lines;
    more = ended line ++ later;
    said = u.said;
    stage = x.session.stage;
    cut = cut_ended text line later u.lines u.cut;
    answered = record { pieces = u.pieces; unread = x.session.unread; to = point_of x.session (shown x.node); decoded = u.decoded; talk = u.talk };
    ending = (
      ap (λ k. k + 1) u.counted,
      record { line = line; later = later; spelled = refl; whole = u.unfinished; bad = bad },
      u.is_open.0,
    );
    out = sym u.out;
  }

module _ {N : Type 0} (shown : N → Node) (first : Node) where
  -- one more line was answered
  record IsMore (text sent line piece : List ℕ) (lines pieces : List (List ℕ)) (said : List Reply) (new : Exchange N) : Type 0 where
    pub cut : IsCut (ended text) (lines ++ line ∷ []) []
    pub counted : new.lines ≡ length (lines ++ line ∷ [])
    pub decoded : map piece_of (lines ++ line ∷ []) ≡ map Some (pieces ++ piece ∷ [])
    pub talk : HasTalked shown first (concat (pieces ++ piece ∷ [])) said new
    pub out : flat_map reply_line said ≡ sent ++ new.replies.items

  more_of : (text sent line piece : List ℕ) (old new : Exchange N) (goes_on : Bool) (u : IsAtLine shown first text sent line old) → piece_of line ≡ Some piece
      → new.lines ≡ old.lines + 1 → (m : IsContinued shown first (concat u.pieces ++ piece) u.said goes_on old new)
      → IsMore text sent line piece u.lines u.pieces (u.said ++ m.later) new
  more_of text sent line piece old new goes_on u e counted m = record {
    cut = cut_line text line u.lines u.cut u.unfinished;
    counted = counted ∙ ap (λ k. k + 1) u.counted ∙ sym (length-append u.lines (line ∷ []));
    decoded = decoded_more u.lines u.pieces line piece u.decoded e;
    talk = subst (λ b. HasTalked shown first b (u.said ++ m.later) new) (concat_more u.pieces piece) m.talk;
    out = said_more u.said m.later sent old.replies.items new.replies.items u.out m.out;
  }

module _ {N : Type 0} {shown : N → Node} {first : Node} where
  -- a line was answered: it is under way still, or it is over
  pub line_taken : (text sent line piece : List ℕ) (old new : Exchange N) (goes_on : Bool) → piece_of line ≡ Some piece → new.lines ≡ old.lines + 1
      → new.line.items ≡ [] → Continues shown piece goes_on old new → IsAtLine shown first text sent line old
      → LeadsTo shown first (ended text) sent new (Ok goes_on)
  line_taken text sent line piece old new true e counted empty goes u =
      let m = goes first (concat u.pieces) u.said u.is_open u.talk in
      let more = more_of shown first text sent line piece old new true u e counted m in
      record {
        lines = u.lines ++ line ∷ [];
        pieces = u.pieces ++ piece ∷ [];
        said = u.said ++ m.later;
        cut = subst (IsCut (ended text) (u.lines ++ line ∷ [])) (sym empty) more.cut;
        unfinished = subst HasNoFeed (sym empty) (All-nil (λ b. b ≢ LINE_FEED));
        counted = more.counted;
        decoded = more.decoded;
        talk = more.talk;
        is_open = m.goes;
        out = more.out;
      }
  line_taken text sent line piece old new false e counted empty goes u =
      let m = goes first (concat u.pieces) u.said u.is_open u.talk in
      let more = more_of shown first text sent line piece old new false u e counted m in
      λ later left. record {
        lines = u.lines ++ line ∷ [];
        more = later;
        said = u.said ++ m.later;
        stage = stages.Malformed m.goes.0;
        cut = cut_more (ended text) [] later (u.lines ++ line ∷ []) more.cut;
        answered = record {
          pieces = u.pieces ++ piece ∷ [];
          unread = new.session.unread;
          to = point_of new.session (shown new.node);
          decoded = more.decoded;
          talk = subst (λ s. IsConversation (beginning first) (concat (u.pieces ++ piece ∷ []))
              (u.said ++ m.later) s new.session.unread (point_of new.session (shown new.node))) m.goes.1 more.talk;
        };
        ending = tt;
        out = sym more.out;
      }

-- ---- a connection begins

module _ {N : Type 0} {shown : N → Node} where
  -- nothing was read, and nothing is there
  pub begun : (node : N) (session : Session) (line replies : Vec ℕ) → session ≡ beginner → line.items ≡ [] → replies.items ≡ []
      → IsUnderway shown (shown node) [] [] (record { node = node; session = session; line = line; lines = 0; replies = replies })
  begun node session line replies begins no_line no_replies = record {
    lines = [];
    pieces = [];
    said = [];
    cut = record { spelled = sym no_line; whole = All-nil HasNoFeed };
    unfinished = subst HasNoFeed (sym no_line) (All-nil (λ b. b ≢ LINE_FEED));
    counted = refl;
    decoded = refl;
    talk =
        subst (λ (s : Session). IsConversation (beginning (shown node)) [] [] s.stage s.unread (point_of s (shown node))) (sym begins)
        (conversation_begins (beginning (shown node)) refl);
    is_open = subst IsOpen (sym begins) (refl, refl);
    out = sym no_replies;
  }

  -- ---- a piece

  -- the count of lines plays no part in a conversation
  pub continued_with : (piece : List ℕ) (goes_on : Bool) (old new : Exchange N) (lines : ℕ) → Continues shown piece goes_on old new
      → Continues shown piece goes_on old (record new { lines = lines })
  continued_with piece goes_on old new lines h = λ first bytes said o t.
      let m = h first bytes said o t in
      record { later = m.later; talk = m.talk; out = m.out; goes = m.goes }

  -- a session took a piece, and the lines of its replies went to the buffer
  pub piece_taken : (piece : List ℕ) (goes_on : Bool) (old new : Exchange N) (taken : Taken)
      → (old.session.is_spent ≡ false → old.session.stage ≡ stages.Open → HasTaken old.session (shown old.node) piece taken new.session (shown new.node))
      → new.replies.items ≡ old.replies.items ++ flat_map reply_line taken.replies.items → (new.session.is_spent ≡ false → GoesOn goes_on new.session)
      → Continues shown piece goes_on old new
  piece_taken piece goes_on old new taken take out goes = λ first bytes said o talk.
      let taken_is = take o.1 o.0 in
      record {
        later = taken.replies.items;
        talk =
            conversation_goes_on (beginning first) (point_of old.session (shown old.node))
            (point_of new.session (shown new.node)) bytes piece old.session.unread new.session.unread said
            taken.replies.items new.session.stage
            (subst (λ s. IsConversation (beginning first) bytes said s old.session.unread (point_of old.session (shown old.node))) o.0 talk) taken_is.talk;
        out = out;
        goes = goes taken_is.not_spent;
      }

pub open_goes : (goes_on : Bool) (session : Session) → goes_on ≡ true → session.stage ≡ stages.Open → session.is_spent ≡ false → GoesOn goes_on session
open_goes goes_on session e open_is not_spent = subst (λ g. GoesOn g session) (sym e) (open_is, not_spent)

pub malformed_ends : (goes_on : Bool) (session : Session) (detail : ℕ) → goes_on ≡ false → session.stage ≡ stages.Malformed detail → GoesOn goes_on session
malformed_ends goes_on session detail e stage_is = subst (λ g. GoesOn g session) (sym e) (detail, stage_is)
