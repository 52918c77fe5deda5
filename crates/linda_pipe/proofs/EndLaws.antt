-- How an exchange ends, and what one read leads to.
use Rattle.std.proofs.Common.{◌≡◌, ℕ, ◌+◌, ◌<◌, ◌≤◌, Bool, true, false, List, [], ◌++◌, length, length-append, le_trans}
use Rattle.std.proofs.Common.{take, Option, Result, Ok, Err, refl, sym, ap, ◌∙◌, subst, append-nil, arith, inl, inr}
use Rattle.std.specs.List.{flat_map, concat}
use Rattle.std.specs.Global.{Vec}
use Rattle.std.specs.Io.KnownBytes.{Appends, Consumes, IsAtEnd, Keeps}
use Rattle.std.proofs.KnownBytes.{Appends-trans, Appends-nil, Consumes-trans, Consumes-nil, Consumes-kept}
use Rattle.std.proofs.Math.Seq.{take-append-add}
use Rattle.std.proofs.lemmas.List.{take-take, take_all, length-take}
use Rattle.std.proofs.lemmas.Bool.{cases_lt}
use Rattle.linda_pipe.specs.Lines.{ended, IsCut}
use Rattle.linda_pipe.specs.Piping.{reply_line, HasEnded, IsAnswered, IsPipedTo, GoesOut}
use Rattle.linda_pipe.specs.Exchanges.{IsUnderway, IsOver, LeadsTo, IsEnded, ReadsTo, IsPiping, TurnsTo}
use Rattle.linda_store.specs.declared.connection_state.ConnectionState.TheVariants as stages
use Rattle.linda_store.specs.Node.{Node}
use Rattle.linda_store.specs.Turn.{beginning}
use Rattle.linda_store.specs.Conversation.{IsConversation}
use Rattle.linda_store.specs.Session.{point_of}
use Rattle.linda_store.specs.declared.conversation.TheConstants.{MAX_READS}
use Rattle.linda_pipe.specs.declared.fault.PipeFault.{PipeFault}
use Rattle.linda_pipe.specs.declared.fault.PipeFault.TheVariants as faults
use Rattle.linda_pipe.specs.declared.exchange.Exchange.{Exchange}

-- ---- with what was read

module _ {first : Node} where
  -- it was over with the text that was read
  pub over_ended : (read written : List ℕ) (left : Option (List ℕ)) (result : Result Unit PipeFault) → IsOver first read written result
      → IsEnded first read written left result
  over_ended read written left result o = record {
    text = read;
    text_is = inl refl;
    ends = subst (λ t. HasEnded first t written left result) (append-nil read) (o [] left);
  }

  -- it was over with the last line, which lacks its line feed
  pub over_last : (read written : List ℕ) (left : Option (List ℕ)) (result : Result Unit PipeFault) → IsAtEnd left
      → IsOver first (ended read) written result → IsEnded first read written left result
  over_last read written left result end o = record {
    text = ended read;
    text_is = inr (end, refl);
    ends = subst (λ t. HasEnded first t written left result) (append-nil (ended read)) (o [] left);
  }

module _ {N : Type 0} {shown : N → Node} {first : Node} where
  -- the input has ended, and so has the last line
  whole_ends : (text sent : List ℕ) (left : Option (List ℕ)) (x : Exchange N) → IsAtEnd left → x.line.items ≡ [] → IsUnderway shown first text sent x
      → HasEnded first text (sent ++ x.replies.items) left (Ok tt)
  whole_ends text sent left x end empty u = record {
    lines = u.lines;
    more = [];
    said = u.said;
    stage = stages.Open;
    cut = subst (IsCut text u.lines) empty u.cut;
    answered = record {
      pieces = u.pieces;
      unread = x.session.unread;
      to = point_of x.session (shown x.node);
      decoded = u.decoded;
      talk = subst (λ s. IsConversation (beginning first) (concat u.pieces) u.said s x.session.unread (point_of x.session (shown x.node))) u.is_open.0 u.talk;
    };
    ending = (refl, end);
    out = sym u.out;
  }

  -- there was no last line
  pub none_left : (read sent : List ℕ) (left : Option (List ℕ)) (x : Exchange N) → IsAtEnd left → x.line.items ≡ [] → IsUnderway shown first read sent x
      → IsEnded first read (sent ++ x.replies.items) left (Ok tt)
  none_left read sent left x end empty u = record { text = read; text_is = inl refl; ends = whole_ends read sent left x end empty u }

module _ {N : Type 0} (shown : N → Node) (first : Node) where
  -- the last line was taken, and the conversation may go on or not
  pub last_taken : (read sent : List ℕ) (left : Option (List ℕ)) (x : Exchange N) (goes_on : Bool) → IsAtEnd left → x.line.items ≡ []
      → LeadsTo shown first (ended read) sent x (Ok goes_on) → IsEnded first read (sent ++ x.replies.items) left (Ok tt)
  last_taken read sent left x true end empty u = record { text = ended read; text_is = inr (end, refl); ends = whole_ends (ended read) sent left x end empty u }
  last_taken read sent left x false end empty o = over_last read (sent ++ x.replies.items) left (Ok tt) end o

  -- taking text, as taking what a read gave
  pub read_taken : (read sent : List ℕ) (left : Option (List ℕ)) (x : Exchange N) (result : Result Bool PipeFault) → LeadsTo shown first read sent x result
      → ReadsTo shown first read sent left x result
  read_taken read sent left x (Ok true) u = u
  read_taken read sent left x (Ok false) o = over_ended read (sent ++ x.replies.items) left (Ok tt) o
  read_taken read sent left x (Err fault) o = over_ended read (sent ++ x.replies.items) left (Err fault) o

-- ---- sending

-- a front of a front is a front
front_twice : (m n : ℕ) (l : List ℕ) → (k : ℕ) × (take m (take n l) ≡ take k l)
front_twice m n l =
    elim (cases_lt m n) [
      | inl h ↦ (m, take-take m n l (omega arith))
      | inr h ↦ (n, take_all m (take n l) (omega (arith, length-take n l)))
    ]

-- some of what was to go out has gone out
part_out : (result : Result Unit PipeFault) (all sent replies : List ℕ) (k : ℕ) → GoesOut result all (sent ++ replies)
    → GoesOut (Err faults.Write) all (sent ++ take k replies)
part_out (Ok done) all sent replies k e = (length sent + k, sym (take-append-add sent replies k) ∙ ap (take (length sent + k)) e)
part_out (Err (faults.NotHexadecimal n)) all sent replies k e = (length sent + k, sym (take-append-add sent replies k) ∙ ap (take (length sent + k)) e)
part_out (Err (faults.Memory n)) all sent replies k e = (length sent + k, sym (take-append-add sent replies k) ∙ ap (take (length sent + k)) e)
part_out (Err faults.Read) all sent replies k e = (length sent + k, sym (take-append-add sent replies k) ∙ ap (take (length sent + k)) e)
part_out (Err faults.Turns) all sent replies k e = (length sent + k, sym (take-append-add sent replies k) ∙ ap (take (length sent + k)) e)
part_out (Err faults.Write) all sent replies k e =
    let f = front_twice (length sent + k) e.0 all in
    (f.0, sym (take-append-add sent replies k) ∙ ap (take (length sent + k)) e.1 ∙ f.1)

module _ {first : Node} where
  part_sent : (text sent replies : List ℕ) (left : Option (List ℕ)) (result : Result Unit PipeFault) (k : ℕ) → HasEnded first text (sent ++ replies) left result
      → HasEnded first text (sent ++ take k replies) left (Err faults.Write)
  part_sent text sent replies left result k h = record {
    lines = h.lines;
    more = h.more;
    said = h.said;
    stage = h.stage;
    cut = h.cut;
    answered = h.answered;
    ending = tt;
    out = part_out result (flat_map reply_line h.said) sent replies k h.out;
  }

  -- with what was read
  ended_in_part : (read sent replies : List ℕ) (left : Option (List ℕ)) (result : Result Unit PipeFault) (k : ℕ)
      → IsEnded first read (sent ++ replies) left result
      → IsEnded first read (sent ++ take k replies) left (Err faults.Write)
  ended_in_part read sent replies left result k e = record { text = e.text; text_is = e.text_is; ends = part_sent e.text sent replies left result k e.ends }

module _ {N : Type 0} {shown : N → Node} {first : Node} where
  -- while it is under way, too
  underway_in_part : (text sent : List ℕ) (x : Exchange N) (left : Option (List ℕ)) (k : ℕ) → IsUnderway shown first text sent x
      → IsEnded first text (sent ++ take k x.replies.items) left (Err faults.Write)
  underway_in_part text sent x left k u = record {
    text = text;
    text_is = inl refl;
    ends = record {
      lines = u.lines;
      more = x.line.items;
      said = u.said;
      stage = x.session.stage;
      cut = u.cut;
      answered = record { pieces = u.pieces; unread = x.session.unread; to = point_of x.session (shown x.node); decoded = u.decoded; talk = u.talk };
      ending = tt;
      out = (length sent + k, sym (take-append-add sent x.replies.items k) ∙ ap (take (length sent + k)) (sym u.out));
    };
  }

  -- all reply lines were sent
  all_sent : (text sent : List ℕ) (x : Exchange N) (empty : Vec ℕ) → empty.items ≡ [] → IsUnderway shown first text sent x
      → IsUnderway shown first text (sent ++ x.replies.items) (record x { replies = empty })
  all_sent text sent x empty e u = record {
    lines = u.lines;
    pieces = u.pieces;
    said = u.said;
    cut = u.cut;
    unfinished = u.unfinished;
    counted = u.counted;
    decoded = u.decoded;
    talk = u.talk;
    is_open = u.is_open;
    out = u.out ∙ sym (append-nil (sent ++ x.replies.items)) ∙ ap (λ l. sent ++ x.replies.items ++ l) (sym e);
  }

  -- between reads nothing is in the buffer, so what has gone out is all
  fault_between : (text sent : List ℕ) (x : Exchange N) (left : Option (List ℕ)) → x.replies.items ≡ [] → IsUnderway shown first text sent x
      → HasEnded first text sent left (Err faults.Read) × (MAX_READS ≤ length text → HasEnded first text sent left (Err faults.Turns))
  fault_between text sent x left e u =
      let out : sent ≡ flat_map reply_line u.said = sym (u.out ∙ ap (λ l. sent ++ l) e ∙ append-nil sent) in
      let answered : IsAnswered first u.lines u.said x.session.stage =
      record { pieces = u.pieces; unread = x.session.unread; to = point_of x.session (shown x.node); decoded = u.decoded; talk = u.talk } in (
        record {
          lines = u.lines;
          more = x.line.items;
          said = u.said;
          stage = x.session.stage;
          cut =
              u.cut;
          answered = answered;
          ending = (u.unfinished, u.is_open.0);
          out = out;
        },
        λ many. record {
          lines = u.lines;
          more = x.line.items;
          said = u.said;
          stage = x.session.stage;
          cut = u.cut;
          answered = answered;
          ending = ((u.unfinished, u.is_open.0), many);
          out = out;
        },
      )

-- ---- one read

-- one read more
one_more : (reads : ℕ) (read chunk : List ℕ) → reads ≤ length read → 0 < length chunk → reads + 1 ≤ length (read ++ chunk)
one_more reads read chunk many some = omega (arith, length-append read chunk)

module _ {N : Type 0} {shown : N → Node} {first : Node} where
  -- the read failed
  pub read_failed : {reads : ℕ} (first_left old_left new_left first_written written : Option (List ℕ)) (x : Exchange N) → Keeps old_left new_left
      → IsPiping shown first reads first_left old_left first_written written x → IsPipedTo first first_left new_left first_written written (Err faults.Read)
  read_failed first_left old_left new_left first_written written x kept p = record {
    read = p.read;
    text = p.read;
    written = p.written;
    consumed = Consumes-kept _ _ _ _ p.consumed kept;
    appended = p.appended;
    text_is = inl refl;
    ended_so = (fault_between p.read p.written x new_left p.sent p.underway).0;
  }

  -- there were too many reads
  pub turns_spent : {reads : ℕ} (first_left left first_written written : Option (List ℕ)) (x : Exchange N)
      → MAX_READS ≤ reads → IsPiping shown first reads first_left left first_written written x
      → IsPipedTo first first_left left first_written written (Err faults.Turns)
  turns_spent first_left left first_written written x all p = record {
    read = p.read;
    text = p.read;
    written = p.written;
    consumed = p.consumed;
    appended = p.appended;
    text_is = inl refl;
    ended_so = (fault_between p.read p.written x left p.sent p.underway).1 (le_trans all p.many);
  }

  -- it has ended with what a read gave
  read_ended : {reads : ℕ} (first_left old_left left first_written old_written written : Option (List ℕ))
      (chunk sent : List ℕ) (old : Exchange N) (result : Result Unit PipeFault)
      → (p : IsPiping shown first reads first_left old_left first_written old_written old) → Consumes old_left left chunk → Appends old_written written sent
      → IsEnded first (p.read ++ chunk) (p.written ++ sent) left result → IsPipedTo first first_left left first_written written result
  read_ended first_left old_left left first_written old_written written chunk sent old result p c a e = record {
    read = p.read ++ chunk;
    text = e.text;
    written = p.written ++ sent;
    consumed = Consumes-trans _ _ _ _ _ p.consumed c;
    appended = Appends-trans _ _ _ _ _ p.appended a;
    text_is = e.text_is;
    ended_so = e.ends;
  }

  -- what was read was taken, and sending the replies failed
  pub send_failed : {reads : ℕ} (first_left old_left left first_written old_written written : Option (List ℕ)) (chunk : List ℕ) (old x : Exchange N)
      → (result : Result Bool PipeFault) (k : ℕ) (p : IsPiping shown first reads first_left old_left first_written old_written old)
      → Consumes old_left left chunk
      → ReadsTo shown first (p.read ++ chunk) p.written left x result → Appends old_written written (take k x.replies.items)
      → IsPipedTo first first_left left first_written written (Err faults.Write)
  send_failed first_left old_left left first_written old_written written chunk old x result k p c r a =
      read_ended first_left old_left left first_written old_written written chunk (take k x.replies.items) old (Err faults.Write) p c a (part result r)
    where
      part : (result : Result Bool PipeFault) → ReadsTo shown first (p.read ++ chunk) p.written left x result
          → IsEnded first (p.read ++ chunk) (p.written ++ take k x.replies.items) left (Err faults.Write)
      part (Ok true) r = underway_in_part (p.read ++ chunk) p.written x left k r
      part (Ok false) r = ended_in_part (p.read ++ chunk) p.written x.replies.items left (Ok tt) k r
      part (Err fault) r = ended_in_part (p.read ++ chunk) p.written x.replies.items left (Err fault) k r

  -- what was read was taken, and all replies were sent
  pub send_done : {reads : ℕ} (first_left old_left left first_written old_written written : Option (List ℕ))
      (chunk : List ℕ) (old x : Exchange N) (empty : Vec ℕ)
      → (result : Result Bool PipeFault) (p : IsPiping shown first reads first_left old_left first_written old_written old)
      → empty.items ≡ [] → Consumes old_left left chunk → (result ≡ Ok true → 0 < length chunk)
      → ReadsTo shown first (p.read ++ chunk) p.written left x result → Appends old_written written x.replies.items
      → TurnsTo shown first (reads + 1) first_left left first_written written (record x { replies = empty }) result
  send_done first_left old_left left first_written old_written written chunk old x empty (Ok true) p e c some r a = record {
    read = p.read ++ chunk;
    many = one_more _ p.read chunk p.many (some refl);
    written = p.written ++ x.replies.items;
    consumed = Consumes-trans _ _ _ _ _ p.consumed c;
    appended = Appends-trans _ _ _ _ _ p.appended a;
    underway = all_sent (p.read ++ chunk) p.written x empty e r;
    sent = e;
  }
  send_done first_left old_left left first_written old_written written chunk old x empty (Ok false) p e c some r a =
      read_ended first_left old_left left first_written old_written written chunk x.replies.items old (Ok tt) p c a r
  send_done first_left old_left left first_written old_written written chunk old x empty (Err fault) p e c some r a =
      read_ended first_left old_left left first_written old_written written chunk x.replies.items old (Err fault) p c a r

  -- before the first read
  pub none_read : (left written : Option (List ℕ)) (x : Exchange N) → x.replies.items ≡ []
      → IsUnderway shown first [] [] x → IsPiping shown first 0 left left written written x
  none_read left written x empty u = record {
    read = [];
    written = [];
    many = omega arith;
    consumed = Consumes-nil left;
    appended = Appends-nil written;
    underway = u;
    sent = empty;
  }
