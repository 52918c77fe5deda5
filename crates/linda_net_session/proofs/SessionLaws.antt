-- What a session's calls keep.
use Rattle.std.proofs.Common.{◌≡◌, ℕ, ◌+◌, ◌≤◌, arith, Bool, false, List, [], ◌∷◌, ◌++◌, length, take, drop, map}
use Rattle.std.proofs.Common.{Option, Some, None, refl, sym, ap, subst, ◌∙◌, append_assoc}
use Rattle.std.specs.List.{flat_map}
use Rattle.std.proofs.lemmas.List.{append-nil, map-append, take-append-drop, drop_at}
use Rattle.std.proofs.lemmas.List.Elements.{All-nil, All-cons, All-append}
use Rattle.std.proofs.lemmas.Grind.{flat_map-append}
use Rattle.linda_wire.specs.declared.message.Message.{Message}
use Rattle.linda_wire.specs.declared.refusal.Refusal.{Refusal}
use Rattle.linda_wire.specs.declared.reply.Reply.{Reply}
use Rattle.linda_wire.specs.Frames.{message_frame, reply_frame, FitsMessage}
use Rattle.linda_wire.specs.Stream.{payload_len, Partial, Whole, message_front}
use Rattle.linda_net_session.specs.declared.end.SessionEnd.{SessionEnd}
use Rattle.linda_net_session.specs.declared.end.SessionEnd.TheVariants as ends
use Rattle.linda_net_session.specs.declared.phase.TheConstants.{MOST_ASKED}
use Rattle.linda_net_session.specs.declared.phase.Phase.{Phase}
use Rattle.linda_net_session.specs.declared.phase.Phase.TheVariants as phases
use Rattle.linda_net_session.specs.declared.phase.Way.{Way}
use Rattle.linda_net_session.specs.declared.phase.Way.TheVariants as ways
use Rattle.linda_net_session.specs.declared.route.MessageKind.{MessageKind}
use Rattle.linda_net_session.specs.declared.route.MessageKind.TheVariants as kinds
use Rattle.linda_net_session.specs.declared.route.OpenWays.{OpenWays}
use Rattle.linda_net_session.specs.declared.route.Route.{Route}
use Rattle.linda_net_session.specs.Place.{on_way, answered, place, place_ask, place_deed}
use Rattle.linda_net_session.specs.Session.{Session, messages, is_closed, ended_by, shut_by, rested, begun, ended, shut}
use Rattle.linda_net_session.specs.Session.{at_rest, in_phase, took, said, broken, wrote, session_of, unread_of}
use Rattle.linda_net_session.specs.Lawful.{IsPrefixOf, HasSaid, HasLast, IsLawful}

-- ---- the beginning

nothing_whole : message_front [] ≡ Partial
unfolding payload_len
nothing_whole = refl

pub begun_lawful : IsLawful begun
begun_lawful = record {
  read = record { fit = All-nil FitsMessage; spelled = refl };
  said = refl;
  last = tt;
  few = omega arith;
  rest = λ _. nothing_whole;
}

-- ---- another end, another phase

said_ended : (word : Option Refusal) (e : SessionEnd) (told : List Reply) (sent pending : List ℕ)
    → HasSaid e told sent pending → HasSaid (ended_by word e) told sent pending
said_ended word ends.Never told sent pending h = h
said_ended word ends.Shut told sent pending h = h
said_ended word (ends.Ending None) told sent pending h = h
said_ended word (ends.Ending (Some other)) told sent pending h = h
said_ended word (ends.Told other) told sent pending h = h
said_ended word ends.Broken told sent pending h = h

last_ended : (word : Option Refusal) (e : SessionEnd) (told : List Reply) → HasLast e told → HasLast (ended_by word e) told
last_ended word ends.Never told h = tt
last_ended word ends.Shut told h = tt
last_ended word (ends.Ending None) told h = tt
last_ended word (ends.Ending (Some other)) told h = tt
last_ended word (ends.Told other) told h = h
last_ended word ends.Broken told h = tt

pub ended_lawful : (word : Option Refusal) (s : Session) → IsLawful s → IsLawful (ended word s)
ended_lawful word s l = record {
  read = l.read;
  said = said_ended word s.ends s.told s.sent s.pending l.said;
  last = last_ended word s.ends s.told l.last;
  few = l.few;
  rest = l.rest;
}

said_shut : (e : SessionEnd) (told : List Reply) (sent pending : List ℕ) → HasSaid e told sent pending → HasSaid (shut_by e) told sent pending
said_shut ends.Never told sent pending h = h
said_shut ends.Shut told sent pending h = h
said_shut (ends.Ending word) told sent pending h = h
said_shut (ends.Told word) told sent pending h = h
said_shut ends.Broken told sent pending h = h

last_shut : (e : SessionEnd) (told : List Reply) → HasLast e told → HasLast (shut_by e) told
last_shut ends.Never told h = tt
last_shut ends.Shut told h = tt
last_shut (ends.Ending word) told h = tt
last_shut (ends.Told word) told h = h
last_shut ends.Broken told h = tt

pub shut_lawful : (s : Session) → IsLawful s → IsLawful (shut s)
shut_lawful s l = record {
  read = l.read;
  said = said_shut s.ends s.told s.sent s.pending l.said;
  last = last_shut s.ends s.told l.last;
  few = l.few;
  rest = l.rest;
}

said_rested : (e : SessionEnd) (told : List Reply) (sent pending : List ℕ) → HasSaid e told sent pending → HasSaid (rested e) told sent pending
said_rested ends.Never told sent pending h = h
said_rested ends.Shut told sent pending h = h
said_rested (ends.Ending word) told sent pending h = h
said_rested (ends.Told word) told sent pending h = h
said_rested ends.Broken told sent pending h = h

last_rested : (e : SessionEnd) (told : List Reply) → HasLast e told → HasLast (rested e) told
last_rested ends.Never told h = tt
last_rested ends.Shut told h = tt
last_rested (ends.Ending word) told h = tt
last_rested (ends.Told word) told h = h
last_rested ends.Broken told h = tt

pub rest_lawful : (s : Session) → message_front s.unread ≡ Partial → IsLawful s → IsLawful (at_rest s)
rest_lawful s none l = record {
  read = l.read;
  said = said_rested s.ends s.told s.sent s.pending l.said;
  last = last_rested s.ends s.told l.last;
  few = l.few;
  rest = λ _. none;
}

pub with_phase : (phase : Phase) (s : Session) → on_way phase ≤ MOST_ASKED → IsLawful s → IsLawful (in_phase phase s)
with_phase phase s few l = record { read = l.read; said = l.said; last = l.last; few = few; rest = l.rest }

-- one that came back leaves fewer
pub answered_fewer : (way : Way) (p : Phase) → on_way p ≤ MOST_ASKED → on_way (answered way p) ≤ MOST_ASKED
answered_fewer way phases.Fresh few = few
answered_fewer way phases.Greeting few = few
answered_fewer ways.Asks (phases.Open asks deeds) few = omega (arith, few)
answered_fewer ways.Deeds (phases.Open asks deeds) few = omega (arith, few)

-- ---- what comes

pub came_lawful : (s : Session) (bytes : List ℕ) → IsLawful s
    → IsLawful (record s { received = s.received ++ bytes; unread = s.unread ++ bytes; rests = false })
came_lawful s bytes l = record {
  read = record {
    fit = l.read.fit;
    spelled =
        ap (λ (all : List ℕ). all ++ bytes) l.read.spelled
        ∙ append_assoc (flat_map message_frame (messages s.taken)) s.unread bytes;
  };
  said = l.said;
  last = l.last;
  few = l.few;
  rest = λ e. absurd cc;
}

-- the history of what came, once more came
pub received_more : (reads : List (List ℕ × ℕ)) (feed bytes : List ℕ) (len : ℕ) → len ≡ length feed
    → flat_map (λ r. drop r.1 r.0) (reads ++ (feed ++ bytes, len) ∷ []) ≡ flat_map (λ r. drop r.1 r.0) reads ++ bytes
received_more reads feed bytes len is =
    flat_map-append (λ (r : List ℕ × ℕ). drop r.1 r.0) reads ((feed ++ bytes, len) ∷ [])
    ∙ ap (λ (last : List ℕ). flat_map (λ (r : List ℕ × ℕ). drop r.1 r.0) reads ++ last)
    (append-nil (drop len (feed ++ bytes)) ∙ drop_at feed bytes len (sym is))

pub unread_more : (held : Option Message) (feed bytes : List ℕ) → unread_of held (feed ++ bytes) ≡ unread_of held feed ++ bytes
unread_more None feed bytes = refl
unread_more (Some m) feed bytes = sym (append_assoc (message_frame m) feed bytes)

-- ---- what is queued

pub said_lawful : (r : Reply) (s : Session) → is_closed s.ends ≡ false → IsLawful s → IsLawful (said r s)
said_lawful r s is l = record {
  read = l.read;
  said = more s.ends s.told s.sent s.pending is l.said;
  last = open_last s.ends (s.told ++ r ∷ []) is;
  few = l.few;
  rest = l.rest;
}
  where
    frames_more : (told : List Reply) (sent pending : List ℕ) → flat_map reply_frame told ≡ sent ++ pending
        → flat_map reply_frame (told ++ r ∷ []) ≡ sent ++ (pending ++ reply_frame r)
    frames_more told sent pending h =
        flat_map-append reply_frame told (r ∷ [])
        ∙ ap (λ (last : List ℕ). flat_map reply_frame told ++ last) (append-nil (reply_frame r))
        ∙ ap (λ (before : List ℕ). before ++ reply_frame r) h
        ∙ append_assoc sent pending (reply_frame r)

    more : (e : SessionEnd) (told : List Reply) (sent pending : List ℕ) → is_closed e ≡ false
        → HasSaid e told sent pending → HasSaid e (told ++ r ∷ []) sent (pending ++ reply_frame r)
    more ends.Never told sent pending is h = frames_more told sent pending h
    more ends.Shut told sent pending is h = frames_more told sent pending h
    more (ends.Ending word) told sent pending is h = frames_more told sent pending h
    more (ends.Told word) told sent pending is h = absurd cc
    more ends.Broken told sent pending is h = absurd cc

    open_last : (e : SessionEnd) (told : List Reply) → is_closed e ≡ false → HasLast e told
    open_last ends.Never told is = tt
    open_last ends.Shut told is = tt
    open_last (ends.Ending word) told is = tt
    open_last (ends.Told word) told is = absurd cc
    open_last ends.Broken told is = tt

-- what went out is the front of the frames of the replies that were queued
pub went_out : (e : SessionEnd) (told : List Reply) (sent pending : List ℕ) → HasSaid e told sent pending
    → IsPrefixOf sent (flat_map reply_frame told)
went_out ends.Never told sent pending h = (pending, h)
went_out ends.Shut told sent pending h = (pending, h)
went_out (ends.Ending word) told sent pending h = (pending, h)
went_out (ends.Told word) told sent pending h = (pending, h)
went_out ends.Broken told sent pending h = h.1

pub broken_lawful : (s : Session) → IsLawful s → IsLawful (broken s)
broken_lawful s l = record {
  read = l.read;
  said = (refl, went_out s.ends s.told s.sent s.pending l.said);
  last = tt;
  few = l.few;
  rest = l.rest;
}

-- the end after the last word
pub told_lawful : (word : Option Refusal) (s : Session) → IsLawful s → is_closed s.ends ≡ false
    → HasLast (ends.Told word) s.told → IsLawful (record s { ends = ends.Told word })
told_lawful word s l is h = record {
  read = l.read;
  said = all_said s.ends is l.said;
  last = h;
  few = l.few;
  rest = l.rest;
}
  where
    all_said : (e : SessionEnd) → is_closed e ≡ false → HasSaid e s.told s.sent s.pending
        → flat_map reply_frame s.told ≡ s.sent ++ s.pending
    all_said ends.Never is h = h
    all_said ends.Shut is h = h
    all_said (ends.Ending word) is h = h
    all_said (ends.Told word) is h = absurd cc
    all_said ends.Broken is h = absurd cc

-- ---- what goes out

pub sent_more : (writes : List (List ℕ × ℕ)) (out : List ℕ) (count : ℕ)
    → flat_map (λ w. take w.1 w.0) (writes ++ (out, count) ∷ []) ≡ flat_map (λ w. take w.1 w.0) writes ++ take count out
sent_more writes out count =
    flat_map-append (λ (w : List ℕ × ℕ). take w.1 w.0) writes ((out, count) ∷ [])
    ∙ ap (λ (last : List ℕ). flat_map (λ (w : List ℕ × ℕ). take w.1 w.0) writes ++ last) (append-nil (take count out))

no_drop : (count : ℕ) → drop {A = ℕ} count [] ≡ []
no_drop count = grind arith

take_none : (count : ℕ) → take {A = ℕ} count [] ≡ []
take_none count = grind arith

no_take : (sent : List ℕ) (count : ℕ) → sent ≡ sent ++ take count []
no_take sent count = sym (ap (λ (last : List ℕ). sent ++ last) (take_none count) ∙ append-nil sent)

pub wrote_lawful : (count : ℕ) (s : Session) → count ≤ length s.pending → IsLawful s → IsLawful (wrote count s)
wrote_lawful count s within l = record {
  read = l.read;
  said = on s.ends s.pending within l.said;
  last = l.last;
  few = l.few;
  rest = l.rest;
}
  where
    split : (sent pending : List ℕ) → sent ++ pending ≡ (sent ++ take count pending) ++ drop count pending
    split sent pending =
        ap (λ (all : List ℕ). sent ++ all) (sym (take-append-drop count pending))
        ∙ sym (append_assoc sent (take count pending) (drop count pending))

    on : (e : SessionEnd) (pending : List ℕ) → count ≤ length pending → HasSaid e s.told s.sent pending
        → HasSaid e s.told (s.sent ++ take count pending) (drop count pending)
    on ends.Never pending within h = h ∙ split s.sent pending
    on ends.Shut pending within h = h ∙ split s.sent pending
    on (ends.Ending word) pending within h = h ∙ split s.sent pending
    on (ends.Told word) pending within h = h ∙ split s.sent pending
    on ends.Broken pending within h =
        rw h.0 (no_drop count, subst (λ (sent : List ℕ). IsPrefixOf sent (flat_map reply_frame s.told)) (no_take s.sent count) h.1)

-- ---- what is taken

few_after : (asks deeds : ℕ) (has_room : Bool) → asks + deeds ≤ MOST_ASKED
    → on_way (place_ask asks deeds has_room).1 ≤ MOST_ASKED
few_after asks deeds has_room few = grind (arith, few)

few_deeds_after : (asks deeds : ℕ) (has_room : Bool) → asks + deeds ≤ MOST_ASKED
    → on_way (place_deed asks deeds has_room).1 ≤ MOST_ASKED
few_deeds_after asks deeds has_room few = grind (arith, few)

-- few are on their way after one more was placed
pub placed_few : (p : Phase) (kind : MessageKind) (room : OpenWays) → on_way p ≤ MOST_ASKED → on_way (place p kind room).1 ≤ MOST_ASKED
placed_few phases.Fresh kind room few = omega arith
placed_few phases.Greeting kind room few = few
placed_few (phases.Open asks deeds) kinds.Hello room few = grind (arith, few)
placed_few (phases.Open asks deeds) kinds.Ask room few = grind (arith, few, few_after, few_deeds_after)
placed_few (phases.Open asks deeds) kinds.Deed room few = few_deeds_after asks deeds room.deeds few

pub took_lawful : (m : Message) (rest : List ℕ) (route : Route) (phase : Phase) (s : Session) → IsLawful s
    → on_way phase ≤ MOST_ASKED → message_front s.unread ≡ Whole m rest
    → (s.unread ≡ message_frame m ++ rest) × FitsMessage m
    → IsLawful (record s { unread = rest; taken = s.taken ++ (m, route) ∷ []; phase = phase })
took_lawful m rest route phase s l few front found = record {
  read = record {
    fit = rw (map-append (λ (t : Message × Route). t.0) s.taken ((m, route) ∷ []))
        (All-append FitsMessage (messages s.taken) (m ∷ []) l.read.fit (All-cons FitsMessage m [] found.1 (All-nil FitsMessage)));
    spelled =
        l.read.spelled
        ∙ ap (λ (all : List ℕ). flat_map message_frame (messages s.taken) ++ all) found.0
        ∙ sym (append_assoc (flat_map message_frame (messages s.taken)) (message_frame m) rest)
        ∙ ap (λ (all : List ℕ). all ++ rest) (sym frames_more);
  };
  said = l.said;
  last = l.last;
  few = few;
  rest = λ e. absurd (not_both (sym (l.rest e) ∙ front));
}
  where
    frames_more : flat_map message_frame (messages (s.taken ++ (m, route) ∷ [])) ≡ flat_map message_frame (messages s.taken) ++ message_frame m
    frames_more =
        ap (flat_map message_frame) (map-append (λ (t : Message × Route). t.0) s.taken ((m, route) ∷ []))
        ∙ flat_map-append message_frame (messages s.taken) (m ∷ [])
        ∙ ap (λ (last : List ℕ). flat_map message_frame (messages s.taken) ++ last) (append-nil (message_frame m))

    not_both : Partial ≡ Whole m rest → ⊥
    not_both e = cc

-- ---- the fields

told_more : (tells : List (Reply × Unit {0})) (r : Reply) → map (λ t. t.0) (tells ++ (r, tt) ∷ []) ≡ map (λ t. t.0) tells ++ r ∷ []
told_more tells r = map-append (λ (t : Reply × Unit {0}). t.0) tells ((r, tt) ∷ [])

pub say_keeps : (reads : List (List ℕ × ℕ)) (held : Option Message) (feed : List ℕ) (takes : List (Message × Route)) (tells tells' : List (Reply × Unit {0}))
    (writes : List (List ℕ × ℕ)) (out out' : List ℕ) (phase : Phase) (end : SessionEnd) (may_have : Bool) (r : Reply)
    → tells' ≡ tells ++ (r, tt) ∷ [] → out' ≡ out ++ reply_frame r → is_closed end ≡ false
    → IsLawful (session_of reads held feed takes tells writes out phase end may_have)
    → IsLawful (session_of reads held feed takes tells' writes out' phase end may_have)
say_keeps reads held feed takes tells tells' writes out out' phase end may_have r more grown still l =
    rw (more, grown) (
    subst (λ (told : List Reply). IsLawful (record (session_of reads held feed takes tells writes (out ++ reply_frame r) phase end may_have) { told = told }))
    (sym (told_more tells r)) (said_lawful r (session_of reads held feed takes tells writes out phase end may_have) still l)
    )

pub sent_keeps : (reads : List (List ℕ × ℕ)) (held : Option Message) (feed : List ℕ) (takes : List (Message × Route)) (tells : List (Reply × Unit {0}))
    (writes writes' : List (List ℕ × ℕ)) (out out' : List ℕ) (phase : Phase) (end : SessionEnd) (may_have : Bool) (count : ℕ)
    → writes' ≡ writes ++ (out, count) ∷ [] → out' ≡ drop count out → count ≤ length out
    → IsLawful (session_of reads held feed takes tells writes out phase end may_have)
    → IsLawful (session_of reads held feed takes tells writes' out' phase end may_have)
sent_keeps reads held feed takes tells writes writes' out out' phase end may_have count more fewer within l =
    rw (more, fewer) (
    subst (λ (sent : List ℕ). IsLawful (record (session_of reads held feed takes tells writes (drop count out) phase end may_have) { sent = sent }))
    (sym (sent_more writes out count)) (wrote_lawful count (session_of reads held feed takes tells writes out phase end may_have) within l)
    )

-- a session whose message was taken
pub took_is : (reads : List (List ℕ × ℕ)) (held held' : Option Message) (feed feed' : List ℕ)
    (takes takes' : List (Message × Route)) (tells : List (Reply × Unit {0}))
    (writes : List (List ℕ × ℕ)) (out : List ℕ) (phase : Phase) (end : SessionEnd) (may_have : Bool) (m : Message) (p q : Route × Phase)
    → held' ≡ None → takes' ≡ takes ++ (m, p.0) ∷ [] → p ≡ q
    → session_of reads held' feed' takes' tells writes out p.1 end may_have ≡ took m feed' q
    (session_of reads held feed takes tells writes out phase end may_have)
took_is reads held held' feed feed' takes takes' tells writes out phase end may_have m p q none more same = rw (none, more, same) refl
