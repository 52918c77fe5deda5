-- What goes over the wire of a connection, call by call.
use Rattle.std.proofs.Common.{◌≡◌, ◌⊎◌, if◌then◌else◌, inl, inr, ℕ, Bool, true, false, List, [], ◌∷◌, ◌++◌, take, drop}
use Rattle.std.proofs.Common.{Result, Ok, Err, Option, Some, None, refl, sym, ap, subst, ◌∙◌, append_assoc, append-nil, true≢false}
use Rattle.std.specs.Io.KnownBytes.{Appends, Consumes, Keeps}
use Rattle.std.specs.Prelude.{OnOk, OnErr}
use Rattle.std.proofs.KnownBytes.{Consumes-nil, Consumes-trans, Consumes-kept, Appends-nil, Appends-trans, Appends-kept, Keeps-refl}
use Rattle.linda_wire.specs.declared.message.Message.{Message}
use Rattle.linda_wire.specs.declared.reply.Reply.{Reply}
use Rattle.linda_wire.specs.declared.refusal.Refusal.{Refusal}
use Rattle.linda_wire.specs.Stream.{Front, Partial, Whole, Broken, message_front}
use Rattle.linda_net_session.specs.declared.end.SessionEnd.{SessionEnd}
use Rattle.linda_net_session.specs.declared.end.SessionEnd.TheVariants as ends
use Rattle.linda_net_session.specs.declared.phase.Phase.{Phase}
use Rattle.linda_net_session.specs.declared.phase.Phase.TheVariants as phases
use Rattle.linda_net_session.specs.declared.phase.Way.{Way}
use Rattle.linda_net_session.specs.declared.route.OpenWays.{OpenWays}
use Rattle.linda_net_session.specs.declared.route.Route.{Route}
use Rattle.linda_net_session.specs.declared.route.Route.TheVariants as routes
use Rattle.linda_net_session.specs.Session.{Session, word_of, is_closed, is_fed, may_take, came, shut, shut_by, ended, ended_by, broken}
use Rattle.linda_net_session.specs.Session.{at_rest, rested, took, said, wrote, heard, in_phase}
use Rattle.linda_net_session.specs.Turns.{Says, TellsBy, Tells, Leads, Takes, Waits, WaitsBy, Nexts, Closes, FinishesBy, Finishes, placed}
use Rattle.std.specs.List.{flat_map}
use Rattle.linda_wire.specs.Frames.{message_frame, reply_frame}
use Rattle.linda_net_session.specs.Session.{begun, messages}
use Rattle.linda_net_session.specs.Between.{TakesNothing}
use Rattle.linda_net_session.specs.Lawful.{IsPrefixOf, HasSaid, IsLawful}
use Rattle.linda_net_loops.specs.Connected.{TellsOnly}
use Rattle.linda_net_loops.specs.Wire.{Wire, Receives, StaysOver, Carries, IsStory}

-- ---- sessions that neither receive nor send

record Quiet (old new : Session) : Type 0 where
  pub received : new.received ≡ old.received
  pub sent : new.sent ≡ old.sent
  pub over : is_fed old.ends ≡ false → is_fed new.ends ≡ false

is_quiet : (old is new : Session) → Quiet old is → new ≡ is → Quiet old new
is_quiet old is new quiet eq = subst (λ (s : Session). Quiet old s) (sym eq) quiet

quiet_same : (s : Session) → Quiet s s
quiet_same s = record { received = refl; sent = refl; over = λ h. h }

quiet_both : (r s t : Session) → Quiet r s → Quiet s t → Quiet r t
quiet_both r s t p q = record { received = q.received ∙ p.received; sent = q.sent ∙ p.sent; over = λ h. q.over (p.over h) }

quiet_broken : (s : Session) → Quiet s (broken s)
quiet_broken s = record { received = refl; sent = refl; over = λ h. refl }

over_ended : (word : Option Refusal) (e : SessionEnd) → is_fed (ended_by word e) ≡ false
over_ended word ends.Never = refl
over_ended word ends.Shut = refl
over_ended word (ends.Ending None) = refl
over_ended word (ends.Ending (Some other)) = refl
over_ended word (ends.Told other) = refl
over_ended word ends.Broken = refl

quiet_ended : (word : Option Refusal) (s : Session) → Quiet s (ended word s)
quiet_ended word s = record { received = refl; sent = refl; over = λ h. over_ended word s.ends }

over_shut : (e : SessionEnd) → is_fed (shut_by e) ≡ false
over_shut ends.Never = refl
over_shut ends.Shut = refl
over_shut (ends.Ending word) = refl
over_shut (ends.Told word) = refl
over_shut ends.Broken = refl

quiet_shut : (s : Session) → Quiet s (shut s)
quiet_shut s = record { received = refl; sent = refl; over = λ h. over_shut s.ends }

over_rested : (e : SessionEnd) → is_fed e ≡ false → is_fed (rested e) ≡ false
over_rested ends.Never h = h
over_rested ends.Shut h = refl
over_rested (ends.Ending word) h = refl
over_rested (ends.Told word) h = refl
over_rested ends.Broken h = refl

quiet_rest : (s : Session) → Quiet s (at_rest s)
quiet_rest s = record { received = refl; sent = refl; over = over_rested s.ends }

quiet_phase : (phase : Phase) (s : Session) → Quiet s (in_phase phase s)
quiet_phase phase s = record { received = refl; sent = refl; over = λ h. h }

quiet_said : (r : Reply) (s : Session) → Quiet s (said r s)
quiet_said r s = record { received = refl; sent = refl; over = λ h. h }

quiet_took : (m : Message) (rest : List ℕ) (placed : Route × Phase) (s : Session) → Quiet s (took m rest placed s)
quiet_took m rest placed s = record { received = refl; sent = refl; over = λ h. h }

quiet_says : (r : Reply) (old new : Session) → Says r old new → Quiet old new
quiet_says r old new (inl eq) = is_quiet old (said r old) new (quiet_said r old) eq
quiet_says r old new (inr eq) = is_quiet old (broken old) new (quiet_broken old) eq

quiet_tells_by : (closed : Bool) (r : Reply) (old new : Session) → TellsBy closed r old new → Quiet old new
quiet_tells_by true r old new eq = is_quiet old old new (quiet_same old) eq
quiet_tells_by false r old new says = quiet_says r old new says

quiet_tells : (r : Reply) (old new : Session) → Tells r old new → Quiet old new
quiet_tells r old new tells = quiet_tells_by (is_closed old.ends) r old new tells

quiet_leads : (route : Route) (old new : Session) → Leads route old new → Quiet old new
quiet_leads routes.Greet old new eq = is_quiet old old new (quiet_same old) eq
quiet_leads routes.Busy old new says = quiet_says _ old new says
quiet_leads (routes.Goes way) old new eq = is_quiet old old new (quiet_same old) eq
quiet_leads routes.Keep old new eq = is_quiet old old new (quiet_same old) eq

quiet_waits : (front : Front Message) (room : OpenWays) (old new : Session) → Waits room old front new → Quiet old new
quiet_waits Partial room old new eq = is_quiet old (at_rest old) new (quiet_rest old) eq
quiet_waits (Whole m rest) room old new (inl stays) = is_quiet old old new (quiet_same old) stays.1
quiet_waits (Whole m rest) room old new (inr eq) = is_quiet old (ended None old) new (quiet_ended None old) eq
quiet_waits (Broken fault) room old new eq = is_quiet old (ended (word_of fault) old) new (quiet_ended (word_of fault) old) eq

quiet_waits_by : (may : Bool) (room : OpenWays) (old new : Session) → WaitsBy may room old new → Quiet old new
quiet_waits_by true room old new waits = quiet_waits (message_front old.unread) room old new waits
quiet_waits_by false room old new eq = is_quiet old old new (quiet_same old) eq

quiet_nexts : (room : OpenWays) (old new : Session) (found : Option (Message × Route)) → Nexts room old found new → Quiet old new
quiet_nexts room old new (Some found) takes =
    let front = took found.0 takes.rest (placed room found.0 old) old in
    quiet_both old front new (quiet_took found.0 takes.rest (placed room found.0 old) old) (quiet_leads found.1 front new takes.leads)
quiet_nexts room old new None waits = quiet_waits_by (may_take old) room old new waits

quiet_closes : (e : SessionEnd) (old new : Session) → e ≡ old.ends → Closes e old new → Quiet old new
quiet_closes ends.Never old new is eq = is_quiet old old new (quiet_same old) eq
quiet_closes ends.Shut old new is eq = is_quiet old old new (quiet_same old) eq
quiet_closes (ends.Ending None) old new is eq =
    is_quiet old (record old { ends = ends.Told None }) new (record { received = refl; sent = refl; over = λ h. refl }) eq
quiet_closes (ends.Ending (Some word)) old new is (inl eq) =
    is_quiet old _ new (record { received = refl; sent = refl; over = λ h. refl }) eq
quiet_closes (ends.Ending (Some word)) old new is (inr eq) = is_quiet old (broken old) new (quiet_broken old) eq
quiet_closes (ends.Told word) old new is eq = is_quiet old old new (quiet_same old) eq
quiet_closes ends.Broken old new is eq = is_quiet old old new (quiet_same old) eq

quiet_finishes_by : (waits : Bool) (old new : Session) → FinishesBy waits old new → Quiet old new
quiet_finishes_by true old new eq = is_quiet old old new (quiet_same old) eq
quiet_finishes_by false old new closes = quiet_closes old.ends old new refl closes

-- ---- wires

nothing_received : (old new : Session) → Quiet old new → Receives [] old new
nothing_received old new quiet =
    record { rest = []; first = ap (λ (l : List ℕ). l ++ []) (sym quiet.received); whole = inl refl }

by_quiet : (a b : Wire) (old new : Session) → Keeps a.left b.left → Keeps a.out b.out → Quiet old new → Carries a b old new
by_quiet a b old new left out quiet = record {
  read = [];
  consumed = Consumes-kept a.left a.left b.left [] (Consumes-nil a.left) left;
  receives = nothing_received old new quiet;
  over = λ h. (quiet.over h, quiet.received);
  written = [];
  appended = Appends-kept a.out a.out b.out [] (Appends-nil a.out) out;
  sent = quiet.sent ∙ sym (append-nil old.sent);
}

-- Nothing happened to the wire, and the session received and sent nothing.
still : (a : Wire) (old new : Session) → Quiet old new → Carries a a old new
still a old new quiet = by_quiet a a old new (Keeps-refl a.left) (Keeps-refl a.out) quiet

pub by_nothing : (a : Wire) (s : Session) → Carries a a s s
by_nothing a s = still a s s (quiet_same s)

pub by_kept : (a b : Wire) (old new : Session) → new ≡ old → Keeps a.left b.left → Keeps a.out b.out → Carries a b old new
by_kept a b old new eq left out = by_quiet a b old new left out (is_quiet old old new (quiet_same old) eq)

pub by_broken : (a b : Wire) (old new : Session) → new ≡ broken old → Keeps a.left b.left → Keeps a.out b.out → Carries a b old new
by_broken a b old new eq left out = by_quiet a b old new left out (is_quiet old (broken old) new (quiet_broken old) eq)

pub by_heard : (a : Wire) (way : Way) (old new : Session) → new ≡ heard way old → Carries a a old new
by_heard a way old new eq = still a old new (is_quiet old (heard way old) new (quiet_phase _ old) eq)

pub by_ended : (a : Wire) (word : Option Refusal) (old new : Session) → new ≡ ended word old → Carries a a old new
by_ended a word old new eq = still a old new (is_quiet old (ended word old) new (quiet_ended word old) eq)

pub by_told : (a : Wire) (r : Reply) (old new : Session) → Tells r old new → Carries a a old new
by_told a r old new tells = still a old new (quiet_tells r old new tells)

pub by_greeted : (a : Wire) (r : Reply) (phase : Phase) (old new : Session) → Tells r (in_phase phase old) new → Carries a a old new
by_greeted a r phase old new tells =
    still a old new (quiet_both old (in_phase phase old) new (quiet_phase phase old) (quiet_tells r (in_phase phase old) new tells))

pub by_dropped : (a : Wire) (word : Option Refusal) (old new : Session) → new ≡ ended word (in_phase phases.Fresh old) → Carries a a old new
by_dropped a word old new eq =
    let here = in_phase phases.Fresh old in
    still a old new (quiet_both old here new (quiet_phase phases.Fresh old) (is_quiet here (ended word here) new (quiet_ended word here) eq))

pub by_next : (a : Wire) (room : OpenWays) (old new : Session) (found : Option (Message × Route)) → Nexts room old found new → Carries a a old new
by_next a room old new found nexts = still a old new (quiet_nexts room old new found nexts)

pub by_finish : (a b : Wire) (old new : Session) → Finishes old new → Keeps a.left b.left → Keeps a.out b.out → Carries a b old new
by_finish a b old new finishes left out = by_quiet a b old new left out (quiet_finishes_by _ old new finishes)

-- ---- what is read

read_none : (a b : Wire) (old new : Session) → Quiet old new → Consumes a.left b.left [] → Keeps a.out b.out → Carries a b old new
read_none a b old new quiet consumed out = record {
  read = [];
  consumed = consumed;
  receives = nothing_received old new quiet;
  over = λ h. (quiet.over h, quiet.received);
  written = [];
  appended = Appends-kept a.out a.out b.out [] (Appends-nil a.out) out;
  sent = quiet.sent ∙ sym (append-nil old.sent);
}

pub by_end : (a b : Wire) (old new : Session) → new ≡ shut old → Consumes a.left b.left [] → Keeps a.out b.out → Carries a b old new
by_end a b old new eq consumed out = read_none a b old new (is_quiet old (shut old) new (quiet_shut old) eq) consumed out

-- What a session does with bytes that came.
record Got (bytes : List ℕ) (old new : Session) : Type 0 where
  pub receives : Receives bytes old new
  pub over : StaysOver old new
  pub sent : new.sent ≡ old.sent

got_by : (fed : Bool) (bytes : List ℕ) (s : Session) → fed ≡ is_fed s.ends
    → Got bytes s (if fed then record s { received = s.received ++ bytes; unread = s.unread ++ bytes; rests = false } else s)
got_by true bytes s is = record {
  receives = record { rest = []; first = sym (append-nil (s.received ++ bytes)); whole = inl refl };
  over = λ h. absurd (true≢false (is ∙ h));
  sent = refl;
}
got_by false bytes s is = record {
  receives = record { rest = bytes; first = refl; whole = inr (sym is) };
  over = λ h. (h, refl);
  sent = refl;
}

got_came : (bytes : List ℕ) (old new : Session) → new ≡ came bytes old → Got bytes old new
got_came bytes old new eq = subst (λ (s : Session). Got bytes old s) (sym eq) (got_by (is_fed old.ends) bytes old refl)

got_ended : (bytes : List ℕ) (old new : Session) → new ≡ ended None old → Got bytes old new
got_ended bytes old new eq = subst (λ (s : Session). Got bytes old s) (sym eq) (record {
  receives = record { rest = bytes; first = refl; whole = inr (over_ended None old.ends) };
  over = λ h. (over_ended None old.ends, refl);
  sent = refl;
})

by_got : (a b : Wire) (bytes : List ℕ) (old new : Session) → Got bytes old new → Consumes a.left b.left bytes → Keeps a.out b.out → Carries a b old new
by_got a b bytes old new got consumed out = record {
  read = bytes;
  consumed = consumed;
  receives = got.receives;
  over = got.over;
  written = [];
  appended = Appends-kept a.out a.out b.out [] (Appends-nil a.out) out;
  sent = got.sent ∙ sym (append-nil old.sent);
}

pub by_received : (a b : Wire) (bytes : List ℕ) (old new : Session) {A E : Type 0} (r : Result A E) → OnOk r (new ≡ came bytes old)
    → OnErr r (new ≡ ended None old) → Consumes a.left b.left bytes → Keeps a.out b.out → Carries a b old new
by_received a b bytes old new (Ok x) came none consumed out = by_got a b bytes old new (got_came bytes old new came) consumed out
by_received a b bytes old new (Err e) none ended consumed out = by_got a b bytes old new (got_ended bytes old new ended) consumed out

-- ---- what is written

pub by_wrote : (a b : Wire) (count : ℕ) (old new : Session) → new ≡ wrote count old → Keeps a.left b.left → Appends a.out b.out (take count old.pending)
    → Carries a b old new
by_wrote a b count old new eq left appended = subst (λ (s : Session). Carries a b old s) (sym eq) (record {
  read = [];
  consumed = Consumes-kept a.left a.left b.left [] (Consumes-nil a.left) left;
  receives = record { rest = []; first = refl; whole = inl refl };
  over = λ h. (h, refl);
  written = take count old.pending;
  appended = appended;
  sent = refl;
})

-- ---- one after another

both_received : (p q : List ℕ) (r s t : Session) → Receives p r s → Receives q s t → StaysOver s t → Receives (p ++ q) r t
both_received p q r s t one other over = elim one.whole [
  | inl none ↦ record {
    rest = other.rest;
    first = sym (append_assoc r.received p q)
        ∙ (ap (λ (l : List ℕ). l ++ q) (one.first ∙ (ap (λ (l : List ℕ). s.received ++ l) none ∙ append-nil s.received)) ∙ other.first);
    whole = other.whole;
  }
  | inr ended ↦ let stays = over ended in record {
    rest = one.rest ++ q;
    first = sym (append_assoc r.received p q) ∙ (ap (λ (l : List ℕ). l ++ q) one.first
        ∙ (append_assoc s.received one.rest q ∙ ap (λ (l : List ℕ). l ++ (one.rest ++ q)) (sym stays.1)));
    whole = inr stays.0;
  }
]

pub both : (a b c : Wire) (r s t : Session) → Carries a b r s → Carries b c s t → Carries a c r t
both a b c r s t p q = record {
  read = p.read ++ q.read;
  consumed = Consumes-trans a.left b.left c.left p.read q.read p.consumed q.consumed;
  receives = both_received p.read q.read r s t p.receives q.receives q.over;
  over = λ h. let mid = p.over h in let end = q.over mid.0 in (end.0, end.1 ∙ mid.1);
  written = p.written ++ q.written;
  appended = Appends-trans a.out b.out c.out p.written q.written p.appended q.appended;
  sent = q.sent ∙ (ap (λ (l : List ℕ). l ++ q.written) p.sent ∙ append_assoc r.sent p.written q.written);
}

pub then_next : (a b : Wire) (room : OpenWays) (r s t : Session) (found : Option (Message × Route)) → Carries a b r s → Nexts room s found t → Carries a b r t
then_next a b room r s t found before next = both a b b r s t before (by_next b room s t found next)

pub next_read : (a b c : Wire) (room : OpenWays) (r s t u : Session) (found : Option (Message × Route)) → Carries a b r s → Nexts room s found t
    → Carries b c t u → Carries a c r u
next_read a b c room r s t u found before next read = both a b c r t u (then_next a b room r s t found before next) read

pub by_flush : (a b c : Wire) (q r s t : Session) → Carries a b q r → r ≡ q → Finishes q s → Carries b c s t → Carries a c q t
by_flush a b c q r s t noted same finishes write =
    both a b c q s t (both a b b q q s (subst (λ (x : Session). Carries a b q x) same noted)
    (by_finish b b q s finishes (Keeps-refl b.left) (Keeps-refl b.out))) write

-- ---- a whole life

front_of : (e : SessionEnd) (told : List Reply) (sent pending : List ℕ) → HasSaid e told sent pending → IsPrefixOf sent (flat_map reply_frame told)
front_of ends.Never told sent pending said = (pending, said)
front_of ends.Shut told sent pending said = (pending, said)
front_of (ends.Ending word) told sent pending said = (pending, said)
front_of (ends.Told word) told sent pending said = (pending, said)
front_of ends.Broken told sent pending said = said.1

pub whole_story : (a b : Wire) (s : Session) → Carries a b begun s → IsLawful s → IsStory a b s
whole_story a b s carries lawful = record {
  read = carries.read;
  consumed = carries.consumed;
  fit = lawful.read.fit;
  taken = (
    s.unread ++ carries.receives.rest,
    carries.receives.first ∙ (ap (λ (l : List ℕ). l ++ carries.receives.rest) lawful.read.spelled
        ∙ append_assoc (flat_map message_frame (messages s.taken)) s.unread carries.receives.rest),
  );
  written = carries.written;
  appended = carries.appended;
  told = subst (λ (l : List ℕ). IsPrefixOf l (flat_map reply_frame s.told)) carries.sent (front_of s.ends s.told s.sent s.pending lawful.said);
}

-- ---- what a message is answered at once

tells_by : (route : Route) (s new : Session) → Leads route s new → TellsOnly route s.told new.told
tells_by routes.Greet s new eq = ap (λ (x : Session). x.told) eq
tells_by routes.Busy s new (inl eq) = inl (ap (λ (x : Session). x.told) eq)
tells_by routes.Busy s new (inr eq) = inr (ap (λ (x : Session). x.told) eq)
tells_by (routes.Goes way) s new eq = ap (λ (x : Session). x.told) eq
tells_by routes.Keep s new eq = ap (λ (x : Session). x.told) eq

pub tells_next : (room : OpenWays) (old mid new : Session) (m : Message) (route : Route) → TakesNothing old mid → Takes room mid m route new
    → TellsOnly route old.told new.told
tells_next room old mid new m route nothing takes =
    subst (λ (l : List Reply). TellsOnly route l new.told) nothing.1 (tells_by route (took m takes.rest (placed room m mid) mid) new takes.leads)
