-- What one call of a session does, and what follows of several.
use Rattle.std.proofs.Common.{◌≡◌, ◌⊎◌, if◌then◌else◌, inl, inr, ℕ, Bool, true, false, List, [], ◌∷◌, ◌++◌, take, drop}
use Rattle.std.proofs.Common.{Option, Some, None, refl, sym, ap, subst, ◌∙◌, append_assoc}
use Rattle.std.proofs.lemmas.List.{take-append-drop}
use Rattle.linda_wire.specs.declared.message.Message.{Message}
use Rattle.linda_wire.specs.Stream.{Front, Partial, Whole, Broken, message_front}
use Rattle.linda_wire.specs.declared.refusal.Refusal.{Refusal}
use Rattle.linda_net_session.specs.declared.end.SessionEnd.{SessionEnd}
use Rattle.linda_net_session.specs.declared.end.SessionEnd.TheVariants as ends
use Rattle.linda_net_session.specs.declared.route.OpenWays.{OpenWays}
use Rattle.linda_net_session.specs.declared.route.Route.{Route}
use Rattle.linda_net_session.specs.declared.route.Route.TheVariants as routes
use Rattle.linda_net_session.specs.Session.{Session, word_of, is_open, is_fed, may_take, came, shut, ended, ended_by, broken, at_rest, took, wrote}
use Rattle.linda_net_session.specs.Turns.{Leads, Takes, Waits, WaitsBy, Nexts, placed}
use Rattle.linda_net_session.specs.Between.{TakesNothing, TakesOne, Sends}

pub same : (s : Session) → TakesNothing s s
same s = (refl, refl, refl, refl)

pub as_well : (old mid new : Session) → TakesNothing old mid → TakesNothing mid new → TakesNothing old new
as_well old mid new first next = (next.0 ∙ first.0, next.1 ∙ first.1, next.2 ∙ first.2, next.3 ∙ first.3)

is_then : (old is new : Session) → TakesNothing old is → new ≡ is → TakesNothing old new
is_then old is new keeps eq = subst (λ (s : Session). TakesNothing old s) (sym eq) keeps

-- ---- what is read

came_by : (fed : Bool) (bytes : List ℕ) (s : Session)
    → TakesNothing s (if fed then record s { received = s.received ++ bytes; unread = s.unread ++ bytes; rests = false } else s)
came_by true bytes s = (refl, refl, refl, refl)
came_by false bytes s = (refl, refl, refl, refl)

pub keeps_came : (bytes : List ℕ) (old new : Session) → new ≡ came bytes old → TakesNothing old new
keeps_came bytes old new eq = is_then old (came bytes old) new (came_by (is_fed old.ends) bytes old) eq

pub keeps_shut : (old new : Session) → new ≡ shut old → TakesNothing old new
keeps_shut old new eq = is_then old (shut old) new (refl, refl, refl, refl) eq

pub keeps_ended : (old new : Session) → new ≡ ended None old → TakesNothing old new
keeps_ended old new eq = is_then old (ended None old) new (refl, refl, refl, refl) eq

pub keeps_broken : (old new : Session) → new ≡ broken old → TakesNothing old new
keeps_broken old new eq = is_then old (broken old) new (refl, refl, refl, refl) eq

-- ---- what is taken

by_front : (front : Front Message) (room : OpenWays) (old new : Session) → Waits room old front new → TakesNothing old new
by_front Partial room old new eq = is_then old (at_rest old) new (refl, refl, refl, refl) eq
by_front (Whole m rest) room old new (inl stays) = is_then old old new (same old) stays.1
by_front (Whole m rest) room old new (inr eq) = keeps_ended old new eq
by_front (Broken fault) room old new eq = is_then old (ended (word_of fault) old) new (refl, refl, refl, refl) eq

by_open : (may : Bool) (room : OpenWays) (old new : Session) → WaitsBy may room old new → TakesNothing old new
by_open true room old new waits = by_front (message_front old.unread) room old new waits
by_open false room old new eq = is_then old old new (same old) eq

pub keeps_waiting : (room : OpenWays) (old new : Session) → Nexts room old None new → TakesNothing old new
keeps_waiting room old new waits = by_open (may_take old) room old new waits

leads_taken : (route : Route) (s new : Session) → Leads route s new → new.taken ≡ s.taken
leads_taken routes.Greet s new eq = ap (λ (x : Session). x.taken) eq
leads_taken routes.Busy s new (inl eq) = ap (λ (x : Session). x.taken) eq
leads_taken routes.Busy s new (inr eq) = ap (λ (x : Session). x.taken) eq
leads_taken (routes.Goes way) s new eq = ap (λ (x : Session). x.taken) eq
leads_taken routes.Keep s new eq = ap (λ (x : Session). x.taken) eq

-- After calls that took nothing a message was taken.
pub taken_next : (room : OpenWays) (old mid new : Session) (m : Message) (route : Route) → TakesNothing old mid → Takes room mid m route new
    → TakesOne old m route new
taken_next room old mid new m route nothing takes =
    leads_taken route (took m takes.rest (placed room m mid) mid) new takes.leads
    ∙ (ap (λ (r : Route). mid.taken ++ (m, r) ∷ []) (sym takes.goes) ∙ ap (λ (l : List (Message × Route)). l ++ (m, route) ∷ []) nothing.0)

-- ---- what is sent

pub sends_none : (s : Session) → Sends s s
sends_none s = (refl, refl, inl (refl, refl))

first_sends : (old mid new : Session) → Sends old mid → (new.sent ++ new.pending ≡ mid.sent ++ mid.pending) × (new.ends ≡ mid.ends)
    → ((new.sent ++ new.pending ≡ old.sent ++ old.pending) × (new.ends ≡ old.ends)) ⊎ (new.ends ≡ ends.Broken)
first_sends old mid new (taken, told, inl both) next = inl (next.0 ∙ both.0, next.1 ∙ both.1)
first_sends old mid new (taken, told, inr gone) next = inr (next.1 ∙ gone)

pub sends_then : (old mid new : Session) → Sends old mid → Sends mid new → Sends old new
sends_then old mid new first (taken, told, inl both) = (taken ∙ first.0, told ∙ first.1, first_sends old mid new first both)
sends_then old mid new first (taken, told, inr gone) = (taken ∙ first.0, told ∙ first.1, inr gone)

pub sends_some : (count : ℕ) (old new : Session) → new ≡ wrote count old → Sends old new
sends_some count old new eq =
    subst (λ (s : Session). Sends old s) (sym eq) (
      refl,
      refl,
      inl (append_assoc old.sent (take count old.pending) (drop count old.pending) ∙ ap (λ l. old.sent ++ l) (take-append-drop count old.pending), refl),
    )

pub sends_broken : (old new : Session) → new ≡ broken old → Sends old new
sends_broken old new eq = subst (λ (s : Session). Sends old s) (sym eq) (refl, refl, inr refl)

-- ---- the end

pub closed_by_end : (word : Option Refusal) (e : SessionEnd) → is_open (ended_by word e) ≡ false
closed_by_end word ends.Never = refl
closed_by_end word ends.Shut = refl
closed_by_end word (ends.Ending None) = refl
closed_by_end word (ends.Ending (Some other)) = refl
closed_by_end word (ends.Told other) = refl
closed_by_end word ends.Broken = refl
