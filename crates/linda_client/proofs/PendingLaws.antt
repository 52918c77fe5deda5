-- A pending synchronization stays as every one is while it saves and accepts.
use Rattle.std.proofs.Common.{◌≡◌, ℕ, ◌+◌, ◌<◌, get_or, set, true, List, [], ◌∷◌, ◌++◌, drop, sym, ap, ◌∙◌, subst}
use Rattle.std.specs.Prelude.{Some, All, IfSome, Result, Ok, Err, OnOk, OnErr, is_some}
use Rattle.std.specs.declared.alloc.AllocError.{AllocError}
use Rattle.std.proofs.lemmas.Bool.{false≢true}
use Rattle.std.proofs.lemmas.Grind.{get_or_default_zero}
use Rattle.std.proofs.lemmas.List.Elements.{All-append, All-cons, All-drop, All-nil}
use Rattle.linda_client.specs.declared.arrived_tuple.PendingAccept.{PendingAccept}
use Rattle.linda_client.specs.declared.arrived_tuple.ArrivedTuple.{ArrivedTuple}
use Rattle.linda_client.specs.declared.task.Task.TheVariants.{Syncing}
use Rattle.linda_client.specs.Pending.{FitsOpen, IsOpenInput, IsPending, Pending, save_last, take_oldest}
use Rattle.linda_client.specs.Client.{Client, OfPending, pending_in, servers, with_pending}
use Rattle.linda_client.specs.React.{use_number, used_at}

-- with the same arrivals saved
pub still : (p : Pending) (all : List ArrivedTuple) → IsPending p → all ≡ p.saved → IsPending (record p { saved = all })
still p all keeps same = subst (λ l. IsPending (record p { saved = l })) (sym same) keeps

-- with an arrival more that fits, while an Accept is unanswered
pub saved_one : (p : Pending) (a : ArrivedTuple) → IsPending p → FitsOpen p a → is_some p.accepted ≡ true → IsPending (save_last a p)
saved_one p a keeps fits awaits = record {
  within = keeps.within;
  first = keeps.first;
  last = keeps.last;
  accepted = keeps.accepted;
  saved = All-append (FitsOpen p) p.saved (a ∷ []) keeps.saved (All-cons (FitsOpen p) a [] fits (All-nil (FitsOpen p)));
  waiting = λ none. absurd (false≢true (sym (ap is_some none) ∙ awaits));
}

-- with an arrival more, as a value that equals it says
pub saved_so : (p own : Pending) (a : ArrivedTuple) (all : List ArrivedTuple) → IsPending p → p ≡ own → FitsOpen own a
    → is_some own.accepted ≡ true → all ≡ p.saved ++ a ∷ [] → IsPending (record p { saved = all })
saved_so p own a all keeps same fits awaits more =
    subst (λ l. IsPending (record p { saved = l })) (sym more)
    (saved_one p a keeps (subst (λ s. FitsOpen s a) (sym same) fits) (subst (λ (s : Pending). is_some s.accepted ≡ true) (sym same) awaits))

-- with an offer accepted for an open input, and the oldest arrival saved no more
pub taken_so : (p own : Pending) (a : PendingAccept) (rest : List ArrivedTuple) → IsPending p → p ≡ own → IsOpenInput own a.ticket → rest ≡ drop 1 p.saved
    → IsPending (record p { accepted = Some a; saved = rest })
taken_so p own a rest keeps same input less = record {
  within = keeps.within;
  first = keeps.first;
  last = keeps.last;
  accepted = subst (λ s. IsOpenInput s a.ticket) (sym same) input;
  saved = subst (λ l. All (FitsOpen p) l) (sym less) (All-drop (FitsOpen p) 1 p.saved keeps.saved);
  waiting = λ none. cc;
}

-- the offer that is accepted, as a value that equals the synchronization says
pub took : (p own : Pending) (a : PendingAccept) (rest : List ArrivedTuple) → p ≡ own → rest ≡ drop 1 p.saved
    → record p { accepted = Some a; saved = rest } ≡ take_oldest a own
took p own a rest same less = ap (λ l. record p { accepted = Some a; saved = l }) less ∙ ap (take_oldest a) same

-- what holds of the synchronization that is pending, as a value that equals the client says
pub of_pending : (c own : Client) (p : Pending) (P : Client → Pending → Type 0) → c ≡ own → c.task ≡ Syncing p → P c p → OfPending own (P own)
of_pending c own p P same was h = subst (λ d. OfPending d (P d)) same (subst (λ t. IfSome (pending_in t) (P c)) (sym was) h)

-- the client that saves an arrival
pub saves_one : (c own : Client) (p q : Pending) (a : ArrivedTuple) (r : Result (Unit {0}) AllocError) → c ≡ own → c.task ≡ Syncing p
    → OnOk r (q ≡ save_last a p)
    → OnOk r (OfPending own (λ s. with_pending c q ≡ with_pending own (save_last a s)))
saves_one c own p q a (Ok u) same was saved =
    of_pending c own p (λ d s. with_pending c q ≡ with_pending d (save_last a s)) same was (ap (with_pending c) saved)
saves_one c own p q a (Err e) same was saved = tt

-- the client after memory ran out
pub stays_so : (c own : Client) (p q : Pending) (r : Result (Unit {0}) AllocError) → c ≡ own
    → c.task ≡ Syncing p → OnErr r (q ≡ p) → OnErr r (with_pending c q ≡ own)
stays_so c own p q (Ok u) same was failed = tt
stays_so c own p q (Err e) same was failed = ap (with_pending c) failed ∙ ap (λ t. record c { task = t }) (sym was) ∙ same

-- the client that accepts an offer
pub accepts_one : (c own : Client) (p q : Pending) (a : PendingAccept) (next : List ℕ) → c ≡ own
    → c.task ≡ Syncing p → q ≡ take_oldest a p → next ≡ used_at c a.server
    → OfPending own (λ s. record c { next = next; task = Syncing q } ≡ with_pending (use_number own a.server) (take_oldest a s))
accepts_one c own p q a next same was took up =
    of_pending c own p (λ d s. record c { next = next; task = Syncing q } ≡ with_pending (use_number d a.server) (take_oldest a s)) same was
    (ap (λ l. record c { next = l; task = Syncing q }) up ∙ ap (λ s. record c { next = used_at c a.server; task = Syncing s }) took)

-- the next numbers after that of a server is used, as the number that was read says
pub next_up : (c own : Client) (s v : ℕ) → c ≡ own → s < servers own → v ≡ get_or c.next s v → set c.next s (v + 1) ≡ used_at c s
next_up c own s v same within e = ap (λ n. set c.next s (n + 1)) (e ∙ get_or_default_zero c.next s v (subst (λ d. s < servers d) (sym same) within))
