-- What becomes of an offer that a client has in hand.
use Rattle.std.proofs.Common.{◌≡◌, ℕ, ◌<◌, ◌==◌, ◌&&◌, Bool, true, false, cond, List, [], ◌∷◌, ◌++◌, Contains, ◌⊎◌, inl}
use Rattle.std.proofs.Common.{inr, refl, sym, ap, ◌∙◌, subst, eq-eqb, eqb-true}
use Rattle.std.specs.Prelude.{Option, Some, None, Ok}
use Rattle.std.specs.List.{list_any}
use Rattle.std.proofs.lemmas.Bool.{false≢true}
use Rattle.std.proofs.lemmas.Option.{none-some, same_Some}
use Rattle.std.proofs.lemmas.List.Elements.{Contains-append_left}
use Rattle.linda_tuple.specs.Tuple.{Tuple}
use Rattle.linda_wire.specs.declared.message.Message.TheVariants as messages
use Rattle.linda_wire.specs.declared.reply.Reply.TheVariants as replies
use Rattle.linda_client.specs.declared.arrived_tuple.PendingAccept.{PendingAccept}
use Rattle.linda_client.specs.declared.arrived_tuple.ArrivedTuple.{ArrivedTuple}
use Rattle.linda_client.specs.declared.ask.Ask.{Ask}
use Rattle.linda_client.specs.declared.outcome.Got.{Got}
use Rattle.linda_client.specs.declared.outcome.Got.TheVariants.{Took, Copied, Alarm, Always}
use Rattle.linda_client.specs.declared.task.Task.TheVariants.{Idle, Putting, Syncing, Leaving}
use Rattle.linda_client.specs.Pending.{Pending, ask_at}
use Rattle.linda_client.specs.Client.{Client, IsClient, next_at, pending_in, servers}
use Rattle.linda_client.specs.Packets.{cancels_but, is_of, is_spared, spared, spared_by}
use Rattle.linda_client.specs.Reaction.{Reaction}
use Rattle.linda_client.specs.React.{Call, Receive, next_accept, react}
use Rattle.linda_client.specs.Ending.{GotBy, spared_for}
use Rattle.linda_client.specs.Offers.{AcceptIsAnswered, Becomes, InHand, IsAccepted, IsSaved}
use Rattle.linda_client.proofs.AskLaws.{open_range}
use Rattle.linda_client.proofs.CancelLaws.{cancels_exactly}
use Rattle.linda_client.proofs.Course.{Course, Turn, abandons, accepts, arrives, begins, commits, commits_at_once}
use Rattle.linda_client.proofs.Course.{course, departs, gives_up, hands_on, leaves_on, oldest, pending_task, puts}
use Rattle.linda_client.proofs.Course.{rejects, repeats, rests, saves, stores, waits}
use Rattle.linda_client.proofs.TestLaws.{both}
use Rattle.linda_client.proofs.ListLaws.{in_front, none_any, nowhere}

module _ (P : PendingAccept → Type 0) (call : Call) (c : Client) (pending : Pending) (there : pending_in c.task ≡ Some pending)
    (server ticket id : ℕ) (within : server < servers c) (ask : Ask) (asked : ask_at pending ticket ≡ Some ask) where
  task_is : c.task ≡ Syncing pending
  task_is = pending_task c.task pending there

  same_pending : (own : Pending) → c.task ≡ Syncing own → own ≡ pending
  same_pending own task = same_Some own pending (sym (ap pending_in task) ∙ there)

  idle_not : {A : Type 0} → c.task ≡ Idle → A
  idle_not idle = absurd (none-some pending (sym (ap pending_in idle) ∙ there))

  putting_not : {A : Type 0} (s n : ℕ) (row : Tuple) → c.task ≡ Putting s n row → A
  putting_not s n row putting = absurd (none-some pending (sym (ap pending_in putting) ∙ there))

  cancelled : (own : Option (ℕ × ℕ)) → is_spared own (server, ticket) ≡ false → Contains (cancels_but (servers c) own pending) (server, messages.Cancel ticket)
  cancelled own apart =
      let range = open_range pending ticket ask asked in
      (cancels_exactly (servers c) own pending server ticket).1 (record { server_is = within; from = range.0; below = range.1; apart = apart })

  -- all is as before
  stays : (r : Reaction) → pending_in r.client.task ≡ Some pending → InHand P pending server ticket id → Becomes P call c pending server ticket id r
  stays r after (inl saved) = inr (inl (record { later = pending; after = after; event = refl; first = refl; hand = inl saved }))
  stays r after (inr own) = inr (inl (record { later = pending; after = after; event = refl; first = refl; hand = inr (own.0, inl own.1) }))

  leaving_not : {A : Type 0} (all : List (ℕ × ℕ)) → c.task ≡ Leaving all → A
  leaving_not all leaving = absurd (none-some pending (sym (ap pending_in leaving) ∙ there))

  -- The Accept that is answered is that of the offer.
  gone_answers : (own : PendingAccept) → pending.accepted ≡ Some own → call ≡ Receive own.server (replies.Gone own.n)
      → (a : IsAccepted pending server ticket id) → P a.own → AcceptIsAnswered P call pending server ticket id
  gone_answers own was called a holds =
      let same = same_Some own a.own (sym was ∙ a.there) in
      record {
        accepted = a;
        holds = holds;
        answer = inl (called ∙ ap (λ s. Receive s (replies.Gone own.n)) (ap (λ (x : PendingAccept). x.server) same ∙ a.server_is)
            ∙ ap (λ m. Receive server (replies.Gone m)) (ap (λ (x : PendingAccept). x.n) same));
      }

  taken_answers : (own : PendingAccept) (row : Tuple) → pending.accepted ≡ Some own → call ≡ Receive own.server (replies.Taken own.n own.id row)
      → (a : IsAccepted pending server ticket id) → P a.own → AcceptIsAnswered P call pending server ticket id
  taken_answers own row was called a holds =
      let same = same_Some own a.own (sym was ∙ a.there) in
      record {
        accepted = a;
        holds = holds;
        answer = inr (
          row,
          called ∙ ap (λ s. Receive s (replies.Taken own.n own.id row)) (ap (λ (x : PendingAccept). x.server) same ∙ a.server_is)
              ∙ ap (λ m. Receive server (replies.Taken m own.id row)) (ap (λ (x : PendingAccept). x.n) same)
              ∙ ap (λ i. Receive server (replies.Taken a.own.n i row)) (ap (λ (x : PendingAccept). x.id) same ∙ a.id_is),
        );
      }

  saves_on : (a : ArrivedTuple) → InHand P pending server ticket id
      → InHand (λ x. P x ⊎ (x.n ≡ next_at c server)) (record pending { saved = pending.saved ++ a ∷ [] }) server ticket id
  saves_on a (inl saved) =
      inl (record {
        arrival = saved.arrival;
        there = Contains-append_left pending.saved (a ∷ []) saved.arrival saved.there;
        server_is = saved.server_is;
        ticket_is = saved.ticket_is;
        id_is = saved.id_is;
      })
  saves_on a (inr own) = inr
      (record { own = own.0.own; there = own.0.there; server_is = own.0.server_is; ticket_is = own.0.ticket_is; id_is = own.0.id_is }, inl own.1)

  -- an offer is accepted, and others stay saved
  module _ (rest : List ArrivedTuple) (a : ArrivedTuple) where
    abbrev later : Pending
    later = record { event = pending.event; first = pending.first; accepted = Some (next_accept c a.server a.ticket a.id); saved = rest }

    rest_saved : (arrival : ArrivedTuple) → Contains rest arrival → arrival.server ≡ server → arrival.ticket ≡ ticket
        → arrival.id ≡ id → InHand (λ x. P x ⊎ (x.n ≡ next_at c server)) later server ticket id
    rest_saved arrival here s k i = inl (record { arrival = arrival; there = here; server_is = s; ticket_is = k; id_is = i })

    now_accepted : a.server ≡ server → a.ticket ≡ ticket → a.id ≡ id → InHand (λ x. P x ⊎ (x.n ≡ next_at c server)) later server ticket id
    now_accepted s k i = inr (
      record { own = next_accept c a.server a.ticket a.id; there = refl; server_is = s; ticket_is = k; id_is = i },
      inr (ap (next_at c) s),
    )

    accepts_on : (r : Reaction) → pending_in r.client.task ≡ Some later → Turn call pending rest a
        → InHand P pending server ticket id → Becomes P call c pending server ticket id r
    accepts_on r after (arrives none same called) (inl saved) =
        inr (inl (record {
          later = later;
          after = after;
          event = refl;
          first = refl;
          hand =
              rest_saved saved.arrival (subst (λ l. Contains l saved.arrival) (sym same) saved.there) saved.server_is saved.ticket_is saved.id_is;
        }))
    accepts_on r after (arrives none same called) (inr own) = absurd (none-some own.0.own (sym none ∙ own.0.there))
    accepts_on r after (oldest own was same called) (inl saved) = by (in_front a saved.arrival rest (subst (λ l. Contains l saved.arrival) same saved.there))
      where
        by : (a ≡ saved.arrival) ⊎ Contains rest saved.arrival → Becomes P call c pending server ticket id r
        by (inl it) = inr (inl (record {
          later = later;
          after = after;
          event = refl;
          first = refl;
          hand =
              now_accepted (ap (λ (x : ArrivedTuple). x.server) it ∙ saved.server_is)
              (ap (λ (x : ArrivedTuple). x.ticket) it ∙ saved.ticket_is) (ap (λ (x : ArrivedTuple). x.id) it ∙ saved.id_is);
        }))
        by (inr here) = inr (inl
            (record {
              later = later;
              after = after;
              event = refl;
              first = refl;
              hand =
                  rest_saved saved.arrival here saved.server_is saved.ticket_is saved.id_is;
            }))
    accepts_on r after (oldest own was same called) (inr hand) = inr (inr (gone_answers own was called hand.0 hand.1))

  -- what is spared is not saved
  spares_none : (own : PendingAccept) → IsSaved pending server ticket id → pending.accepted ≡ Some own → is_spared (spared pending) (server, ticket) ≡ true → ⊥
  spares_none own saved was spares = by (list_any (is_of (own.server, own.ticket)) pending.saved) refl
      (ap (λ o. is_spared (spared_by o pending.saved) (server, ticket)) (sym was) ∙ spares)
    where
      by : (b : Bool) → list_any (is_of (own.server, own.ticket)) pending.saved ≡ b
          → is_spared (cond b None (Some (own.server, own.ticket))) (server, ticket) ≡ true → ⊥
      by true any e = false≢true e
      by false none e =
          let pair = both (own.server == server) (own.ticket == ticket) e in
          let of_it : is_of (own.server, own.ticket) saved.arrival ≡ true =
          ap (λ b. b && (saved.arrival.ticket == own.ticket))
          (eq-eqb saved.arrival.server own.server (saved.server_is ∙ sym (eqb-true own.server server pair.0)))
          ∙ eq-eqb saved.arrival.ticket own.ticket (saved.ticket_is ∙ sym (eqb-true own.ticket ticket pair.1)) in
          false≢true (sym (none_any (is_of (own.server, own.ticket)) pending.saved saved.arrival saved.there none) ∙ of_it)

  -- a commitment: its ticket is cancelled, or it is what was taken
  ends_on : (base : ℕ) (got : Got) (r : Reaction) → r.packets ≡ cancels_but (servers c) (spared_for pending got) pending
      → GotBy c call base got → InHand P pending server ticket id → Becomes P call c pending server ticket id r
  ends_on base (Took from i row bindings) r sent by hand = by_spared (is_spared (spared pending) (server, ticket)) refl hand
    where
      same : by.pending ≡ pending
      same = same_Some by.pending pending (sym by.pending_is ∙ there)

      was : pending.accepted ≡ Some by.own
      was = sym (ap (λ (x : Pending). x.accepted) same) ∙ by.accepted

      by_spared : (b : Bool) → is_spared (spared pending) (server, ticket) ≡ b → InHand P pending server ticket id → Becomes P call c pending server ticket id r
      by_spared false apart h = inl (subst (λ l. Contains l (server, messages.Cancel ticket)) (sym sent) (cancelled (spared pending) apart))
      by_spared true spares (inl saved) = absurd (spares_none by.own saved was spares)
      by_spared true spares (inr own) = inr (inr (taken_answers by.own row was by.answers own.0 own.1))
  ends_on base (Copied from i row bindings) r sent by hand = inl (subst (λ l. Contains l (server, messages.Cancel ticket)) (sym sent) (cancelled None refl))
  ends_on base Alarm r sent by hand = inl (subst (λ l. Contains l (server, messages.Cancel ticket)) (sym sent) (cancelled None refl))
  ends_on base (Always value) r sent by hand = inl (subst (λ l. Contains l (server, messages.Cancel ticket)) (sym sent) (cancelled None refl))

  becomes_on : (r : Reaction) → Course c call r → InHand P pending server ticket id → Becomes P call c pending server ticket id r
  becomes_on r (rests clock other) hand = stays r there hand
  becomes_on r (hands_on from code detail other) hand = stays r there hand
  becomes_on r (rejects a low other) hand = stays r there hand
  becomes_on r (repeats packets repeated again other) hand = stays r there hand
  becomes_on r (puts row idle number outs) hand = idle_not idle
  becomes_on r (stores from n i row task called) hand = putting_not from n row task
  becomes_on r (commits_at_once event ready called idle is_ready) hand = idle_not idle
  becomes_on r (begins event called idle limits room) hand = idle_not idle
  becomes_on r (saves own a task awaits low fits other) hand =
      inr (inl (record {
        later = record pending { saved = pending.saved ++ a ∷ [] };
        after = ap (λ (x : Pending). Some (record x { saved = x.saved ++ a ∷ [] })) (same_pending own task);
        event = refl;
        first = refl;
        hand = saves_on a hand;
      }))
  becomes_on r (accepts own rest a task turn low input more) hand =
      let same = same_pending own task in
      accepts_on rest a r (ap (λ (x : Pending). Some
      (record { event = x.event; first = x.first; accepted = Some (next_accept c a.server a.ticket a.id); saved = rest })) same)
      (subst (λ x. Turn call x rest a) same turn) hand
  becomes_on r (waits own lost task was called none) hand = by hand
    where
      same : own ≡ pending
      same = same_pending own task

      by : InHand P pending server ticket id → Becomes P call c pending server ticket id r
      by (inl saved) = nowhere saved.arrival (subst (λ l. Contains l saved.arrival) (sym (ap (λ (x : Pending). x.saved) same) ∙ none) saved.there)
      by (inr a) = inr (inr (gone_answers lost (sym (ap (λ (x : Pending). x.accepted) same) ∙ was) called a.0 a.1))
  becomes_on r (commits own clock spares base got task answered is_spares gets by) hand =
      let same = same_pending own task in
      ends_on base got r (ap (λ o. cancels_but (servers c) o own) is_spares ∙ ap (λ (x : Pending). cancels_but (servers c) (spared_for x got) x) same) by hand
  becomes_on r (abandons own task none) hand =
      let same = same_pending own task in
      inl (subst (λ (x : Pending). Contains (cancels_but (servers c) None x) (server, messages.Cancel ticket)) (sym same) (cancelled None refl))
  becomes_on r (gives_up called idle more) hand = idle_not idle
  becomes_on r (leaves_on all from n task called some) hand = leaving_not all task
  becomes_on r (departs all from n task called none) hand = leaving_not all task

-- What becomes of an offer that is in hand, at each call.
pub becomes : (c : Client) (call : Call) (r : Reaction) → IsClient c → react c call ≡ Ok r
    → (pending : Pending) → pending_in c.task ≡ Some pending → (last server ticket id : ℕ) → server < servers c
    → (ask : Ask) → ask_at pending ticket ≡ Some ask → InHand (λ a. last < a.n) pending server ticket id
    → Becomes (λ a. last < a.n) call c pending server ticket id r
becomes c call r is e pending there last server ticket id within ask asked hand =
    becomes_on (λ a. last < a.n) call c pending there server ticket id within ask asked r (course c is call r e) hand
