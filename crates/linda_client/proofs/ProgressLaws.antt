-- How what is pending goes on at each call.
use Rattle.std.proofs.Common.{◌≡◌, ℕ, List, [], ◌∷◌, ◌++◌, append-nil, ◌↔◌, Contains, ◌⊎◌, inl, inr, drop, refl, sym, ap, ◌∙◌, subst}
use Rattle.std.specs.Prelude.{Option, Some, None, Ok, option_map, slice_get}
use Rattle.linda_wire.specs.declared.message.Message.TheVariants as messages
use Rattle.linda_client.specs.declared.arrived_tuple.ArrivedTuple.{ArrivedTuple}
use Rattle.linda_client.specs.declared.task.Task.{Task}
use Rattle.linda_client.specs.declared.task.Task.TheVariants.{Idle, Putting, Syncing, Leaving}
use Rattle.linda_client.specs.Pending.{Pending}
use Rattle.linda_client.specs.Client.{Client, IsClient, accepted_in, pending_in, servers}
use Rattle.linda_client.specs.Packets.{cancels_but}
use Rattle.linda_client.specs.Reaction.{Reaction}
use Rattle.linda_client.specs.React.{Call, react}
use Rattle.linda_client.specs.Ending.{EndsSync, IsDue}
use Rattle.linda_client.specs.Progress.{AcceptsOffer, GoesOn, IsGone, KeepsAccept, LosesOffer, accept_of}
use Rattle.linda_client.proofs.BaseLaws.{ready_gets}
use Rattle.linda_client.proofs.CancelLaws.{cancels_exactly, only_cancels}
use Rattle.linda_client.proofs.Course.{Course, IsNotGone, Turn, abandons, accepts, arrives, begins, commits}
use Rattle.linda_client.proofs.Course.{commits_at_once, course, departs, gives_up, hands_on, leaves_on, oldest}
use Rattle.linda_client.proofs.Course.{pending_task, puts, rejects, repeats, rests, saves, stores, waits}

silent_end : (r : Reaction) → r.outcome ≡ None → EndsSync r.outcome → ⊥
silent_end r none e = subst EndsSync none e

module _ (c : Client) (call : Call) where
  waits_of : (pending : Pending) → c.task ≡ Syncing pending → IsNotGone c call → IsGone pending.accepted call → ⊥
  waits_of pending task other = subst (λ t. IsGone (accepted_in t) call → ⊥) task other

  -- what is pending is as before
  unmoved : (r : Reaction) → r.client.task ≡ c.task → r.client.ticket ≡ c.ticket → r.outcome ≡ None → IsNotGone c call → GoesOn c call (pending_in c.task) r
  unmoved r same ticket none other = by (pending_in c.task) refl (ap pending_in same)
    where
      by : (o : Option Pending) → pending_in c.task ≡ o → pending_in r.client.task ≡ o → GoesOn c call o r
      by None is_it after = inl (ticket, inl (record { after = after; silent = silent_end r none }))
      by (Some pending) is_it after = (
        ticket,
        inr (record {
          later = pending;
          after = after;
          event = refl;
          first = refl;
          silent = none;
          offers =
              inl (record {
                waits = waits_of pending (pending_task c.task pending is_it) other;
                accepted =
                    refl;
                more = [];
                saved = sym (append-nil pending.saved);
              });
        }),
      )

  -- what goes on from a task goes on from the client's, which is that task
  from_task : (t : Task) (r : Reaction) → c.task ≡ t → GoesOn c call (pending_in t) r → GoesOn c call (pending_in c.task) r
  from_task t r e h = subst (λ o. GoesOn c call o r) (sym (ap pending_in e)) h

  moved_by : (pending : Pending) (rest : List ArrivedTuple) (a : ArrivedTuple) (later : Pending) → Turn call pending rest a
      → later.accepted ≡ Some (accept_of c a) → later.saved ≡ rest
      → KeepsAccept call pending later ⊎ (AcceptsOffer c call pending later ⊎ LosesOffer c call pending later)
  moved_by pending rest a later (arrives none saved called) accepted now =
      inr (inl (record { free = none; offer = a; comes = called; accepted = accepted; saved = now ∙ saved }))
  moved_by pending rest a later (oldest own was saved called) accepted now = inr (inr (record {
    own = own;
    before = was;
    comes = called;
    accepted = accepted ∙ sym (ap (λ l. option_map (accept_of c) (slice_get l 0)) saved);
    saved = now ∙ sym (ap (drop 1) saved);
  }))

  goes_on : (r : Reaction) → Course c call r → GoesOn c call (pending_in c.task) r
  goes_on r (rests clock other) = unmoved r refl refl refl other
  goes_on r (hands_on server code detail other) = unmoved r refl refl refl other
  goes_on r (rejects a within other) = unmoved r refl refl refl other
  goes_on r (repeats packets repeated there other) = unmoved r refl refl refl other
  goes_on r (puts row idle number outs) = from_task Idle r idle (inl (refl, inl (record { after = refl; silent = λ e. e })))
  goes_on r (stores server n id row task called) = from_task (Putting server n row) r task (inl (refl, inl (record { after = refl; silent = λ e. e })))
  goes_on r (commits_at_once event ready called idle is_ready) =
      from_task Idle r idle (inl (
        refl,
        inr (record {
          event = event;
          called = called;
          idle = refl;
          ends =
              record { gets = (ready_gets c.clock event ready is_ready).0; labels_are = refl; raised_are = refl };
          silent = refl;
        }),
      ))
  goes_on r (begins event called idle within room) =
      from_task Idle r idle (inr (record { event = event; called = called; after = refl; packets = refl; ticket = refl; silent = refl }))
  goes_on r (saves pending a task awaits within fits other) =
      from_task (Syncing pending) r task (
        refl,
        inr (record {
          later = record pending { saved = pending.saved ++ a ∷ [] };
          after = refl;
          event = refl;
          first = refl;
          silent = refl;
          offers = inl (record { waits = waits_of pending task other; accepted = refl; more = a ∷ []; saved = refl });
        }),
      )
  goes_on r (accepts pending rest a task turn within input more) =
      from_task (Syncing pending) r task (
        refl,
        inr (record {
          later = record { event = pending.event; first = pending.first; accepted = Some (accept_of c a); saved = rest };
          after = refl;
          event = refl;
          first = refl;
          silent = refl;
          offers = moved_by pending rest a
              (record { event = pending.event; first = pending.first; accepted = Some (accept_of c a); saved = rest }) turn refl refl;
        }),
      )
  goes_on r (waits pending own task accepted called none) =
      from_task (Syncing pending) r task (
        refl,
        inr (record {
          later = record pending { accepted = None };
          after = refl;
          event = refl;
          first = refl;
          silent = refl;
          offers = inr (inr (record {
            own = own;
            before = accepted;
            comes = called;
            accepted =
                sym (ap (λ l. option_map (accept_of c) (slice_get l 0)) none);
            saved = none ∙ sym (ap (drop 1) none);
          }));
        }),
      )
  goes_on r (commits pending clock own base got task answered spares gets by) =
      from_task (Syncing pending) r task (
        refl,
        inl (record {
          idle = refl;
          ends = record { gets = gets; labels_are = refl; raised_are = refl };
          cancels = subst (λ o. (s k : ℕ)
              → Contains (cancels_but (servers c) own pending) (s, messages.Cancel k) ↔ IsDue (servers c) pending o s k) spares
              (cancels_exactly (servers c) own pending);
          only = only_cancels (servers c) own pending;
        }),
      )
  goes_on r (abandons pending task none) =
      from_task (Syncing pending) r task
      (refl, inl (record { idle = refl; ends = refl; cancels = cancels_exactly (servers c) None pending; only = only_cancels (servers c) None pending }))
  goes_on r (gives_up called idle more) = from_task Idle r idle (inl (refl, inl (record { after = refl; silent = λ e. e })))
  goes_on r (leaves_on all server n task called some) = from_task (Leaving all) r task (inl (refl, inl (record { after = refl; silent = λ e. e })))
  goes_on r (departs all server n task called none) = from_task (Leaving all) r task (inl (refl, inl (record { after = refl; silent = λ e. e })))

-- How what is pending goes on at each call.
pub goes : (c : Client) (call : Call) (r : Reaction) → IsClient c → react c call ≡ Ok r → GoesOn c call (pending_in c.task) r
goes c call r is e = goes_on c call r (course c is call r e)
