-- A client that has left stays away.
use Rattle.std.proofs.Common.{◌≡◌, ℕ, ◌≤◌, true, false, List, [], ◌∷◌, ◌++◌, refl, sym, ap, ◌∙◌, subst}
use Rattle.std.specs.Prelude.{Some, None, All, Ok, Err}
use Rattle.std.proofs.lemmas.Bool.{false≢true}
use Rattle.std.proofs.lemmas.Option.{none-some}
use Rattle.std.proofs.lemmas.List.Elements.{All-append, All-cons, All-nil}
use Rattle.linda_client.specs.declared.limits.TheConstants.{MAX_SERVERS}
use Rattle.linda_client.specs.declared.outcome.Outcome.TheVariants as outcomes
use Rattle.linda_client.specs.declared.task.Task.{Task}
use Rattle.linda_client.specs.declared.task.Task.TheVariants.{Idle, Putting, Syncing, Leaving, Left}
use Rattle.linda_client.specs.Client.{Client, IsClient, has_left, pending_in}
use Rattle.linda_client.specs.Packets.{open_asks, sent_again, unanswered}
use Rattle.linda_client.specs.Reaction.{Answer, Reaction}
use Rattle.linda_client.specs.React.{Call, new_client, react}
use Rattle.linda_client.specs.Ending.{IsCancel}
use Rattle.linda_client.specs.History.{Act, act_then, all_sent, history}
use Rattle.linda_client.specs.Leaving.{LeavesForGood, SendsNoMore}
use Rattle.linda_client.proofs.Course.{Course, abandons, accepts, begins, commits, commits_at_once, course, departs}
use Rattle.linda_client.proofs.Course.{gives_up, hands_on, leaves_on, puts, rejects, repeats, rests, saves, stores}
use Rattle.linda_client.proofs.Course.{waits}
use Rattle.linda_client.proofs.ListLaws.{all_there, not_empty, same_first, same_rest}
use Rattle.linda_client.proofs.RangeLaws.{kept, new_is}

left_task : (t : Task) → has_left t ≡ true → t ≡ Left
left_task Idle e = cc
left_task (Putting server n row) e = cc
left_task (Syncing pending) e = cc
left_task (Leaving all) e = cc
left_task Left e = refl

module _ (c : Client) (r : Reaction) where
  -- nothing ends, and the client has left if it had
  same_leave : has_left r.client.task ≡ has_left c.task → r.outcome ≡ None → (has_left c.task ≡ true → All IsCancel r.packets) → LeavesForGood c r
  same_leave same none only = record {
    stays = λ left. record { left = same ∙ left; silent = none; only = only left };
    outcome = ((λ e. absurd (none-some outcomes.Left (sym none ∙ e))), (λ h. absurd (false≢true (sym h.0 ∙ sym same ∙ h.1))));
  }

  -- the client has not left, and does not leave
  not_left : (t : Task) → c.task ≡ t → has_left t ≡ false → has_left r.client.task ≡ false → (r.outcome ≡ Some outcomes.Left → ⊥) → LeavesForGood c r
  not_left t was stays after other = record {
    stays = λ left. absurd (false≢true (sym (ap has_left was ∙ stays) ∙ left));
    outcome = ((λ e. absurd (other e)), (λ h. absurd (false≢true (sym after ∙ h.1))));
  }

again_none : (c : Client) → has_left c.task ≡ true → All IsCancel (sent_again c)
again_none c left = subst (λ t. All IsCancel (unanswered t ++ open_asks c (pending_in t))) (sym (left_task c.task left)) (All-nil IsCancel)

leaves_course : (c : Client) (call : Call) (r : Reaction) → Course c call r → LeavesForGood c r
leaves_course c call r (rests clock other) = same_leave c r refl refl (λ _. All-nil IsCancel)
leaves_course c call r (hands_on server code detail other) = same_leave c r refl refl (λ _. All-nil IsCancel)
leaves_course c call r (rejects a within other) = same_leave c r refl refl (λ _. All-cons IsCancel _ [] tt (All-nil IsCancel))
leaves_course c call r (repeats packets repeated there other) =
    same_leave c r refl refl (λ left. all_there IsCancel packets (sent_again c) there (again_none c left))
leaves_course c call r (puts row idle number outs) = not_left c r Idle idle refl refl (λ e. none-some outcomes.Left e)
leaves_course c call r (stores server n id row task called) = not_left c r (Putting server n row) task refl refl (λ e. cc)
leaves_course c call r (commits_at_once event ready called idle is_ready) = not_left c r Idle idle refl refl (λ e. cc)
leaves_course c call r (begins event called idle within room) = not_left c r Idle idle refl refl (λ e. none-some outcomes.Left e)
leaves_course c call r (saves pending a task awaits within fits other) = not_left c r (Syncing pending) task refl refl (λ e. none-some outcomes.Left e)
leaves_course c call r (accepts pending rest a task turn within input more) = not_left c r (Syncing pending) task refl refl (λ e. none-some outcomes.Left e)
leaves_course c call r (waits pending own task accepted called none) = not_left c r (Syncing pending) task refl refl (λ e. none-some outcomes.Left e)
leaves_course c call r (commits pending clock own base got task answered spares gets by) = not_left c r (Syncing pending) task refl refl (λ e. cc)
leaves_course c call r (abandons pending task none) = not_left c r (Syncing pending) task refl refl (λ e. cc)
leaves_course c call r (gives_up called idle more) = not_left c r Idle idle refl refl (λ e. none-some outcomes.Left e)
leaves_course c call r (leaves_on all server n task called some) = not_left c r (Leaving all) task refl refl (λ e. none-some outcomes.Left e)
leaves_course c call r (departs all server n task called none) = record {
  stays = λ left. absurd (false≢true (sym (ap has_left task) ∙ left));
  outcome = ((λ _. (ap has_left task, refl)), (λ _. refl));
}

-- A client leaves for good.
pub leaves_good : (c : Client) (call : Call) (r : Reaction) → IsClient c → react c call ≡ Ok r → LeavesForGood c r
leaves_good c call r is e = leaves_course c call r (course c is call r e)

-- A client that has left sends only Cancels.
away_from : (calls : List Call) (c : Client) → IsClient c → has_left c.task ≡ true → All IsCancel (all_sent (history c calls))
away_from [] c is left = All-nil IsCancel
away_from (call ∷ calls) c is left = by (react c call) refl (λ d is_d h. away_from calls d is_d h)
  where
    by : (answer : Answer) → react c call ≡ answer → ((d : Client) → IsClient d → has_left d.task ≡ true → All IsCancel (all_sent (history d calls)))
        → All IsCancel (all_sent (act_then c call answer (λ d. history d calls)))
    by (Err fault) e later = later c is left
    by (Ok r) e later =
        let away = (leaves_good c call r is e).stays left in
        All-append IsCancel r.packets (all_sent (history r.client calls)) away.only (later r.client (kept c call r is e) away.left)

no_more_from : (calls : List Call) (c : Client) → IsClient c → SendsNoMore (history c calls)
no_more_from [] c is before later act parts left = absurd (not_empty before act later parts)
no_more_from (call ∷ calls) c is before later act parts left = by (react c call) refl parts (λ d is_d front g. no_more_from calls d is_d front later act g left)
  where
    by : (answer : Answer) → react c call ≡ answer → act_then c call answer (λ d. history d calls) ≡ before ++ act ∷ later
        → ((d : Client) → IsClient d → (front : List Act) → history d calls ≡ front ++ act ∷ later → All IsCancel (all_sent later))
        → All IsCancel (all_sent later)
    by (Err fault) e f next = next c is before f
    by (Ok r) e f next = at before f
      where
        first : Act
        first = record { call = call; reaction = r }

        at : (xs : List Act) → first ∷ history r.client calls ≡ xs ++ act ∷ later → All IsCancel (all_sent later)
        at [] g =
            let same : first ≡ act = same_first first act (history r.client calls) later g in
            let told : r.outcome ≡ Some outcomes.Left = ap (λ (x : Act). x.reaction.outcome) same ∙ left in
            let gone = ((leaves_good c call r is e).outcome.0 told).1 in
            subst (λ l. All IsCancel (all_sent l)) (same_rest first act (history r.client calls) later g) (away_from calls r.client (kept c call r is e) gone)
        at (x ∷ xs) g = next r.client (kept c call r is e) xs (same_rest first x (history r.client calls) (xs ++ act ∷ later) g)

-- After it has left, a client sends only Cancels.
pub sends_no_more : (number count : ℕ) (calls : List Call) → 1 ≤ count → count ≤ MAX_SERVERS → SendsNoMore (history (new_client number count) calls)
sends_no_more number count calls low high = no_more_from calls (new_client number count) (new_is number count low high)
