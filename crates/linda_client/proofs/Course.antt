-- The courses that a call of a client can take. What a call comes to is gone through once, here; each law
-- goes over the courses.
use Rattle.std.proofs.Common.{◌≡◌, ◌≢◌, ℕ, ◌+◌, ◌<◌, ◌≤◌, ◌==◌, ◌||◌, ◌&&◌, max, Bool, true, false, cond, not, nat_lt}
use Rattle.std.proofs.Common.{List, [], ◌∷◌, ◌++◌, length, filter, Contains, ◌⊎◌, inl, inr, refl, sym, ap, ◌∙◌, subst}
use Rattle.std.proofs.Common.{arith, eqb-true, eq-eqb, ltb-false, ltb-true}
use Rattle.std.specs.Prelude.{Option, Some, None, is_some, Ok, IfOk, IfSome, IsSomeAnd, All}
use Rattle.std.specs.List.{list_any}
use Rattle.std.proofs.lemmas.Bool.{false≢true}
use Rattle.std.proofs.lemmas.Option.{none-some, same_Some}
use Rattle.linda_tuple.specs.Tuple.{Tuple}
use Rattle.linda_tuple.specs.Matching.{Matches, is_match}
use Rattle.linda_wire.specs.declared.limits.TheConstants.{NUMBER_LIMIT}
use Rattle.linda_event.specs.Trees.{Tree}
use Rattle.linda_event.specs.Paths.{all_nacks}
use Rattle.linda_event.specs.Limits.{IsWithinLimits, is_too_deep}
use Rattle.linda_wire.specs.declared.message.Message.TheVariants as messages
use Rattle.linda_wire.specs.declared.reply.Reply.{Reply}
use Rattle.linda_wire.specs.declared.reply.Reply.TheVariants as replies
use Rattle.linda_client.specs.declared.arrived_tuple.PendingAccept.{PendingAccept}
use Rattle.linda_client.specs.declared.arrived_tuple.ArrivedTuple.{ArrivedTuple}
use Rattle.linda_client.specs.declared.ask.Alarm.{Alarm}
use Rattle.linda_client.specs.declared.ask.Ask.{Ask}
use Rattle.linda_client.specs.declared.outcome.Got.{Got}
use Rattle.linda_client.specs.declared.outcome.Got.TheVariants as gots
use Rattle.linda_client.specs.declared.outcome.Outcome.TheVariants as outcomes
use Rattle.linda_client.specs.declared.task.Task.{Task}
use Rattle.linda_client.specs.declared.task.Task.TheVariants.{Idle, Putting, Syncing, Leaving, Left}
use Rattle.linda_client.specs.Ask.{asks, first_alarm, first_ready}
use Rattle.linda_client.specs.Pending.{FitsOpen, IsOpenInput, Pending, ask_at, is_answer, is_fit, is_saved}
use Rattle.linda_client.specs.Client.{Client, IsClient, IsPendingOf, IsTaskOf, accepted_in, has_left, is_idle, is_out_of, next_at, pending_in, servers}
use Rattle.linda_client.specs.Packets.{Packet, cancels_but, sent_again, spared, spared_by}
use Rattle.linda_client.specs.Reaction.{Answer, Reaction, commit, finish, hand_on, no_reaction, send}
use Rattle.linda_client.specs.React as spec
use Rattle.linda_client.specs.React.{Call, Out, Sync, Receive, Tick, Resend, Reconnected, Abandon, Leave, ask_servers}
use Rattle.linda_client.specs.React.{leave, leave_on, next_accept, out_server, put, react, unanswered_leaves, used_at}
use Rattle.linda_client.specs.Ending.{BaseGets, GotBy, spared_for}
use Rattle.linda_client.specs.Progress.{IsGone}
use Rattle.linda_client.specs.Uses.{is_repeat}
use Rattle.linda_client.proofs.BaseLaws.{alarm_gets, input_gets, read_gets}
use Rattle.linda_client.proofs.AskLaws.{limits_kept}
use Rattle.linda_client.proofs.ListLaws.{kept_there}
use Rattle.linda_client.proofs.TestLaws.{apart, both, by_test, neither, not_false}

-- The Accept that is unanswered, if there is one, is answered by the call.
abbrev pub AcceptAnswered : Option PendingAccept → Call → Type 0
AcceptAnswered o call = IfSome o (λ own. (call ≡ Receive own.server (replies.Gone own.n))
    ⊎ ((row : Tuple) × (call ≡ Receive own.server (replies.Taken own.n own.id row))))

-- The call does not say that the unanswered Accept's offer is gone.
abbrev pub IsNotGone : Client → Call → Type 0
IsNotGone c call = IsGone (accepted_in c.task) call → ⊥

-- How an offer comes to be accepted: it arrives while no Accept is unanswered, or it is the oldest that is
-- saved, and the accepted one is gone.
pub data Turn (call : Call) (pending : Pending) (rest : List ArrivedTuple) (a : ArrivedTuple) : Type 0 where
  arrives : pending.accepted ≡ None → rest ≡ pending.saved → call ≡ Receive a.server (replies.Offer a.ticket a.id a.tuple) → Turn call pending rest a
  oldest : (own : PendingAccept) → pending.accepted ≡ Some own → pending.saved ≡ a ∷ rest → call ≡ Receive own.server (replies.Gone own.n)
      → Turn call pending rest a

-- The courses of a call.
pub data Course (c : Client) (call : Call) : Reaction → Type 0 where
  rests : (clock : ℕ) → IsNotGone c call → Course c call (no_reaction (record c { clock = clock }))
  hands_on : (server code detail : ℕ) → IsNotGone c call → Course c call (hand_on c server code detail)
  rejects : (a : ArrivedTuple) → a.server < servers c → IsNotGone c call → Course c call (send ((a.server, messages.Cancel a.ticket) ∷ []) c)
  repeats : (packets : List Packet) → is_repeat call ≡ true → ((p : Packet) → Contains packets p → Contains (sent_again c) p)
      → IsNotGone c call → Course c call (send packets c)
  puts : (row : Tuple) → c.task ≡ Idle → next_at c (out_server c) ≢ NUMBER_LIMIT → c.outs + 1 ≢ NUMBER_LIMIT → Course c call (put c (out_server c) row)
  stores : (server n id : ℕ) (row : Tuple) → c.task ≡ Putting server n row → call ≡ Receive server (replies.Stored n id)
      → Course c call (finish c [] (outcomes.Stored server id))
  commits_at_once : (event : Tree) (ready : ℕ × Got) → call ≡ Sync event → c.task ≡ Idle
      → first_ready c.clock event ≡ Some ready → Course c call (commit c event [] ready.0 ready.1)
  begins : (event : Tree) → call ≡ Sync event → c.task ≡ Idle → IsWithinLimits event
      → c.ticket + length (asks event) ≤ NUMBER_LIMIT → Course c call (ask_servers c event)
  saves : (pending : Pending) (a : ArrivedTuple) → c.task ≡ Syncing pending → is_some pending.accepted ≡ true
      → a.server < servers c → FitsOpen pending a → IsNotGone c call
      → Course c call (no_reaction (record c { task = Syncing (record pending { saved = pending.saved ++ a ∷ [] }) }))
  accepts : (pending : Pending) (rest : List ArrivedTuple) (a : ArrivedTuple) → c.task ≡ Syncing pending
      → Turn call pending rest a → a.server < servers c → IsOpenInput pending a.ticket
      → next_at c a.server ≢ NUMBER_LIMIT
      → Course c call (send ((a.server, messages.Accept (next_at c a.server) a.ticket a.id) ∷ [])
      (record c {
        next = used_at c a.server;
        task =
            Syncing (record { event = pending.event; first = pending.first; accepted = Some (next_accept c a.server a.ticket a.id); saved = rest });
      }))
  waits : (pending : Pending) (own : PendingAccept) → c.task ≡ Syncing pending → pending.accepted ≡ Some own
      → call ≡ Receive own.server (replies.Gone own.n) → pending.saved ≡ []
      → Course c call (no_reaction (record c { task = Syncing (record pending { accepted = None }) }))
  commits : (pending : Pending) (clock : ℕ) (own : Option (ℕ × ℕ)) (base : ℕ) (got : Got)
      → c.task ≡ Syncing pending → AcceptAnswered pending.accepted call → own ≡ spared_for pending got
      → BaseGets clock pending.event base got → GotBy c call base got
      → Course c call (commit (record c { clock = clock }) pending.event (cancels_but (servers c) own pending) base got)
  abandons : (pending : Pending) → c.task ≡ Syncing pending → pending.accepted ≡ None
      → Course c call (finish c (cancels_but (servers c) None pending) (outcomes.Dropped (all_nacks pending.event)))
  gives_up : call ≡ Leave → c.task ≡ Idle → list_any (λ n. n == NUMBER_LIMIT) c.next ≡ false → Course c call (leave c)
  leaves_on : (all : List (ℕ × ℕ)) (server n : ℕ) → c.task ≡ Leaving all → call ≡ Receive server (replies.Left n) → 1 ≤ length (unanswered_leaves server n all)
      → Course c call (no_reaction (record c { task = Leaving (unanswered_leaves server n all) }))
  departs : (all : List (ℕ × ℕ)) (server n : ℕ) → c.task ≡ Leaving all → call ≡ Receive server (replies.Left n)
      → unanswered_leaves server n all ≡ [] → Course c call (leave_on c [])

none_of : (o : Option PendingAccept) → is_some o ≡ false → o ≡ None
none_of None e = refl
none_of (Some a) e = cc

pub pending_task : (t : Task) (pending : Pending) → pending_in t ≡ Some pending → t ≡ Syncing pending
pending_task Idle pending e = absurd (none-some pending e)
pending_task (Putting server n row) pending e = absurd (none-some pending e)
pending_task (Syncing own) pending e = ap Syncing (same_Some own pending e)
pending_task (Leaving all) pending e = absurd (none-some pending e)
pending_task Left pending e = absurd (none-some pending e)

idle_task : (t : Task) → has_left t ≡ false → not (is_idle t) ≡ false → t ≡ Idle
idle_task Idle stays e = refl
idle_task (Putting server n row) stays e = cc
idle_task (Syncing pending) stays e = cc
idle_task (Leaving all) stays e = cc
idle_task Left stays e = cc

-- What a pending synchronization of a client is.
pub pending_of : (c : Client) (pending : Pending) → IsClient c → c.task ≡ Syncing pending → IsPendingOf c pending
pending_of c pending is e = subst (IsTaskOf c) e is.task

-- whose offer the call says is gone, if it says so
abbrev gone_by : Call → Option (ℕ × ℕ)
gone_by (Receive server (replies.Gone n)) = Some (server, n)
gone_by _ = None

none_accepted : (t : Task) → pending_in t ≡ None → accepted_in t ≡ None
none_accepted Idle e = refl
none_accepted (Putting server n row) e = refl
none_accepted (Syncing pending) e = absurd (none-some pending (sym e))
none_accepted (Leaving all) e = refl
none_accepted Left e = refl

-- what an answer is, if it is given
abbrev CourseOn : Client → Call → Answer → Type 0
CourseOn c call answer = IfOk answer (Course c call)

module _ (c : Client) (is : IsClient c) where
  nothing_gone : (call : Call) → accepted_in c.task ≡ None → IsNotGone c call
  nothing_gone call none = subst (λ o. IsGone o call → ⊥) (sym none) (λ h. h)

  other : (call : Call) → gone_by call ≡ None → IsNotGone c call
  other call none = by (accepted_in c.task)
    where
      by : (o : Option PendingAccept) → IsGone o call → ⊥
      by None e = e
      by (Some own) e = none-some (own.server, own.n) (sym none ∙ ap gone_by e)

  another_gone : (own : PendingAccept) (server n : ℕ) → accepted_in c.task ≡ Some own → is_answer own server n ≡ false
      → IsNotGone c (Receive server (replies.Gone n))
  another_gone own server n some differing = subst (λ o. IsGone o (Receive server (replies.Gone n)) → ⊥) (sym some) differs
    where
      differs : IsGone (Some own) (Receive server (replies.Gone n)) → ⊥
      differs e =
          let same = same_Some (server, n) (own.server, own.n) (ap gone_by e) in
          let answers : is_answer own server n ≡ true =
          ap (λ b. b && (own.n == n)) (eq-eqb own.server server (sym (ap (λ p. p.0) same))) ∙ eq-eqb own.n n (sym (ap (λ p. p.1) same)) in
          false≢true (sym differing ∙ answers)

  -- a synchronization that awaits nothing, with these arrivals saved
  abbrev free : Pending → List ArrivedTuple → Pending
  free pending rest = record pending { accepted = None; saved = rest }

  taken_up : (call : Call) (pending : Pending) (rest : List ArrivedTuple) (a : ArrivedTuple) (ask : Ask) → c.task ≡ Syncing pending
      → AcceptAnswered pending.accepted call → (ask.remove ≡ true → Turn call pending rest a) → a.server < servers c
      → ask_at pending a.ticket ≡ Some ask → Matches ask.template a.tuple → CourseOn c call (spec.take_up c (free pending rest) a ask)
  taken_up call pending rest a ask task answered turn within there fits =
      by_test (CourseOn c call) ask.remove _ _
      (λ input. by_test (CourseOn c call) (next_at c a.server == NUMBER_LIMIT) _ _ (λ _. tt)
      (λ more. accepts pending rest a task (turn input) within (subst (λ o. IsSomeAnd o (λ x. x.remove ≡ true)) (sym there) input)
      (apart (next_at c a.server) NUMBER_LIMIT more)))
      (λ copy. commits pending c.clock None ask.base (spec.got_by_read ask a) task answered refl
      (read_gets c.clock pending a.ticket ask a.server a.id a.tuple there copy fits) tt)

  strays : (call : Call) (remove : Bool) (a : ArrivedTuple) → a.server < servers c → IsNotGone c call → Course c call (spec.on_stray c remove a)
  strays call true a within other = rejects a within other
  strays call false a within other = rests c.clock other

  arrives_on : (call : Call) (o : Option Pending) (remove : Bool) (a : ArrivedTuple) → pending_in c.task ≡ o
      → a.server < servers c → IsNotGone c call → (remove ≡ true → call ≡ Receive a.server (replies.Offer a.ticket a.id a.tuple))
      → CourseOn c call (spec.on_arrival c o remove a)
  arrives_on call None remove a e within other called = strays call remove a within other
  arrives_on call (Some pending) remove a e within other called = by (ask_at pending a.ticket) refl
    where
      task : c.task ≡ Syncing pending
      task = pending_task c.task pending e

      fit_parts : (b : Bool) (ask : Ask) → is_fit ask b a.tuple ≡ true → (ask.remove ≡ true → b ≡ true) × Matches ask.template a.tuple
      fit_parts true ask fits = (λ _. refl, (both ask.remove (is_match ask.template a.tuple) fits).1)
      fit_parts false ask fits =
          let parts = both (not ask.remove) (is_match ask.template a.tuple) fits in
          (λ input. absurd (false≢true (sym (ap not input) ∙ parts.0)), parts.1)

      by : (o : Option Ask) → ask_at pending a.ticket ≡ o → CourseOn c call (spec.on_arrival_for c pending remove a o)
      by None there = strays call remove a within other
      by (Some ask) there =
          by_test (CourseOn c call) (not (is_fit ask remove a.tuple)) _ _ (λ _. rests c.clock other)
          (λ fits. let parts = fit_parts remove ask (not_false (is_fit ask remove a.tuple) fits) in
          by_test (CourseOn c call) (is_some pending.accepted) _ _
          (λ awaits. by_test (λ d. Course c call (no_reaction d)) (is_saved pending a) _ _ (λ _. rests c.clock other)
          (λ _. saves pending a task awaits within (subst (λ o. IsSomeAnd o (λ x. Matches x.template a.tuple)) (sym there) parts.1) other))
          (λ none. let no = none_of pending.accepted none in
          subst (λ p. CourseOn c call (spec.take_up c p a ask)) (ap (λ o. record pending { accepted = o }) (sym no))
          (taken_up call pending pending.saved a ask task (subst (λ o. AcceptAnswered o call) (sym no) tt)
          (λ input. arrives no refl (called (parts.0 input))) within there parts.1)))

  -- The first alarm that is ready, if there is one, ends a synchronization that awaits nothing.
  rings : (call : Call) (pending : Pending) (clock : ℕ) (o : Option Alarm) → c.task ≡ Syncing pending
      → AcceptAnswered pending.accepted call → first_alarm clock pending.event ≡ o
      → Course c call (no_reaction (record c { clock = clock; task = Syncing (record pending { accepted = None }) }))
      → Course c call (spec.on_alarm (record c { clock = clock }) (record pending { accepted = None }) o)
  rings call pending clock (Some alarm) task answered e rest =
      commits pending clock None alarm.base gots.Alarm task answered refl (alarm_gets clock pending.event alarm e) tt
  rings call pending clock None task answered e rest = rest

  ticks : (now : ℕ) (o : Option Pending) → pending_in c.task ≡ o → Course c (Tick now) (spec.on_time (record c { clock = max c.clock now }) o)
  ticks now None e = rests (max c.clock now) (other (Tick now) refl)
  ticks now (Some pending) e =
      let task = pending_task c.task pending e in
      by_test (Course c (Tick now)) (is_some pending.accepted) _ _ (λ _. rests (max c.clock now) (other (Tick now) refl))
      (λ none. let no = none_of pending.accepted none in
      let same : record pending { accepted = None } ≡ pending = ap (λ o. record pending { accepted = o }) (sym no) in
      subst (λ p. Course c (Tick now) (spec.on_alarm (record c { clock = max c.clock now }) p (first_alarm (max c.clock now) pending.event))) same
      (rings (Tick now) pending (max c.clock now) (first_alarm (max c.clock now) pending.event) task (subst (λ o. AcceptAnswered o (Tick now)) (sym no) tt) refl
      (subst (λ t. Course c (Tick now) (no_reaction (record c { clock = max c.clock now; task = t })))
      (task ∙ ap Syncing (sym same)) (rests (max c.clock now) (other (Tick now) refl)))))

  answers_own : (own : PendingAccept) (server n : ℕ) → is_answer own server n ≡ true → (own.server ≡ server) × (own.n ≡ n)
  answers_own own server n e = let parts = both (own.server == server) (own.n == n) e in (eqb-true own.server server parts.0, eqb-true own.n n parts.1)

  goes : (server n : ℕ) (o : Option Pending) → pending_in c.task ≡ o → CourseOn c (Receive server (replies.Gone n)) (spec.on_gone c o server n)
  goes server n None e = rests c.clock (nothing_gone (Receive server (replies.Gone n)) (none_accepted c.task e))
  goes server n (Some pending) e = own_goes pending.accepted refl
    where
      task : c.task ≡ Syncing pending
      task = pending_task c.task pending e

      saved_goes : (own : PendingAccept) → pending.accepted ≡ Some own
          → Receive server (replies.Gone n) ≡ Receive own.server (replies.Gone own.n) → (saved : List ArrivedTuple) → pending.saved ≡ saved
          → CourseOn c (Receive server (replies.Gone n)) (spec.go_on c pending saved)
      saved_goes own accepted called [] none =
          rings (Receive server (replies.Gone n)) pending c.clock (first_alarm c.clock pending.event) task
          (subst (λ o. AcceptAnswered o (Receive server (replies.Gone n))) (sym accepted) (inl called)) refl
          (waits pending own task accepted called none)
      saved_goes own accepted called (a ∷ rest) more = asked (ask_at pending a.ticket) refl
        where
          of_it : IsPendingOf c pending
          of_it = pending_of c pending is task

          first_fits : FitsOpen pending a
          first_fits = (subst (All (FitsOpen pending)) more of_it.keeps.saved) 0 a (omega arith)

          asked : (o : Option Ask) → ask_at pending a.ticket ≡ o → CourseOn c (Receive server (replies.Gone n)) (spec.on_saved c (free pending rest) a o)
          asked None there = absurd (subst (λ o. IsSomeAnd o (λ x. Matches x.template a.tuple)) there first_fits)
          asked (Some ask) there =
              taken_up (Receive server (replies.Gone n)) pending rest a ask task
              (subst (λ o. AcceptAnswered o (Receive server (replies.Gone n))) (sym accepted) (inl called)) (λ _. oldest own accepted more called)
              ((subst (All (λ (x : ArrivedTuple). x.server < servers c)) more of_it.saved) 0 a (omega arith)) there
              (subst (λ o. IsSomeAnd o (λ x. Matches x.template a.tuple)) there first_fits)

      own_goes : (o : Option PendingAccept) → pending.accepted ≡ o
          → CourseOn c (Receive server (replies.Gone n)) (cond (spec.awaits o server n) (spec.go_on c pending pending.saved) (Ok (no_reaction c)))
      own_goes None none = rests c.clock (nothing_gone (Receive server (replies.Gone n)) (ap accepted_in task ∙ none))
      own_goes (Some own) some =
          by_test (CourseOn c (Receive server (replies.Gone n))) (is_answer own server n) _ _
          (λ answer. let same = answers_own own server n answer in
          saved_goes own some (ap (λ s. Receive s (replies.Gone n)) (sym same.0)
          ∙ ap (λ m. Receive own.server (replies.Gone m)) (sym same.1)) pending.saved refl)
          (λ differing. rests c.clock (another_gone own server n (ap accepted_in task ∙ some) differing))

  takes : (server n id : ℕ) (row : Tuple) (o : Option Pending) → pending_in c.task ≡ o
      → Course c (Receive server (replies.Taken n id row)) (spec.on_taken c o server n id row)
  takes server n id row None e = rests c.clock (other (Receive server (replies.Taken n id row)) refl)
  takes server n id row (Some pending) e = own_takes pending.accepted refl
    where
      task : c.task ≡ Syncing pending
      task = pending_task c.task pending e

      fit_takes : (own : PendingAccept) → pending.accepted ≡ Some own → (is_answer own server n && (own.id == id)) ≡ true
          → (o : Option Ask) → ask_at pending own.ticket ≡ o
          → Course c (Receive server (replies.Taken n id row)) (spec.on_taken_for c pending server id row o)
      fit_takes own some answer None there = rests c.clock (other (Receive server (replies.Taken n id row)) refl)
      fit_takes own some answer (Some ask) there =
          by_test (Course c (Receive server (replies.Taken n id row))) (is_fit ask true row) _ _
          (λ fits. let tests = both (is_answer own server n) (own.id == id) answer in
          let same = answers_own own server n tests.0 in
          let same_id = eqb-true own.id id tests.1 in
          let parts = both ask.remove (is_match ask.template row) fits in
          let called : Receive server (replies.Taken n id row) ≡ Receive own.server (replies.Taken own.n own.id row) =
          ap (λ s. Receive s (replies.Taken n id row)) (sym same.0) ∙ ap (λ m. Receive own.server (replies.Taken m id row)) (sym same.1)
          ∙ ap (λ i. Receive own.server (replies.Taken own.n i row)) (sym same_id) in
          commits pending c.clock (spared pending) ask.base (spec.got_by_input ask server id row) task
          (subst (λ o. AcceptAnswered o (Receive server (replies.Taken n id row))) (sym some) (inr (row, called))) refl
          (input_gets c.clock pending own.ticket ask server id row there parts.0 parts.1)
          (record {
            pending = pending;
            own = own;
            pending_is = ap pending_in task;
            accepted = some;
            answers = called;
            server_is = sym same.0;
            id_is = sym same_id;
            asked = subst (λ o. IsSomeAnd o (λ x. (x.base ≡ ask.base) × (x.remove ≡ true))) (sym there) (refl, parts.0);
          }))
          (λ _. rests c.clock (other (Receive server (replies.Taken n id row)) refl))

      own_takes : (o : Option PendingAccept) → pending.accepted ≡ o
          → Course c (Receive server (replies.Taken n id row)) (spec.on_taken_for c pending server id row (spec.ask_of_taken pending o server n id))
      own_takes None none = rests c.clock (other (Receive server (replies.Taken n id row)) refl)
      own_takes (Some own) some =
          by_test (λ o. Course c (Receive server (replies.Taken n id row)) (spec.on_taken_for c pending server id row o))
          (is_answer own server n && (own.id == id)) _ _
          (λ answer. fit_takes own some answer (ask_at pending own.ticket) refl) (λ _. rests c.clock (other (Receive server (replies.Taken n id row)) refl))

  stored_on : (server n id : ℕ) (t : Task) → c.task ≡ t
      → Course c (Receive server (replies.Stored n id)) (cond (is_out_of t server n) (finish c [] (outcomes.Stored server id)) (no_reaction c))
  stored_on server n id Idle e = rests c.clock (other (Receive server (replies.Stored n id)) refl)
  stored_on server n id (Putting s m row) e =
      by_test (Course c (Receive server (replies.Stored n id))) ((s == server) && (m == n)) _ _
      (λ own. let parts = both (s == server) (m == n) own in
      stores server n id row (e ∙ ap (λ x. Putting x m row) (eqb-true s server parts.0) ∙ ap (λ x. Putting server x row) (eqb-true m n parts.1)) refl)
      (λ _. rests c.clock (other (Receive server (replies.Stored n id)) refl))
  stored_on server n id (Syncing pending) e = rests c.clock (other (Receive server (replies.Stored n id)) refl)
  stored_on server n id (Leaving all) e = rests c.clock (other (Receive server (replies.Stored n id)) refl)
  stored_on server n id Left e = rests c.clock (other (Receive server (replies.Stored n id)) refl)

  left_on : (server n : ℕ) (t : Task) → c.task ≡ t → Course c (Receive server (replies.Left n)) (spec.on_left c t server n)
  left_on server n Idle e = rests c.clock (other (Receive server (replies.Left n)) refl)
  left_on server n (Putting s m row) e = rests c.clock (other (Receive server (replies.Left n)) refl)
  left_on server n (Syncing pending) e = rests c.clock (other (Receive server (replies.Left n)) refl)
  left_on server n (Leaving all) e = by (unanswered_leaves server n all) refl
    where
      by : (l : List (ℕ × ℕ)) → unanswered_leaves server n all ≡ l → Course c (Receive server (replies.Left n)) (leave_on c l)
      by [] none = departs all server n e refl none
      by (p ∷ ps) some =
          let more : 1 ≤ length (unanswered_leaves server n all) = subst (λ l. 1 ≤ length l) (sym some) (omega arith) in
          subst (λ l. Course c (Receive server (replies.Left n)) (no_reaction (record c { task = Leaving l }))) some (leaves_on all server n e refl more)
  left_on server n Left e = rests c.clock (other (Receive server (replies.Left n)) refl)

  replied : (server : ℕ) (reply : Reply) → server < servers c → CourseOn c (Receive server reply) (spec.on_reply c server reply)
  replied server (replies.Welcome last) within = rests c.clock (other (Receive server (replies.Welcome last)) refl)
  replied server (replies.Stored n id) within = stored_on server n id c.task refl
  replied server (replies.Offer ticket id row) within = arrives_on (Receive server (replies.Offer ticket id row)) (pending_in c.task) true
      (record { server = server; ticket = ticket; id = id; tuple = row }) refl within (other (Receive server (replies.Offer ticket id row)) refl) (λ _. refl)
  replied server (replies.Read ticket id row) within = arrives_on (Receive server (replies.Read ticket id row)) (pending_in c.task) false
      (record { server = server; ticket = ticket; id = id; tuple = row }) refl within
      (other (Receive server (replies.Read ticket id row)) refl) (λ no. absurd (false≢true no))
  replied server (replies.Taken n id row) within = takes server n id row (pending_in c.task) refl
  replied server (replies.Gone n) within = goes server n (pending_in c.task) refl
  replied server (replies.Refused code detail) within = hands_on server code detail (other (Receive server (replies.Refused code detail)) refl)
  replied server (replies.Left n) within = left_on server n c.task refl

  begun : (event : Tree) → c.task ≡ Idle → IsWithinLimits event → (o : Option (ℕ × Got))
      → first_ready c.clock event ≡ o → CourseOn c (Sync event) (spec.on_ready c event o)
  begun event idle within (Some ready) e = commits_at_once event ready refl idle e
  begun event idle within None e =
      by_test (CourseOn c (Sync event)) (nat_lt NUMBER_LIMIT (c.ticket + length (asks event))) _ _ (λ _. tt)
      (λ low. begins event refl idle within (ltb-false NUMBER_LIMIT (c.ticket + length (asks event)) low))

  dropped : (o : Option Pending) → pending_in c.task ≡ o → CourseOn c Abandon (spec.on_abandon c o)
  dropped None e = tt
  dropped (Some pending) e =
      by_test (CourseOn c Abandon) (is_some pending.accepted) _ _ (λ _. tt)
      (λ none. let no = none_of pending.accepted none in
      subst (λ own. Course c Abandon (finish c (cancels_but (servers c) own pending) (outcomes.Dropped (all_nacks pending.event))))
      (ap (λ o. spared_by o pending.saved) (sym no))
      (abandons pending (pending_task c.task pending e) no))

  course_on : (call : Call) → CourseOn c call (react c call)
  course_on (Out row) =
      by_test (CourseOn c (Out row)) (has_left c.task) _ _ (λ _. tt)
      (λ stays. by_test (CourseOn c (Out row)) (not (is_idle c.task)) _ _ (λ _. tt)
      (λ busy. by_test (CourseOn c (Out row)) ((next_at c (out_server c) == NUMBER_LIMIT) || (c.outs + 1 == NUMBER_LIMIT)) _ _ (λ _. tt)
      (λ more. let parts = neither (next_at c (out_server c) == NUMBER_LIMIT) (c.outs + 1 == NUMBER_LIMIT) more in
      puts row (idle_task c.task stays busy) (apart (next_at c (out_server c)) NUMBER_LIMIT parts.0) (apart (c.outs + 1) NUMBER_LIMIT parts.1))))
  course_on (Sync event) =
      by_test (CourseOn c (Sync event)) (has_left c.task) _ _ (λ _. tt)
      (λ stays. by_test (CourseOn c (Sync event)) (not (is_idle c.task)) _ _ (λ _. tt)
      (λ busy. by_test (CourseOn c (Sync event)) (is_too_deep event) _ _ (λ _. tt)
      (λ depth. by_test (CourseOn c (Sync event)) (spec.has_too_many event) _ _ (λ _. tt)
      (λ few. begun event (idle_task c.task stays busy) (limits_kept event depth few) (first_ready c.clock event) refl))))
  course_on (Receive server reply) = by_test (CourseOn c (Receive server reply)) (nat_lt server (servers c)) _ _
      (λ low. replied server reply (ltb-true server (servers c) low)) (λ _. tt)
  course_on (Tick now) = ticks now (pending_in c.task) refl
  course_on Resend = repeats (sent_again c) refl (λ p there. there) (other Resend refl)
  course_on (Reconnected server) =
      by_test (CourseOn c (Reconnected server)) (nat_lt server (servers c)) _ _
      (λ _. repeats (filter (λ p. p.0 == server) (sent_again c)) refl
      (λ p there. kept_there (λ (q : Packet). q.0 == server) (sent_again c) p there) (other (Reconnected server) refl)) (λ _. tt)
  course_on Abandon = by_test (CourseOn c Abandon) (has_left c.task) _ _ (λ _. tt) (λ _. dropped (pending_in c.task) refl)
  course_on Leave =
      by_test (CourseOn c Leave) (has_left c.task) _ _ (λ _. tt)
      (λ stays. by_test (CourseOn c Leave) (not (is_idle c.task)) _ _ (λ _. tt)
      (λ busy. by_test (CourseOn c Leave) (list_any (λ n. n == NUMBER_LIMIT) c.next) _ _ (λ _. tt) (λ more. gives_up refl (idle_task c.task stays busy) more)))

  -- Each call that is answered takes a course.
  pub course : (call : Call) (r : Reaction) → react c call ≡ Ok r → Course c call r
  course call r e = subst (CourseOn c call) e (course_on call)
