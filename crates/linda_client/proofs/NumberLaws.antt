-- How numbered messages go on at each call.
use Rattle.std.proofs.Common.{◌≡◌, ◌≢◌, ℕ, ◌+◌, ◌<◌, List, [], ◌∷◌, get_or, length, map, Contains, ◌⊎◌, inl, inr, refl, sym, ap, ◌∙◌, subst, arith}
use Rattle.std.specs.Prelude.{Option, Some, None, All, IsSome, Ok, option_to_list}
use Rattle.std.specs.List.{enumerate_from}
use Rattle.std.proofs.lemmas.Bool.{cases_eq, cases_lt, false≢true}
use Rattle.std.proofs.lemmas.List.{get_or-set_other, get_or_past, length-map}
use Rattle.std.proofs.lemmas.List.Elements.{All-append, All-cons, All-contains, All-contains_itself, All-nil, All-weaker}
use Rattle.linda_wire.specs.declared.message.Message.{Message}
use Rattle.linda_wire.specs.declared.message.Message.TheVariants as messages
use Rattle.linda_wire.specs.declared.reply.Reply.TheVariants as replies
use Rattle.linda_client.specs.declared.arrived_tuple.PendingAccept.{PendingAccept}
use Rattle.linda_client.specs.declared.arrived_tuple.ArrivedTuple.{ArrivedTuple}
use Rattle.linda_client.specs.declared.task.Task.TheVariants.{Idle, Syncing, Leaving}
use Rattle.linda_client.specs.Pending.{Pending}
use Rattle.linda_client.specs.Client.{Client, IsClient, next_at, pending_in, servers}
use Rattle.linda_client.specs.Packets.{Packet, accept_packet, ask_packets, cancels_but, leave_packets, open_asks, sent_again, unanswered}
use Rattle.linda_client.specs.Reaction.{Reaction}
use Rattle.linda_client.specs.React.{Call, Leave, Receive, leave, new_pending, out_server, react, unanswered_leaves, used_at}
use Rattle.linda_client.specs.Ending.{IsCancel}
use Rattle.linda_client.specs.Numbers.{IsAnswerTo, NumbersGoOn, UsesNoNumber, UsesNumber, number_of}
use Rattle.linda_client.proofs.CancelLaws.{only_cancels}
use Rattle.linda_client.proofs.Course.{AcceptAnswered, Course, Turn, abandons, accepts, arrives, begins, commits}
use Rattle.linda_client.proofs.Course.{commits_at_once, course, departs, gives_up, hands_on, leaves_on, oldest, puts}
use Rattle.linda_client.proofs.Course.{rejects, repeats, rests, saves, stores, waits}
use Rattle.linda_client.proofs.LeaveLaws.{all_leaves, leave_there, left_or_answered, left_there, next_after}
use Rattle.linda_client.proofs.ListLaws.{all_there, nowhere, only_one}
use Rattle.linda_client.proofs.PacketLaws.{all_asks}
use Rattle.linda_client.proofs.RangeLaws.{out_within, used_below}

-- what has a number is what no server has answered
abbrev IsAgain : Client → Packet → Type 0
IsAgain c p = IsSome (number_of p.1) → Contains (unanswered c.task) p

cancel_again : (c : Client) (p : Packet) → IsCancel p → IsAgain c p
cancel_again c (s, messages.Hello version client fresh) is = absurd is
cancel_again c (s, messages.Out n row) is = absurd is
cancel_again c (s, messages.Ask ticket remove template) is = absurd is
cancel_again c (s, messages.Accept n ticket id) is = absurd is
cancel_again c (s, messages.Cancel ticket) is = λ some. absurd (false≢true some)
cancel_again c (s, messages.Leave n) is = absurd is

-- The next number of a server stays if a number of another server is used.
pub others_stay : (c : Client) (s server : ℕ) → server ≢ s → get_or (used_at c s) server 0 ≡ next_at c server
others_stay c s server other = get_or-set_other c.next s server (next_at c s + 1) 0 other

module _ (c : Client) (call : Call) where
  -- what is unanswered is answered by the call
  abbrev AllAnswered : Type 0
  AllAnswered = All (λ p. IsAnswerTo p call) (unanswered c.task)

  cancels_again : (own : Option (ℕ × ℕ)) (pending : Pending) → All (IsAgain c) (cancels_but (servers c) own pending)
  cancels_again own pending = All-weaker IsCancel (IsAgain c) (cancel_again c) (cancels_but (servers c) own pending) (only_cancels (servers c) own pending)

  asks_again : (pending : Pending) → All (IsAgain c) (ask_packets (servers c) pending)
  asks_again pending = all_asks (IsAgain c) (servers c) pending (λ s k ask within there some. absurd (false≢true some))

  own_again : All (IsAgain c) (unanswered c.task)
  own_again = All-weaker (Contains (unanswered c.task)) (IsAgain c) (λ p there some. there) (unanswered c.task) (All-contains_itself (unanswered c.task))

  open_again : (o : Option Pending) → All (IsAgain c) (open_asks c o)
  open_again None = All-nil (IsAgain c)
  open_again (Some pending) = asks_again pending

  all_again : All (IsAgain c) (sent_again c)
  all_again = All-append (IsAgain c) (unanswered c.task) (open_asks c (pending_in c.task)) own_again (open_again (pending_in c.task))

  -- No number is used, and each unanswered message stays or is answered.
  no_number : (r : Reaction) → r.client.next ≡ c.next → All (IsAgain c) r.packets → All (Contains (unanswered c.task)) (unanswered r.client.task)
      → All (λ p. Contains (unanswered r.client.task) p ⊎ IsAnswerTo p call) (unanswered c.task) → NumbersGoOn c call r
  no_number r next again old stays s = inl (record {
    next = ap (λ xs. get_or xs s 0) next;
    again = λ m there. All-contains (IsAgain c) r.packets (s, m) again there;
    old = λ m here. All-contains (Contains (unanswered c.task)) (unanswered r.client.task) (s, m) old here;
    stays = λ m here. All-contains (λ p. Contains (unanswered r.client.task) p ⊎ IsAnswerTo p call) (unanswered c.task) (s, m) stays here;
  })

  -- What is unanswered is as before.
  same_number : (r : Reaction) → r.client.next ≡ c.next → All (IsAgain c) r.packets → unanswered r.client.task ≡ unanswered c.task → NumbersGoOn c call r
  same_number r next again same =
      no_number r next again (subst (All (Contains (unanswered c.task))) (sym same) (All-contains_itself (unanswered c.task)))
      (All-weaker (Contains (unanswered c.task)) (λ p. Contains (unanswered r.client.task) p ⊎ IsAnswerTo p call)
      (λ p there. inl (subst (λ l. Contains l p) (sym same) there)) (unanswered c.task)
      (All-contains_itself (unanswered c.task)))

  -- What was unanswered is answered, and nothing is unanswered.
  then_none : (r : Reaction) → r.client.next ≡ c.next → All (IsAgain c) r.packets → unanswered r.client.task ≡ [] → AllAnswered → NumbersGoOn c call r
  then_none r next again none answered =
      no_number r next again (subst (All (Contains (unanswered c.task))) (sym none) (All-nil (Contains (unanswered c.task))))
      (All-weaker (λ p. IsAnswerTo p call) (λ p. Contains (unanswered r.client.task) p ⊎ IsAnswerTo p call) (λ p h. inr h) (unanswered c.task) answered)

  idle_answered : c.task ≡ Idle → AllAnswered
  idle_answered idle = subst (λ t. All (λ p. IsAnswerTo p call) (unanswered t)) (sym idle) (All-nil (λ p. IsAnswerTo p call))

  answered_of : (pending : Pending) → c.task ≡ Syncing pending → AcceptAnswered pending.accepted call → AllAnswered
  answered_of pending task h = subst (λ t. All (λ p. IsAnswerTo p call) (unanswered t)) (sym task) (by pending.accepted h)
    where
      by : (o : Option PendingAccept) → AcceptAnswered o call → All (λ p. IsAnswerTo p call) (option_to_list (accept_packet o))
      by None h = All-nil (λ p. IsAnswerTo p call)
      by (Some own) h = All-cons (λ p. IsAnswerTo p call) (own.server, messages.Accept own.n own.ticket own.id) [] h (All-nil (λ p. IsAnswerTo p call))

  turn_answered : (pending : Pending) (rest : List ArrivedTuple) (a : ArrivedTuple) → Turn call pending rest a → AcceptAnswered pending.accepted call
  turn_answered pending rest a (arrives none saved called) = subst (λ o. AcceptAnswered o call) (sym none) tt
  turn_answered pending rest a (oldest own accepted saved called) = subst (λ o. AcceptAnswered o call) (sym accepted) (inl called)

  -- Only one message is sent, a numbered one under the next number of its server, and it is the only one that is unanswered.
  module _ (r : Reaction) (s : ℕ) (m : Message) (within : s < servers c) (number : number_of m ≡ Some (next_at c s))
      (sent : r.packets ≡ (s, m) ∷ []) (next : r.client.next ≡ used_at c s)
      (now : unanswered r.client.task ≡ (s, m) ∷ []) (answered : AllAnswered) where
    abbrev this : Packet
    this = (s, m)

    one_there : Contains (this ∷ []) this
    one_there = (0, omega arith, refl)

    only : (ps : List Packet) → ps ≡ this ∷ [] → (p : Packet) → Contains ps p → this ≡ p
    only ps same p there = only_one this p (subst (λ l. Contains l p) same there)

    elsewhere : (t : ℕ) → t ≢ s → UsesNoNumber c call r t
    elsewhere t other = record {
      next = ap (λ xs. get_or xs t 0) next ∙ others_stay c s t other;
      again = λ k there some. absurd (other (sym (ap (λ p. p.0) (only r.packets sent (t, k) there))));
      old = λ k here. absurd (other (sym (ap (λ p. p.0) (only (unanswered r.client.task) now (t, k) here))));
      stays = λ k here. inr (All-contains (λ p. IsAnswerTo p call) (unanswered c.task) (t, k) answered here);
    }

    one_number : NumbersGoOn c call r
    one_number t = elim (cases_eq t s) [
      | inl same ↦ subst (λ u. UsesNoNumber c call r u ⊎ ((k : Message) × UsesNumber c call r u k)) (sym same) (inr (
        m,
        record {
          sent = subst (λ l. Contains l (s, m)) (sym sent) one_there;
          own = λ k there. sym (ap (λ p. p.1) (only r.packets sent (s, k) there));
          fresh = subst (All (λ (p : Packet). number_of p.1 ≡ Some (next_at c p.0))) (sym sent)
              (All-cons (λ (p : Packet). number_of p.1 ≡ Some (next_at c p.0)) (s, m) [] number
              (All-nil (λ (p : Packet). number_of p.1 ≡ Some (next_at c p.0))));
          alone = λ _. sent;
          within = within;
          number = number;
          next = ap (λ xs. get_or xs s 0) next ∙ used_below c s within;
          answered = answered;
          unanswered_is = now ∙ sym sent;
        },
      ))
      | inr apart ↦ inl (elsewhere t apart)
    ]

  -- A Leave goes to each server, under its next number.
  module _ (called : call ≡ Leave) (idle : c.task ≡ Idle) where
    abbrev sends : List Packet
    sends = leave_packets (enumerate_from 0 c.next)

    own_leave : (s : ℕ) (k : Message) → Contains sends (s, k) → k ≡ messages.Leave (next_at c s)
    own_leave s k there = All-contains (λ (p : Packet). p.1 ≡ messages.Leave (next_at c p.0)) sends
        (s, k) (all_leaves (λ (p : Packet). p.1 ≡ messages.Leave (next_at c p.0)) c (λ t within. refl)) there

    leave_within : (s : ℕ) (k : Message) → Contains sends (s, k) → s < servers c
    leave_within s k there = All-contains (λ (p : Packet). p.0 < servers c) sends (s, k)
        (all_leaves (λ (p : Packet). p.0 < servers c) c (λ t within. within)) there

    none_before : {A : Type 0} (s : ℕ) (k : Message) → Contains (unanswered c.task) (s, k) → A
    none_before s k here = nowhere (s, k) (subst (λ t. Contains (unanswered t) (s, k)) idle here)

    leave_number : NumbersGoOn c call (leave c)
    leave_number s = elim (cases_lt s (servers c)) [
      | inl within ↦ inr (
        messages.Leave (next_at c s),
        record {
          sent = leave_there c s within;
          own = λ k there. own_leave s k there;
          fresh = all_leaves (λ (p : Packet). number_of p.1 ≡ Some (next_at c p.0)) c (λ t low. refl);
          alone = λ other. absurd (other called);
          within = within;
          number = refl;
          next = next_after c s within;
          answered = idle_answered idle;
          unanswered_is = refl;
        },
      )
      | inr past ↦ inl (record {
        next = get_or_past (leave c).client.next s 0 (let same : length (map (λ n. n + 1) c.next) ≡ length c.next =
            length-map c.next (λ n. n + 1) in omega arith) ∙ sym (get_or_past c.next s 0 past);
        again = λ k there some. let within = leave_within s k there in absurd (omega arith);
        old = λ k here. let within = leave_within s k here in absurd (omega arith);
        stays = λ k here. none_before s k here;
      })
    ]

  -- Leaves are answered in part, and then all.
  leaves_number : (all : List (ℕ × ℕ)) (server n : ℕ) → c.task ≡ Leaving all → call ≡ Receive server (replies.Left n)
      → (r : Reaction) → r.client.next ≡ c.next → r.packets ≡ []
      → unanswered r.client.task ≡ leave_packets (unanswered_leaves server n all) → NumbersGoOn c call r
  leaves_number all server n task called r next silent now =
      no_number r next (subst (All (IsAgain c)) (sym silent) (All-nil (IsAgain c)))
      (subst (λ l. All (Contains l) (unanswered r.client.task)) (sym was) (subst (All (Contains (leave_packets all))) (sym now) (left_there all server n)))
      (subst (All (λ p. Contains (unanswered r.client.task) p ⊎ IsAnswerTo p call)) (sym was)
      (subst (λ l. All (λ p. Contains l p ⊎ IsAnswerTo p call) (leave_packets all)) (sym now) (left_or_answered call server n called all)))
    where
      was : unanswered c.task ≡ leave_packets all
      was = ap unanswered task

  numbers_on : IsClient c → (r : Reaction) → Course c call r → NumbersGoOn c call r
  numbers_on is r (rests clock other) = same_number r refl (All-nil (IsAgain c)) refl
  numbers_on is r (hands_on server code detail other) = same_number r refl (All-nil (IsAgain c)) refl
  numbers_on is r (rejects a within other) = same_number r refl (All-cons (IsAgain c) _ [] (λ some. absurd (false≢true some)) (All-nil (IsAgain c))) refl
  numbers_on is r (repeats packets repeated there other) = same_number r refl (all_there (IsAgain c) packets (sent_again c) there all_again) refl
  numbers_on is r (puts row idle number outs) =
      one_number r (out_server c) (messages.Out (next_at c (out_server c)) row) (out_within c is) refl refl refl refl (idle_answered idle)
  numbers_on is r (stores server n id row task called) =
      then_none r refl (All-nil (IsAgain c)) refl
      (subst (λ t. All (λ p. IsAnswerTo p call) (unanswered t)) (sym task)
      (All-cons (λ p. IsAnswerTo p call) (server, messages.Out n row) [] (id, called) (All-nil (λ p. IsAnswerTo p call))))
  numbers_on is r (commits_at_once event ready called idle is_ready) = same_number r refl (All-nil (IsAgain c)) (sym (ap unanswered idle))
  numbers_on is r (begins event called idle within room) = same_number r refl (asks_again (new_pending c event)) (sym (ap unanswered idle))
  numbers_on is r (saves pending a task awaits within fits other) = same_number r refl (All-nil (IsAgain c)) (sym (ap unanswered task))
  numbers_on is r (accepts pending rest a task turn within input more) =
      one_number r a.server (messages.Accept (next_at c a.server) a.ticket a.id) within refl refl refl refl
      (answered_of pending task (turn_answered pending rest a turn))
  numbers_on is r (waits pending own task accepted called none) =
      then_none r refl (All-nil (IsAgain c)) refl (answered_of pending task (subst (λ o. AcceptAnswered o call) (sym accepted) (inl called)))
  numbers_on is r (commits pending clock own base got task answered spares gets by) =
      then_none r refl (cancels_again own pending) refl (answered_of pending task answered)
  numbers_on is r (abandons pending task none) = then_none r refl (cancels_again None pending) refl
      (answered_of pending task (subst (λ o. AcceptAnswered o call) (sym none) tt))
  numbers_on is r (gives_up called idle more) = leave_number called idle
  numbers_on is r (leaves_on all server n task called some) = leaves_number all server n task called r refl refl refl
  numbers_on is r (departs all server n task called none) = leaves_number all server n task called r refl refl (sym (ap leave_packets none))

-- How numbers go on at each call.
pub numbers_go : (c : Client) (call : Call) (r : Reaction) → IsClient c → react c call ≡ Ok r → NumbersGoOn c call r
numbers_go c call r is e = numbers_on c call is r (course c is call r e)
