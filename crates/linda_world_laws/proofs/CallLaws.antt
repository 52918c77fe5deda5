-- What a call of a client leaves true of what it sent and asked before, and what is true of what it sends and is given now.
use Rattle.std.proofs.Common.{◌≡◌, ℕ, ◌+◌, ◌-◌, ◌<◌, ◌≤◌, Bool, true, false, cond, List, [], All, Contains}
use Rattle.std.proofs.Common.{option_to_list, ◌⊎◌, inl, inr, refl, sym, ap, ◌∙◌, subst, arith, slice_get, ltb-true}
use Rattle.std.proofs.Common.{ltb-false}
use Rattle.std.specs.Prelude.{Option, Some, None, is_some, Ok, Err, IfSome, IsSomeAnd, nat_lt}
use Rattle.std.proofs.lemmas.Option.{none-some, same_Some, slice_get_within}
use Rattle.std.proofs.lemmas.List.Elements.{All-contains, All-get_or, All-nil, All-cons, All-map, All-weaker, Contains-push}
use Rattle.linda_wire.specs.declared.limits.TheConstants.{NUMBER_LIMIT}
use Rattle.linda_tuple.specs.Tuple.{Tuple}
use Rattle.linda_wire.specs.declared.message.Message.{Message}
use Rattle.linda_wire.specs.declared.message.Message.TheVariants as messages
use Rattle.linda_wire.specs.declared.reply.Reply.{Reply}
use Rattle.linda_wire.specs.declared.reply.Reply.TheVariants as replies
use Rattle.linda_client.specs.declared.arrived_tuple.PendingAccept.{PendingAccept}
use Rattle.linda_client.specs.declared.ask.Ask.{Ask}
use Rattle.linda_client.specs.declared.fault.ClientFault.{ClientFault}
use Rattle.linda_client.specs.declared.fault.ClientFault.TheVariants as faults
use Rattle.linda_client.specs.declared.outcome.Got.{Got}
use Rattle.linda_client.specs.declared.outcome.Got.TheVariants.{Took, Copied, Alarm, Always}
use Rattle.linda_client.specs.declared.outcome.Outcome.{Outcome}
use Rattle.linda_client.specs.declared.outcome.Outcome.TheVariants as outcomes
use Rattle.linda_client.specs.declared.outcome.Outcome.TheVariants.{Stored, Synced, Dropped}
use Rattle.linda_client.specs.declared.task.Task.{Task}
use Rattle.linda_client.specs.declared.task.Task.TheVariants.{Idle, Putting, Syncing, Leaving, Left}
use Rattle.linda_client.specs.Ask.{asks}
use Rattle.linda_client.specs.Pending.{Pending, ask_at, ticket_count}
use Rattle.linda_client.specs.Client.{Client, IsClient, IsTaskOf, IsUsed, asked_in, next_at, pending_in, servers}
use Rattle.linda_client.specs.Packets.{Packet, accept_packet, leave_packets, unanswered}
use Rattle.linda_client.specs.Reaction.{Reaction}
use Rattle.linda_client.specs.React.{Call, Receive, new_pending, on_reply, react}
use Rattle.linda_client.specs.Ending.{IsEnd, TakenBy}
use Rattle.linda_client.specs.Numbers.{IsUnanswered, UsesNoNumber, UsesNumber, Rises, number_of}
use Rattle.linda_client.specs.Progress.{Continues, GoesOn, IsSoundPacket}
use Rattle.linda_client.proofs.ListLaws.{only_one, nowhere}
use Rattle.linda_world_laws.specs.World.{handed_by}
use Rattle.linda_world_laws.specs.Reasons.{OfTicket, Asks, HasSent, IsSaid}
use Rattle.linda_world_laws.specs.Below.{OfCalls}

-- An open ticket is one of the synchronization's, and was used by the client.
pub open_range : (pending : Pending) (k : ℕ) (ask : Ask) → ask_at pending k ≡ Some ask → (pending.first ≤ k) × (k < pending.first + ticket_count pending)
open_range pending k ask e = by (nat_lt k pending.first) refl e
  where
    by : (b : Bool) → nat_lt k pending.first ≡ b → cond b None (slice_get (asks pending.event) (k - pending.first)) ≡ Some ask
        → (pending.first ≤ k) × (k < pending.first + ticket_count pending)
    by true low f = absurd (none-some ask f)
    by false high f =
        let from : pending.first ≤ k = ltb-false k pending.first high in
        let within = slice_get_within (asks pending.event) (k - pending.first) ask f in
        (from, omega (arith, from, within))

pub open_used : (c : Client) (t : Task) (k : ℕ) (ask : Ask) → IsTaskOf c t → asked_in (pending_in t) k ≡ Some ask → k < c.ticket
open_used c Idle k ask is e = absurd (none-some ask e)
open_used c (Putting server n row) k ask is e = absurd (none-some ask e)
open_used c (Leaving leaves) k ask is e = absurd (none-some ask e)
open_used c Left k ask is e = absurd (none-some ask e)
open_used c (Syncing pending) k ask is e = let range = open_range pending k ask e in let top = is.tickets in omega (arith, range.1, top)

-- the same event and first ticket ask the same
pub same_ask : (old new : Pending) (k : ℕ) → new.event ≡ old.event → new.first ≡ old.first → ask_at new k ≡ ask_at old k
same_ask old new k event first =
    ap (λ x. ask_at (record new { event = x }) k) event ∙ ap (λ x. ask_at (record new { event = old.event; first = x }) k) first

-- what is unanswered while a synchronization is pending
pending_unanswered : (t : Task) (pending : Pending) → pending_in t ≡ Some pending → unanswered t ≡ option_to_list (accept_packet pending.accepted)
pending_unanswered Idle pending e = absurd (none-some pending e)
pending_unanswered (Putting server n row) pending e = absurd (none-some pending e)
pending_unanswered (Syncing own) pending e = ap (λ (p : Pending). option_to_list (accept_packet p.accepted)) (same_Some own pending e)
pending_unanswered (Leaving leaves) pending e = absurd (none-some pending e)
pending_unanswered Left pending e = absurd (none-some pending e)

pub accepted_unanswered : (c : Client) (pending : Pending) (a : PendingAccept) → pending_in c.task ≡ Some pending → pending.accepted ≡ Some a
    → IsUnanswered c a.server (messages.Accept a.n a.ticket a.id)
accepted_unanswered c pending a e accepted =
    subst (λ l. Contains {X = Packet} l (a.server, messages.Accept a.n a.ticket a.id))
    (sym (pending_unanswered c.task pending e ∙ ap (λ o. option_to_list (accept_packet o)) accepted))
    (Contains-push {X = Packet} [] (a.server, messages.Accept a.n a.ticket a.id))

-- The number of a packet was used at its server.
abbrev WasUsed : Client → Packet → Type 0
WasUsed c p = (n : ℕ) → number_of p.1 ≡ Some n → n < next_at c p.0

accept_used : (c : Client) (o : Option PendingAccept) → IfSome o (λ a. IsUsed c a.server a.n) → All (WasUsed c) (option_to_list (accept_packet o))
accept_used c None used = All-nil (WasUsed c)
accept_used c (Some a) used = All-cons (WasUsed c) (a.server, messages.Accept a.n a.ticket a.id) []
    (λ n e. subst (λ x. x < next_at c a.server) (same_Some a.n n e) used.1.1) (All-nil (WasUsed c))

leaves_used : (c : Client) (leaves : List (ℕ × ℕ)) → All (λ (p : ℕ × ℕ). IsUsed c p.0 p.1 × (p.1 + 1 ≡ next_at c p.0)) leaves
    → All (WasUsed c) (leave_packets leaves)
leaves_used c leaves used =
    All-map (WasUsed c) (λ (p : ℕ × ℕ). (p.0, messages.Leave p.1)) leaves
    (All-weaker (λ (p : ℕ × ℕ). IsUsed c p.0 p.1 × (p.1 + 1 ≡ next_at c p.0)) (λ (p : ℕ × ℕ). WasUsed c (p.0, messages.Leave p.1))
    (λ p was n e. subst (λ x. x < next_at c p.0) (same_Some p.1 n e) was.0.1.1) leaves used)

task_used : (c : Client) (t : Task) → IsTaskOf c t → All (WasUsed c) (unanswered t)
task_used c Idle is = All-nil (WasUsed c)
task_used c (Putting server m row) is = All-cons (WasUsed c) (server, messages.Out m row) []
    (λ n e. subst (λ x. x < next_at c server) (same_Some m n e) is.1.1) (All-nil (WasUsed c))
task_used c (Syncing pending) is = accept_used c pending.accepted is.accepted
task_used c (Leaving leaves) is = leaves_used c leaves is.last
task_used c Left is = All-nil (WasUsed c)

-- A server has at most one message unanswered.
one_accept : (o : Option PendingAccept) (s : ℕ) (k m : Message) → Contains (option_to_list (accept_packet o)) (s, k)
    → Contains (option_to_list (accept_packet o)) (s, m) → k ≡ m
one_accept None s k m first second = nowhere {X = Packet} (s, k) first
one_accept (Some a) s k m first second =
    let x : Packet = (a.server, messages.Accept a.n a.ticket a.id) in
    sym (ap (λ (p : Packet). p.1) (only_one x (s, k) first)) ∙ ap (λ (p : Packet). p.1) (only_one x (s, m) second)

-- a Leave under the last number of its server
abbrev IsLastLeave : Client → Packet → Type 0
IsLastLeave c p = p.1 ≡ messages.Leave (next_at c p.0 - 1)

last_leaves : (c : Client) (leaves : List (ℕ × ℕ)) → All (λ (p : ℕ × ℕ). IsUsed c p.0 p.1 × (p.1 + 1 ≡ next_at c p.0)) leaves
    → All (IsLastLeave c) (leave_packets leaves)
last_leaves c leaves used =
    All-map (IsLastLeave c) (λ (p : ℕ × ℕ). (p.0, messages.Leave p.1)) leaves
    (All-weaker (λ (p : ℕ × ℕ). IsUsed c p.0 p.1 × (p.1 + 1 ≡ next_at c p.0)) (λ (p : ℕ × ℕ). IsLastLeave c (p.0, messages.Leave p.1))
    (λ p was. ap messages.Leave (before p.1 (next_at c p.0) was.1)) leaves used)
  where
    before : (n next : ℕ) → n + 1 ≡ next → n ≡ next - 1
    before n next is = omega (arith, is)

one_unanswered : (c : Client) (t : Task) (s : ℕ) (k m : Message) → IsTaskOf c t → Contains (unanswered t) (s, k) → Contains (unanswered t) (s, m) → k ≡ m
one_unanswered c Idle s k m is first second = nowhere {X = Packet} (s, k) first
one_unanswered c (Putting server n row) s k m is first second =
    let x : Packet = (server, messages.Out n row) in
    sym (ap (λ (p : Packet). p.1) (only_one x (s, k) first)) ∙ ap (λ (p : Packet). p.1) (only_one x (s, m) second)
one_unanswered c (Syncing pending) s k m is first second = one_accept pending.accepted s k m first second
one_unanswered c (Leaving leaves) s k m is first second =
    let last = last_leaves c leaves is.last in
    All-contains (IsLastLeave c) (leave_packets leaves) (s, k) last first ∙ sym (All-contains (IsLastLeave c) (leave_packets leaves) (s, m) last second)
one_unanswered c Left s k m is first second = nowhere {X = Packet} (s, k) first

-- The number of what is unanswered was used.
unanswered_used : (c : Client) (s : ℕ) (m : Message) (n : ℕ) → IsClient c → IsUnanswered c s m → number_of m ≡ Some n → n < next_at c s
unanswered_used c s m n is there number = All-contains (WasUsed c) (unanswered c.task) (s, m) (task_used c c.task is.task) there n number

-- the next number at a server is not the first that no message has
pub next_above : (c : Client) (s : ℕ) → IsClient c → s < servers c → 0 < next_at c s
next_above c s is within = (All-get_or (λ n. (1 ≤ n) × (n ≤ NUMBER_LIMIT)) c.next s 0 within is.numbers).0

pub from_some : {X : Type 0} (P : X → Type 0) (o : Option X) (x : X) → o ≡ Some x → IfSome o P → P x
from_some P o x e h = subst (λ p. IfSome p P) e h

pub to_some : {X : Type 0} (P : X → Type 0) (o : Option X) → ((x : X) → o ≡ Some x → P x) → IfSome o P
to_some P None h = tt
to_some P (Some x) h = h x refl

refuses : (f : ClientFault) (r : Reaction) → Err f ≡ Ok r → ⊥
refuses f r e = cc

-- A client takes replies only of its own servers.
pub received_within : (c : Client) (s : ℕ) (reply : Reply) (r : Reaction) → react c (Receive s reply) ≡ Ok r → s < servers c
received_within c s reply r e = by (nat_lt s (servers c)) refl e
  where
    by : (b : Bool) → nat_lt s (servers c) ≡ b → cond b (on_reply c s reply) (Err faults.NoServer) ≡ Ok r → s < servers c
    by true low f = ltb-true s (servers c) low
    by false high f = absurd (refuses faults.NoServer r f)

-- A client later on: tickets and numbers rise, what is open and was used asked the same before, and what is unanswered was so
-- before or has the next number.
pub record IsLater (c new : Client) : Type 0 where
  pub tickets : c.ticket ≤ new.ticket
  pub numbers : (s : ℕ) → next_at c s ≤ next_at new s
  pub asked : (k : ℕ) (ask : Ask) → asked_in (pending_in new.task) k ≡ Some ask → k < c.ticket → asked_in (pending_in c.task) k ≡ Some ask
  pub from : (s : ℕ) (m : Message) → IsUnanswered new s m → IsUnanswered c s m ⊎ (number_of m ≡ Some (next_at c s))

pub same_later : (c : Client) → IsLater c c
same_later c = record { tickets = omega arith; numbers = λ s. omega arith; asked = λ k ask e low. e; from = λ s m e. inl e }

-- What was true of tickets and numbers that were used is true later on.
module _ (c new : Client) (later : IsLater c new) where
  pub ticket_still : (k : ℕ) (P : Ask → Type 0) → OfTicket k P c → OfTicket k P new
  ticket_still k P old = record {
    below = let low = old.below in let more = later.tickets in omega (arith, low, more);
    asked = λ ask e. old.asked ask (later.asked k ask e old.below);
  }

  pub sent_still : (s n : ℕ) (m : Message) → HasSent s n m c → HasSent s n m new
  sent_still s n m old = record {
    used = let low = old.used in let more = later.numbers s in omega (arith, low, more);
    own = λ k there number. by k number (later.from s k there);
  }
    where
      by : (k : Message) → number_of k ≡ Some n → IsUnanswered c s k ⊎ (number_of k ≡ Some (next_at c s)) → k ≡ m
      by k number (inl was) = old.own k was number
      by k number (inr next) =
          absurd (let low = old.used in let n_is : n ≡ next_at c s = same_Some n (next_at c s) (sym number ∙ next) in omega (arith, low, n_is))

  pub said_still : (s : ℕ) (m : Message) → IsSaid s m c → IsSaid s m new
  said_still s (messages.Hello version client fresh) old = tt
  said_still s (messages.Out n row) old = sent_still s n (messages.Out n row) old
  said_still s (messages.Ask k remove template) old = ticket_still k (Asks remove template) old
  said_still s (messages.Accept n k id) old = sent_still s n (messages.Accept n k id) old
  said_still s (messages.Cancel k) old = tt
  said_still s (messages.Leave n) old = sent_still s n (messages.Leave n) old

module _ (laws : OfCalls) (c : Client) (call : Call) (r : Reaction) (is : IsClient c) (answer : react c call ≡ Ok r) where
  pub rises : Rises c r.client
  rises = laws.rises c call r is answer

  -- A ticket that was used, and is open then, asked the same before.
  pub open_before : (k : ℕ) (ask : Ask) → asked_in (pending_in r.client.task) k ≡ Some ask → k < c.ticket → asked_in (pending_in c.task) k ≡ Some ask
  open_before k ask e low = by (pending_in c.task) (laws.goes_on c call r is answer)
    where
      shut : pending_in r.client.task ≡ None → ⊥
      shut none = none-some ask (sym (ap (λ o. asked_in o k) none) ∙ e)

      by : (o : Option Pending) → GoesOn c call o r → asked_in o k ≡ Some ask
      by (Some pending) goes = elim goes.1 [
        | inl ends ↦ absurd (shut (ap pending_in ends.idle))
        | inr on ↦ sym (same_ask pending on.later k on.event on.first) ∙ sym (ap (λ o. asked_in o k) on.after) ∙ e
      ]
      by None (inl quiet) = elim quiet.1 [
        | inl apart ↦ absurd (shut apart.after)
        | inr commits ↦ absurd (shut (ap pending_in commits.idle))
      ]
      by None (inr starts) =
          absurd (let range = open_range (new_pending c starts.event) k ask (sym (ap (λ o. asked_in o k) starts.after) ∙ e) in omega (arith, range.0, low))

  -- A synchronization that goes on asks the same.
  pub asks_on : (pending then : Pending) → pending_in c.task ≡ Some pending → pending_in r.client.task ≡ Some then → (k : ℕ) → ask_at then k ≡ ask_at pending k
  asks_on pending then was now k = by (subst (λ o. GoesOn c call o r) was (laws.goes_on c call r is answer)).1
    where
      by : IsEnd c pending r ⊎ Continues c call pending r → ask_at then k ≡ ask_at pending k
      by (inl ends) = absurd (none-some then (sym (ap pending_in ends.idle) ∙ now))
      by (inr on) = ap (λ (p : Pending). ask_at p k) (same_Some then on.later (sym now ∙ on.after)) ∙ same_ask pending on.later k on.event on.first

  -- What is unanswered was so before, or has the next number.
  pub unanswered_from : (s : ℕ) (m : Message) → IsUnanswered r.client s m → IsUnanswered c s m ⊎ (number_of m ≡ Some (next_at c s))
  unanswered_from s m there =
      elim (laws.numbers c call r is answer s) [
        | inl none ↦ inl (none.old m there)
        | inr used ↦ inr (ap number_of (used.1.own m (subst (λ l. Contains {X = Packet} l (s, m)) used.1.unanswered_is there)) ∙ used.1.number)
      ]

  pub later : IsLater c r.client
  later = record { tickets = rises.tickets; numbers = rises.numbers; asked = open_before; from = unanswered_from }

  -- A numbered message that is sent has a used number, and is what is unanswered then.
  numbered_sent : (s n : ℕ) (m : Message) → Contains r.packets (s, m) → number_of m ≡ Some n → HasSent s n m r.client
  numbered_sent s n m there number = by (laws.numbers c call r is answer s)
    where
      by : UsesNoNumber c call r s ⊎ ((k : Message) × UsesNumber c call r s k) → HasSent s n m r.client
      by (inl none) = record {
        used = let low = unanswered_used c s m n is (none.again m there (ap is_some number)) number in let more = rises.numbers s in omega (arith, low, more);
        own = λ k waits same. one_unanswered c c.task s k m is.task (none.old k waits) (none.again m there (ap is_some number));
      }
      by (inr (k, one)) =
          let m_is : m ≡ k = one.own m there in
          let n_is : next_at c s ≡ n = same_Some (next_at c s) n (sym one.number ∙ ap number_of (sym m_is) ∙ number) in
          record {
            used = let more = one.next in omega (arith, n_is, more);
            own = λ q waits same. one.own q (subst (λ l. Contains {X = Packet} l (s, q)) one.unanswered_is waits) ∙ sym m_is;
          }

  -- What is sent is the client's to say.
  pub sent_said : (s : ℕ) (m : Message) → Contains r.packets (s, m) → IsSaid s m r.client
  sent_said s (messages.Hello version client fresh) there = tt
  sent_said s (messages.Out n row) there = numbered_sent s n (messages.Out n row) there refl
  sent_said s (messages.Accept n k id) there = numbered_sent s n (messages.Accept n k id) there refl
  sent_said s (messages.Cancel k) there = tt
  sent_said s (messages.Leave n) there = numbered_sent s n (messages.Leave n) there refl
  sent_said s (messages.Ask k remove template) there =
      by (asked_in (pending_in r.client.task) k) refl
      (All-contains (IsSoundPacket r.client) r.packets (s, messages.Ask k remove template) (laws.packets c call r is answer) there).1
    where
      by : (o : Option Ask) → asked_in (pending_in r.client.task) k ≡ o
          → IsSomeAnd o (λ ask. (ask.remove ≡ remove) × (ask.template ≡ template)) → IsSaid s (messages.Ask k remove template) r.client
      by None e never = absurd never
      by (Some ask) e same = record {
        below = open_used r.client r.client.task k ask (laws.kept c call r is answer).task e;
        asked = λ other f. subst (λ (a : Ask). (a.remove ≡ remove) × (a.template ≡ template)) (same_Some ask other (sym e ∙ f)) same;
      }

  -- What is given now: the tuple of the Taken that answers the Accept that was unanswered.
  pub record IsGiven : Type 0 where
    pub server : ℕ
    pub number : ℕ
    pub ticket : ℕ
    pub id : ℕ
    pub tuple : Tuple
    pub call_is : call ≡ Receive server (replies.Taken number id tuple)
    pub handed : handed_by r.outcome ≡ Some (record { server = server; id = id; tuple = tuple })
    pub was : IsUnanswered c server (messages.Accept number ticket id)
    pub over : unanswered r.client.task ≡ []

  pub given_now : (handed_by r.outcome ≡ None) ⊎ IsGiven
  given_now = by r.outcome refl (laws.taken c call r is answer)
    where
      idle_then : (pending : Pending) (o : Outcome) → r.outcome ≡ Some o → GoesOn c call (Some pending) r → unanswered r.client.task ≡ []
      idle_then pending o e goes = elim goes.1 [
        | inl ends ↦ ap unanswered ends.idle
        | inr on ↦ absurd (none-some o (sym on.silent ∙ e))
      ]

      by_got : (base : ℕ) (got : Got) (labels raised : _) → r.outcome ≡ Some (Synced base got labels raised)
          → TakenBy c call (Some (Synced base got labels raised)) → (handed_by r.outcome ≡ None) ⊎ IsGiven
      by_got base (Took server id row bindings) labels raised e t = inr (record {
        server = t.own.server;
        number = t.own.n;
        ticket = t.own.ticket;
        id = t.own.id;
        tuple = row;
        call_is = t.answers;
        handed = ap handed_by e ∙ ap (λ s. Some (record { server = s; id = id; tuple = row })) t.server_is
            ∙ ap (λ i. Some (record { server = t.own.server; id = i; tuple = row })) t.id_is;
        was = accepted_unanswered c t.pending t.own t.pending_is t.accepted;
        over = idle_then t.pending _ e (subst (λ o. GoesOn c call o r) t.pending_is (laws.goes_on c call r is answer));
      })
      by_got base (Copied server id row bindings) labels raised e t = inl (ap handed_by e)
      by_got base Alarm labels raised e t = inl (ap handed_by e)
      by_got base (Always value) labels raised e t = inl (ap handed_by e)

      by : (o : Option Outcome) → r.outcome ≡ o → TakenBy c call o → (handed_by r.outcome ≡ None) ⊎ IsGiven
      by None e t = inl (ap handed_by e)
      by (Some (Stored server id)) e t = inl (ap handed_by e)
      by (Some (Dropped raised)) e t = inl (ap handed_by e)
      by (Some outcomes.Left) e t = inl (ap handed_by e)
      by (Some (Synced base got labels raised)) e t = by_got base got labels raised e t

  pub given_used : (g : IsGiven) → g.number < next_at c g.server
  given_used g = unanswered_used c g.server (messages.Accept g.number g.ticket g.id) g.number is g.was refl
