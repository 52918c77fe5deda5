-- A client over many calls: no number and no ticket is used twice, and a synchronization ends once.
use Rattle.std.proofs.Common.{◌≡◌, ℕ, ◌+◌, ◌-◌, ◌<◌, ◌≤◌, Bool, true, false, cond, List, [], ◌∷◌, Contains, ◌⊎◌, inl, inr, refl, sym, ap, ◌∙◌, subst, arith}
use Rattle.std.specs.Prelude.{Option, Some, None, is_some, Ok, Err, All, IfSome, IsSome, IsSomeAnd, option_to_list}
use Rattle.std.proofs.lemmas.Option.{same_Some}
use Rattle.std.proofs.lemmas.List.Elements.{All-cons, All-contains, All-map, All-nil, All-weaker, Contains-append_cases}
use Rattle.std.proofs.lemmas.List.Sums.{sum_by-cons}
use Rattle.linda_tuple.specs.Template.{Template}
use Rattle.linda_wire.specs.declared.message.Message.{Message}
use Rattle.linda_wire.specs.declared.message.Message.TheVariants as messages
use Rattle.linda_client.specs.declared.limits.TheConstants.{MAX_SERVERS}
use Rattle.linda_client.specs.declared.arrived_tuple.PendingAccept.{PendingAccept}
use Rattle.linda_client.specs.declared.ask.Ask.{Ask}
use Rattle.linda_client.specs.declared.outcome.Outcome.{Outcome}
use Rattle.linda_client.specs.declared.outcome.Outcome.TheVariants as outcomes
use Rattle.linda_client.specs.declared.outcome.Outcome.TheVariants.{Stored, Synced, Dropped}
use Rattle.linda_client.specs.declared.task.Task.{Task}
use Rattle.linda_client.specs.declared.task.Task.TheVariants.{Idle, Putting, Syncing, Leaving, Left}
use Rattle.linda_client.specs.Pending.{Pending, ask_at}
use Rattle.linda_client.specs.Client.{Client, IsClient, IsTaskOf, IsUsed, asked_in, next_at, pending_in}
use Rattle.linda_client.specs.Packets.{Packet, accept_packet, leave_packets, unanswered}
use Rattle.linda_client.specs.Reaction.{Answer, Reaction}
use Rattle.linda_client.specs.React.{Call, new_client, new_pending, react}
use Rattle.linda_client.specs.Ending.{EndsSync}
use Rattle.linda_client.specs.History.{Act, NumbersAreOnce, TicketsAreOnce, all_sent, end_count, act_then, history, is_end, is_sync, sync_count}
use Rattle.linda_client.specs.Numbers.{IsUnanswered, NumbersGoOn, UsesNoNumber, UsesNumber, number_of}
use Rattle.linda_client.specs.Progress.{GoesOn, IsSoundPacket}
use Rattle.linda_client.proofs.AskLaws.{open_range, same_asks}
use Rattle.linda_client.proofs.ListLaws.{nowhere, only_one}
use Rattle.linda_client.proofs.NumberLaws.{numbers_go}
use Rattle.linda_client.proofs.ProgressLaws.{goes}
use Rattle.linda_client.proofs.RangeLaws.{kept, new_is, rises}
use Rattle.linda_client.proofs.SoundLaws.{sound}

abbrev sent : Client → List Call → List Packet
sent c calls = all_sent (history c calls)

-- a number that was used at a server
abbrev Used : Client → Packet → Type 0
Used c p = (n : ℕ) → number_of p.1 ≡ Some n → n < next_at c p.0

-- What is unanswered has a number that was used.
used : (c : Client) → IsClient c → (s n : ℕ) (m : Message) → IsUnanswered c s m → number_of m ≡ Some n → n < next_at c s
used c is s n m there number = All-contains (Used c) (unanswered c.task) (s, m) (by c.task is.task) there n number
  where
    one : (t k : ℕ) (x : Message) → number_of x ≡ Some k → k < next_at c t → Used c (t, x)
    one t k x own low j e = let same : k ≡ j = same_Some k j (sym own ∙ e) in omega (arith, low, same)

    by : (t : Task) → IsTaskOf c t → All (Used c) (unanswered t)
    by Idle h = All-nil (Used c)
    by (Putting server k row) h = All-cons (Used c) (server, messages.Out k row) [] (one server k (messages.Out k row) refl h.1.1) (All-nil (Used c))
    by (Syncing pending) h = own pending.accepted h.accepted
      where
        own : (o : Option PendingAccept) → IfSome o (λ a. IsUsed c a.server a.n) → All (Used c) (option_to_list (accept_packet o))
        own None g = All-nil (Used c)
        own (Some a) g = All-cons (Used c) (a.server, messages.Accept a.n a.ticket a.id) []
            (one a.server a.n (messages.Accept a.n a.ticket a.id) refl g.1.1) (All-nil (Used c))
    by (Leaving all) h =
        All-map (Used c) (λ p. (p.0, messages.Leave p.1)) all
        (All-weaker (λ (p : ℕ × ℕ). IsUsed c p.0 p.1 × (p.1 + 1 ≡ next_at c p.0))
        (λ (p : ℕ × ℕ). Used c (p.0, messages.Leave p.1)) (λ p own. one p.0 p.1 (messages.Leave p.1) refl own.0.1.1) all h.last)
    by Left h = All-nil (Used c)

-- A server has one message unanswered at most.
one_unanswered : (c : Client) → IsClient c → (s : ℕ) (a b : Message) → IsUnanswered c s a → IsUnanswered c s b → a ≡ b
one_unanswered c is s a b x y = by c.task is.task x y
  where
    second : (p : Packet) → p ≡ (s, a) → p ≡ (s, b) → a ≡ b
    second p f g = ap (λ q. q.1) (sym f ∙ g)

    by : (t : Task) → IsTaskOf c t → Contains (unanswered t) (s, a) → Contains (unanswered t) (s, b) → a ≡ b
    by Idle h f g = nowhere (s, a) f
    by (Putting server k row) h f g =
        second (server, messages.Out k row) (only_one (server, messages.Out k row) (s, a) f) (only_one (server, messages.Out k row) (s, b) g)
    by (Syncing pending) h f g = own pending.accepted f g
      where
        own : (o : Option PendingAccept) → Contains (option_to_list (accept_packet o)) (s, a) → Contains (option_to_list (accept_packet o)) (s, b) → a ≡ b
        own None f g = nowhere (s, a) f
        own (Some o) f g = second (o.server, messages.Accept o.n o.ticket o.id)
            (only_one (o.server, messages.Accept o.n o.ticket o.id) (s, a) f) (only_one (o.server, messages.Accept o.n o.ticket o.id) (s, b) g)
    by (Leaving all) h f g = last a f ∙ sym (last b g)
      where
        leave_is : (p : ℕ × ℕ) → IsUsed c p.0 p.1 × (p.1 + 1 ≡ next_at c p.0) → messages.Leave p.1 ≡ messages.Leave (next_at c p.0 - 1)
        leave_is p own = let e = own.1 in let same : p.1 ≡ next_at c p.0 - 1 = omega arith in ap messages.Leave same

        last : (m : Message) → Contains (leave_packets all) (s, m) → m ≡ messages.Leave (next_at c s - 1)
        last m here =
            All-contains (λ (p : Packet). p.1 ≡ messages.Leave (next_at c p.0 - 1)) (leave_packets all) (s, m)
            (All-map (λ (p : Packet). p.1 ≡ messages.Leave (next_at c p.0 - 1)) (λ p. (p.0, messages.Leave p.1)) all
            (All-weaker (λ (p : ℕ × ℕ). IsUsed c p.0 p.1 × (p.1 + 1 ≡ next_at c p.0))
            (λ (p : ℕ × ℕ). messages.Leave p.1 ≡ messages.Leave (next_at c p.0 - 1)) leave_is all h.last)) here
    by Left h f g = nowhere (s, a) f

has_number : (m : Message) (n : ℕ) → number_of m ≡ Some n → IsSome (number_of m)
has_number m n e = ap is_some e

-- The message is unanswered, or its number is not used yet.
abbrev OwnOrNew : Client → ℕ → ℕ → Message → Type 0
OwnOrNew c s n m = IsUnanswered c s m ⊎ (next_at c s ≤ n)

-- a new message has the number that was next
next_is : (c : Client) (s n : ℕ) (m k : Message) → m ≡ k → number_of k ≡ Some (next_at c s) → number_of m ≡ Some n → next_at c s ≡ n
next_is c s n m k same own number = same_Some (next_at c s) n (sym own ∙ ap number_of (sym same) ∙ number)

-- A numbered message that is sent at a call is unanswered, or has the next number.
sent_now : (c : Client) (call : Call) (r : Reaction) → NumbersGoOn c call r → (s n : ℕ) (m : Message)
    → Contains r.packets (s, m) → number_of m ≡ Some n → OwnOrNew c s n m
sent_now c call r go s n m there number = by (go s)
  where
    by : UsesNoNumber c call r s ⊎ ((k : Message) × UsesNumber c call r s k) → OwnOrNew c s n m
    by (inl none) = inl (none.again m there (has_number m n number))
    by (inr (k, new)) = let at = next_is c s n m k (new.own m there) new.number number in inr (omega arith)

-- What is unanswered after a call was so before, or has the number that was next.
unanswered_now : (c : Client) (call : Call) (r : Reaction) → NumbersGoOn c call r → (s n : ℕ) (m : Message)
    → IsUnanswered r.client s m → number_of m ≡ Some n → OwnOrNew c s n m
unanswered_now c call r go s n m here number = by (go s)
  where
    by : UsesNoNumber c call r s ⊎ ((k : Message) × UsesNumber c call r s k) → OwnOrNew c s n m
    by (inl none) = inl (none.old m here)
    by (inr (k, new)) = let at = next_is c s n m k (new.own m (subst (λ l. Contains l (s, m)) new.unanswered_is here)) new.number number in inr (omega arith)

-- A numbered message that is sent from here on is unanswered, or its number is not used yet.
sent_later : (calls : List Call) (c : Client) → IsClient c → (s n : ℕ) (m : Message) → Contains (sent c calls) (s, m) → number_of m ≡ Some n → OwnOrNew c s n m
sent_later [] c is s n m there number = nowhere (s, m) there
sent_later (call ∷ calls) c is s n m there number = by (react c call) refl there (λ d is_d here. sent_later calls d is_d s n m here number)
  where
    by : (answer : Answer) → react c call ≡ answer → Contains (all_sent (act_then c call answer (λ d. history d calls))) (s, m)
        → ((d : Client) → IsClient d → Contains (sent d calls) (s, m) → OwnOrNew d s n m) → OwnOrNew c s n m
    by (Err fault) e here later = later c is here
    by (Ok r) e here later = split (Contains-append_cases r.packets (sent r.client calls) (s, m) here)
      where
        after : OwnOrNew r.client s n m → OwnOrNew c s n m
        after (inl own) = unanswered_now c call r (numbers_go c call r is e) s n m own number
        after (inr low) = let up = (rises c call r is e).numbers s in inr (omega arith)

        split : Contains r.packets (s, m) ⊎ Contains (sent r.client calls) (s, m) → OwnOrNew c s n m
        split (inl now) = sent_now c call r (numbers_go c call r is e) s n m now number
        split (inr then) = after (later r.client (kept c call r is e) then)

-- Two numbered messages that are sent to a server at one call are the same.
both_now : (c : Client) (call : Call) (r : Reaction) → IsClient c → NumbersGoOn c call r → (s n : ℕ) (a b : Message)
    → Contains r.packets (s, a) → Contains r.packets (s, b) → number_of a ≡ Some n → number_of b ≡ Some n → a ≡ b
both_now c call r is go s n a b p q f g = by (go s)
  where
    by : UsesNoNumber c call r s ⊎ ((k : Message) × UsesNumber c call r s k) → a ≡ b
    by (inl none) = one_unanswered c is s a b (none.again a p (has_number a n f)) (none.again b q (has_number b n g))
    by (inr (k, new)) = new.own a p ∙ sym (new.own b q)

-- A numbered message that is sent at a call is the same as one that is sent later.
now_and_later : (c : Client) (call : Call) (r : Reaction) → IsClient c → NumbersGoOn c call r
    → (s n : ℕ) (a b : Message) → Contains r.packets (s, a) → number_of a ≡ Some n
    → OwnOrNew r.client s n b → a ≡ b
now_and_later c call r is go s n a b p f own_or_new = by (go s) own_or_new
  where
    by : UsesNoNumber c call r s ⊎ ((k : Message) × UsesNumber c call r s k) → OwnOrNew r.client s n b → a ≡ b
    by (inl none) (inl own) = one_unanswered c is s a b (none.again a p (has_number a n f)) (none.old b own)
    by (inl none) (inr low) =
        let below = used c is s n a (none.again a p (has_number a n f)) f in
        let same = none.next in
        absurd (omega arith)
    by (inr (k, new)) (inl own) = new.own a p ∙ sym (new.own b (subst (λ l. Contains l (s, b)) new.unanswered_is own))
    by (inr (k, new)) (inr low) =
        let at = next_is c s n a k (new.own a p) new.number f in
        let more = new.next in
        absurd (omega arith)

numbers_from : (calls : List Call) (c : Client) → IsClient c → NumbersAreOnce (sent c calls)
numbers_from [] c is s n a b p q f g = nowhere (s, a) p
numbers_from (call ∷ calls) c is s n a b p q f g = by (react c call) refl p q (λ d is_d x y. numbers_from calls d is_d s n a b x y f g)
  where
    by : (answer : Answer) → react c call ≡ answer → Contains (all_sent (act_then c call answer (λ d. history d calls))) (s, a)
        → Contains (all_sent (act_then c call answer (λ d. history d calls))) (s, b)
        → ((d : Client) → IsClient d → Contains (sent d calls) (s, a) → Contains (sent d calls) (s, b) → a ≡ b) → a ≡ b
    by (Err fault) e x y later = later c is x y
    by (Ok r) e x y later = split (Contains-append_cases r.packets (sent r.client calls) (s, a) x)
        (Contains-append_cases r.packets (sent r.client calls) (s, b) y)
      where
        go : NumbersGoOn c call r
        go = numbers_go c call r is e

        after : IsClient r.client
        after = kept c call r is e

        split : Contains r.packets (s, a) ⊎ Contains (sent r.client calls) (s, a) → Contains r.packets (s, b) ⊎ Contains (sent r.client calls) (s, b) → a ≡ b
        split (inl x) (inl y) = both_now c call r is go s n a b x y f g
        split (inl x) (inr y) = now_and_later c call r is go s n a b x f (sent_later calls r.client after s n b y g)
        split (inr x) (inl y) = sym (now_and_later c call r is go s n b a y g (sent_later calls r.client after s n a x f))
        split (inr x) (inr y) = later r.client after x y

pub numbers_once : (number count : ℕ) (calls : List Call) → 1 ≤ count → count ≤ MAX_SERVERS
    → NumbersAreOnce (all_sent (history (new_client number count) calls))
numbers_once number count calls low high = numbers_from calls (new_client number count) (new_is number count low high)

-- What a ticket asks, which is open.
abbrev Asks : Client → ℕ → Bool → Template → Type 0
Asks c k p x = IsSomeAnd (asked_in (pending_in c.task) k) (λ ask. (ask.remove ≡ p) × (ask.template ≡ x))

-- That is what the ticket asks, which is open, or it is not used yet.
abbrev AsksOrNew : Client → ℕ → Bool → Template → Type 0
AsksOrNew c k p x = Asks c k p x ⊎ (c.ticket ≤ k)

one_ask : (o : Option Ask) (p q : Bool) (x y : Template) → IsSomeAnd o (λ ask. (ask.remove ≡ p) × (ask.template ≡ x))
    → IsSomeAnd o (λ ask. (ask.remove ≡ q) × (ask.template ≡ y)) → (p ≡ q) × (x ≡ y)
one_ask None p q x y f g = absurd f
one_ask (Some ask) p q x y f g = (sym f.0 ∙ g.0, sym f.1 ∙ g.1)

asks_now : (r : Reaction) → All (IsSoundPacket r.client) r.packets → (s k : ℕ) (p : Bool) (x : Template)
    → Contains r.packets (s, messages.Ask k p x) → Asks r.client k p x
asks_now r all s k p x there = (All-contains (IsSoundPacket r.client) r.packets (s, messages.Ask k p x) all there).1

-- An open ticket was used.
ticket_used : (c : Client) → IsClient c → (k : ℕ) (p : Bool) (x : Template) → Asks c k p x → k < c.ticket
ticket_used c is k p x asks = by c.task is.task asks
  where
    by : (t : Task) → IsTaskOf c t → IsSomeAnd (asked_in (pending_in t) k) (λ ask. (ask.remove ≡ p) × (ask.template ≡ x)) → k < c.ticket
    by Idle h f = absurd f
    by (Putting server n row) h f = absurd f
    by (Leaving all) h f = absurd f
    by Left h f = absurd f
    by (Syncing pending) h f = at (ask_at pending k) refl f
      where
        at : (o : Option Ask) → ask_at pending k ≡ o → IsSomeAnd o (λ ask. (ask.remove ≡ p) × (ask.template ≡ x)) → k < c.ticket
        at None e g = absurd g
        at (Some ask) e g = let range = open_range pending k ask e in let high = h.tickets in let below = range.1 in omega arith

-- What a ticket asks after a call it asked before, or it is new.
asked_before : (c : Client) (call : Call) (r : Reaction) → (o : Option Pending) → pending_in c.task ≡ o
    → GoesOn c call o r → (k : ℕ) (p : Bool) (x : Template) → Asks r.client k p x → AsksOrNew c k p x
asked_before c call r (Some pending) there (ticket, inl end) k p x asks =
    absurd (subst (λ t. IsSomeAnd (asked_in (pending_in t) k) (λ ask. (ask.remove ≡ p) × (ask.template ≡ x))) end.idle asks)
asked_before c call r (Some pending) there (ticket, inr more) k p x asks =
    inl (subst (λ o. IsSomeAnd (asked_in o k) (λ ask. (ask.remove ≡ p) × (ask.template ≡ x))) (sym there)
    (subst (λ o. IsSomeAnd o (λ ask. (ask.remove ≡ p) × (ask.template ≡ x))) (same_asks more.later pending more.event more.first k)
    (subst (λ o. IsSomeAnd (asked_in o k) (λ ask. (ask.remove ≡ p) × (ask.template ≡ x))) more.after asks)))
asked_before c call r None there (inl (ticket, inl apart)) k p x asks =
    absurd (subst (λ o. IsSomeAnd (asked_in o k) (λ ask. (ask.remove ≡ p) × (ask.template ≡ x))) apart.after asks)
asked_before c call r None there (inl (ticket, inr ends)) k p x asks =
    absurd (subst (λ t. IsSomeAnd (asked_in (pending_in t) k) (λ ask. (ask.remove ≡ p) × (ask.template ≡ x))) ends.idle asks)
asked_before c call r None there (inr begins) k p x asks =
    at (ask_at (new_pending c begins.event) k) refl (subst (λ o. IsSomeAnd (asked_in o k) (λ ask. (ask.remove ≡ p) × (ask.template ≡ x))) begins.after asks)
  where
    at : (o : Option Ask) → ask_at (new_pending c begins.event) k ≡ o → IsSomeAnd o (λ ask. (ask.remove ≡ p) × (ask.template ≡ x)) → AsksOrNew c k p x
    at None e g = absurd g
    at (Some ask) e g = inr (open_range (new_pending c begins.event) k ask e).0

asks_later : (calls : List Call) (c : Client) → IsClient c → (s k : ℕ) (p : Bool) (x : Template)
    → Contains (sent c calls) (s, messages.Ask k p x) → AsksOrNew c k p x
asks_later [] c is s k p x there = nowhere (s, messages.Ask k p x) there
asks_later (call ∷ calls) c is s k p x there = by (react c call) refl there (λ d is_d here. asks_later calls d is_d s k p x here)
  where
    by : (answer : Answer) → react c call ≡ answer → Contains (all_sent (act_then c call answer (λ d. history d calls))) (s, messages.Ask k p x)
        → ((d : Client) → IsClient d → Contains (sent d calls) (s, messages.Ask k p x) → AsksOrNew d k p x) → AsksOrNew c k p x
    by (Err fault) e here later = later c is here
    by (Ok r) e here later = split (Contains-append_cases r.packets (sent r.client calls) (s, messages.Ask k p x) here)
      where
        after : AsksOrNew r.client k p x → AsksOrNew c k p x
        after (inl asks) = asked_before c call r (pending_in c.task) refl (goes c call r is e) k p x asks
        after (inr low) = let up = (rises c call r is e).tickets in inr (omega arith)

        split : Contains r.packets (s, messages.Ask k p x) ⊎ Contains (sent r.client calls) (s, messages.Ask k p x) → AsksOrNew c k p x
        split (inl now) = after (inl (asks_now r (sound c call r is e) s k p x now))
        split (inr then) = after (later r.client (kept c call r is e) then)

-- An ask that is sent at a call is the same as one that is sent later under its ticket.
ask_and_later : (d : Client) → IsClient d → (k : ℕ) (p q : Bool) (x y : Template) → Asks d k p x → AsksOrNew d k q y → (p ≡ q) × (x ≡ y)
ask_and_later d is k p q x y asks (inl other) = one_ask (asked_in (pending_in d.task) k) p q x y asks other
ask_and_later d is k p q x y asks (inr low) = let below = ticket_used d is k p x asks in absurd (omega arith)

tickets_from : (calls : List Call) (c : Client) → IsClient c → TicketsAreOnce (sent c calls)
tickets_from [] c is s t k p q x y f g = nowhere (s, messages.Ask k p x) f
tickets_from (call ∷ calls) c is s t k p q x y f g = by (react c call) refl f g (λ d is_d h i. tickets_from calls d is_d s t k p q x y h i)
  where
    by : (answer : Answer) → react c call ≡ answer → Contains (all_sent (act_then c call answer (λ d. history d calls))) (s, messages.Ask k p x)
        → Contains (all_sent (act_then c call answer (λ d. history d calls))) (t, messages.Ask k q y)
        → ((d : Client) → IsClient d → Contains (sent d calls) (s, messages.Ask k p x)
        → Contains (sent d calls) (t, messages.Ask k q y) → (p ≡ q) × (x ≡ y)) → (p ≡ q) × (x ≡ y)
    by (Err fault) e h i later = later c is h i
    by (Ok r) e h i later = split (Contains-append_cases r.packets (sent r.client calls) (s, messages.Ask k p x) h)
        (Contains-append_cases r.packets (sent r.client calls) (t, messages.Ask k q y) i)
      where
        after : IsClient r.client
        after = kept c call r is e

        now : (u : ℕ) (z : Bool) (w : Template) → Contains r.packets (u, messages.Ask k z w) → Asks r.client k z w
        now u z w there = asks_now r (sound c call r is e) u k z w there

        split : Contains r.packets (s, messages.Ask k p x) ⊎ Contains (sent r.client calls) (s, messages.Ask k p x)
            → Contains r.packets (t, messages.Ask k q y) ⊎ Contains (sent r.client calls) (t, messages.Ask k q y) → (p ≡ q) × (x ≡ y)
        split (inl h) (inl i) = one_ask (asked_in (pending_in r.client.task) k) p q x y (now s p x h) (now t q y i)
        split (inl h) (inr i) = ask_and_later r.client after k p q x y (now s p x h) (asks_later calls r.client after t k q y i)
        split (inr h) (inl i) = let same = ask_and_later r.client after k q p y x (now t q y i) (asks_later calls r.client after s k p x h) in
            (sym same.0, sym same.1)
        split (inr h) (inr i) = later r.client after h i

pub tickets_once : (number count : ℕ) (calls : List Call) → 1 ≤ count → count ≤ MAX_SERVERS
    → TicketsAreOnce (all_sent (history (new_client number count) calls))
tickets_once number count calls low high = tickets_from calls (new_client number count) (new_is number count low high)

-- one for what is so, none for what is not
abbrev pub weight : Bool → ℕ
weight b = cond b 1 0

abbrev pends : Client → ℕ
pends c = weight (is_some (pending_in c.task))

no_end : (o : Option Outcome) → (EndsSync o → ⊥) → is_end o ≡ false
no_end None h = refl
no_end (Some (Stored server id)) h = refl
no_end (Some (Synced base got labels raised)) h = absurd (h tt)
no_end (Some (Dropped raised)) h = absurd (h tt)
no_end (Some outcomes.Left) h = refl

at_most_one : (b : Bool) → weight b ≤ 1
at_most_one true = omega arith
at_most_one false = omega arith

-- A call ends no more than was pending or is begun by it.
ends_now : (c : Client) (call : Call) (r : Reaction) (o : Option Pending) → GoesOn c call o r
    → weight (is_end r.outcome) + pends r.client ≤ weight (is_sync call) + weight (is_some o)
ends_now c call r (Some pending) (ticket, inl end) =
    let none : pends r.client ≡ 0 = ap (λ t. weight (is_some (pending_in t))) end.idle in
    let one = at_most_one (is_end r.outcome) in
    omega arith
ends_now c call r (Some pending) (ticket, inr more) =
    let none : weight (is_end r.outcome) ≡ 0 = ap (λ o. weight (is_end o)) more.silent in
    let one = at_most_one (is_some (pending_in r.client.task)) in
    omega arith
ends_now c call r None (inl (ticket, inl apart)) =
    let none : weight (is_end r.outcome) ≡ 0 = ap weight (no_end r.outcome apart.silent) in
    let gone : pends r.client ≡ 0 = ap (λ o. weight (is_some o)) apart.after in
    omega arith
ends_now c call r None (inl (ticket, inr ends)) =
    let gone : pends r.client ≡ 0 = ap (λ t. weight (is_some (pending_in t))) ends.idle in
    let one = at_most_one (is_end r.outcome) in
    let begun : weight (is_sync call) ≡ 1 = ap (λ x. weight (is_sync x)) ends.called in
    omega arith
ends_now c call r None (inr begins) =
    let none : weight (is_end r.outcome) ≡ 0 = ap (λ o. weight (is_end o)) begins.silent in
    let one = at_most_one (is_some (pending_in r.client.task)) in
    let begun : weight (is_sync call) ≡ 1 = ap (λ x. weight (is_sync x)) begins.called in
    omega arith

ends_from : (calls : List Call) (c : Client) → IsClient c → end_count (history c calls) ≤ sync_count (history c calls) + pends c
ends_from [] c is = omega arith
ends_from (call ∷ calls) c is = by (react c call) refl (λ d is_d. ends_from calls d is_d)
  where
    by : (answer : Answer) → react c call ≡ answer → ((d : Client) → IsClient d → end_count (history d calls) ≤ sync_count (history d calls) + pends d)
        → end_count (act_then c call answer (λ d. history d calls)) ≤ sync_count (act_then c call answer (λ d. history d calls)) + pends c
    by (Err fault) e later = later c is
    by (Ok r) e later =
        let first : Act = record { call = call; reaction = r } in
        let ends = sum_by-cons (λ (x : Act). weight (is_end x.reaction.outcome)) first (history r.client calls) in
        let syncs = sum_by-cons (λ (x : Act). weight (is_sync x.call)) first (history r.client calls) in
        let now = ends_now c call r (pending_in c.task) (goes c call r is e) in
        let then = later r.client (kept c call r is e) in
        omega (arith, ends, syncs, now, then)

pub ends_once : (number count : ℕ) (calls : List Call) → 1 ≤ count → count ≤ MAX_SERVERS
    → end_count (history (new_client number count) calls) ≤ sync_count (history (new_client number count) calls)
ends_once number count calls low high = let all = ends_from calls (new_client number count) (new_is number count low high) in omega arith
