-- No number and no ticket is used twice, and a repeat sends nothing new.
use Rattle.std.proofs.Common.{◌≡◌, ℕ, zero, suc, ◌+◌, ◌<◌, ◌≤◌, ◌==◌, ◌&&◌, nat_lt, Bool, true, false, cond, List, []}
use Rattle.std.proofs.Common.{◌∷◌, ◌++◌, length, get_or, map, Contains, ◌⊎◌, inl, inr, refl, sym, ap, ◌∙◌, subst}
use Rattle.std.proofs.Common.{append_assoc, arith, lt-ltb, le-ltb, ltb-true, eq-eqb}
use Rattle.std.specs.Prelude.{Option, Some, None, Ok, Err, IfOk, All, count_by, flat_map, option_to_list}
use Rattle.std.specs.List.{enumerate_from, range_with_len}
use Rattle.std.proofs.lemmas.Bool.{cases_eq, false≢true, ne_eqb}
use Rattle.std.proofs.lemmas.List.Elements.{All-append, All-contains, All-contains_itself, All-cons, All-filter}
use Rattle.std.proofs.lemmas.List.Elements.{All-head, All-nil, All-tail, All-weaker, Contains-append_left}
use Rattle.std.proofs.lemmas.List.Elements.{Contains-append_right}
use Rattle.std.proofs.lemmas.List.Sums.{sum_by-append, sum_by-cons}
use Rattle.std.proofs.lemmas.Result.{IfOk-at_ok}
use Rattle.linda_wire.specs.declared.message.Message.{Message}
use Rattle.linda_wire.specs.declared.message.Message.TheVariants as messages
use Rattle.linda_client.specs.declared.limits.TheConstants.{MAX_SERVERS}
use Rattle.linda_client.specs.declared.ask.Ask.{Ask}
use Rattle.linda_client.specs.declared.task.Task.TheVariants.{Syncing}
use Rattle.linda_client.specs.Ask.{asks}
use Rattle.linda_client.specs.Pending.{Pending}
use Rattle.linda_client.specs.Client.{Client, IsClient, next_at, pending_in, servers}
use Rattle.linda_client.specs.Packets.{Packet, accept_packet, ask_packets, asks_to_all, cancels_but, leave_packets, open_asks, sent_again, unanswered}
use Rattle.linda_client.specs.Reaction.{Answer, Reaction}
use Rattle.linda_client.specs.React.{Call, Out, Sync, Receive, Tick, Resend, Reconnected, Abandon, Leave, new_client}
use Rattle.linda_client.specs.React.{new_pending, out_server, react, unanswered_leaves, used_at}
use Rattle.linda_client.specs.Ending.{IsCancel}
use Rattle.linda_client.specs.Numbers.{number_of}
use Rattle.linda_client.specs.History.{Act, act_then, history}
use Rattle.linda_client.specs.Uses.{AreUsedOnce, RepeatsAreOld, all_anew, anew, is_number, is_repeat, is_under, ticket_of, uses}
use Rattle.linda_client.proofs.CancelLaws.{only_cancels}
use Rattle.linda_client.proofs.Course.{Course, abandons, accepts, begins, commits, commits_at_once, course, departs}
use Rattle.linda_client.proofs.Course.{gives_up, hands_on, leaves_on, puts, rejects, repeats, rests, saves, stores}
use Rattle.linda_client.proofs.Course.{waits}
use Rattle.linda_client.proofs.HistoryLaws.{weight}
use Rattle.linda_client.proofs.LeaveLaws.{all_leaves, left_there}
use Rattle.linda_client.proofs.ListLaws.{not_empty, same_first, same_rest}
use Rattle.linda_client.proofs.NumberLaws.{others_stay}
use Rattle.linda_client.proofs.PacketLaws.{all_asks}
use Rattle.linda_client.proofs.RangeLaws.{kept, new_is, out_within, rises, used_below}
use Rattle.linda_client.proofs.TestLaws.{by_test}

abbrev act_of : Call → Reaction → Act
act_of call r = record { call = call; reaction = r }

-- A number that is below stays so.
up : (n a b : ℕ) → a ≤ b → weight (nat_lt n a) ≤ weight (nat_lt n b)
up n a b more = by (nat_lt n a) refl
  where
    by : (t : Bool) → nat_lt n a ≡ t → weight t ≤ weight (nat_lt n b)
    by true e = let low = ltb-true n a e in let one : weight (nat_lt n b) ≡ 1 = ap weight (lt-ltb n b (omega arith)) in omega arith
    by false e = omega arith

-- The number at a mark is not below it, and is below the next.
steps : (n a : ℕ) → weight (a == n) + weight (nat_lt n a) ≤ weight (nat_lt n (a + 1))
steps n a = elim (cases_eq a n) [
  | inl same ↦
      let one : weight (a == n) ≡ 1 = ap weight (eq-eqb a n same) in
      let none : weight (nat_lt n a) ≡ 0 = ap weight (le-ltb n a (omega arith)) in
      let then : weight (nat_lt n (a + 1)) ≡ 1 = ap weight (lt-ltb n (a + 1) (omega arith)) in
      omega (arith, one, none, then)
  | inr apart ↦
      let none : weight (a == n) ≡ 0 = ap weight (ne_eqb a n apart) in
      let more = up n a (a + 1) (omega arith) in
      omega (arith, none, more)
]

steps_if : (b : Bool) (n a : ℕ) → weight (b && (a == n)) + weight (b && nat_lt n a) ≤ weight (b && nat_lt n (a + 1))
steps_if true n a = steps n a
steps_if false n a = omega arith

both_less : (b d : Bool) → weight (b && d) ≤ weight b
both_less true true = omega arith
both_less true false = omega arith
both_less false d = omega arith

not_second : (a b : Bool) → b ≡ false → weight (a && b) ≡ 0
not_second true b e = ap weight e
not_second false b e = refl

-- a packet without a number
abbrev IsPlain : (Message → Option ℕ) → Packet → Type 0
IsPlain of p = of p.1 ≡ None

-- Packets without a number do not count.
module _ (of : Message → Option ℕ) (s n : ℕ) where
  none_counts : (ps : List Packet) → All (IsPlain of) ps → count_by (is_under of s n) ps ≡ 0
  none_counts [] all = refl
  none_counts (p ∷ ps) all =
      let cons = sum_by-cons (λ q. cond (is_under of s n q) 1 0) p ps in
      let here : weight (is_under of s n p) ≡ 0 = ap (λ o. weight (is_number o n && (p.0 == s))) (All-head (IsPlain of) p ps all) in
      let later = none_counts ps (All-tail (IsPlain of) p ps all) in
      omega (arith, cons, here, later)

  -- What a call sends anew takes the place of a number that was not used before it, and is then.
  abbrev Counts : Call → Reaction → ℕ → ℕ → Type 0
  Counts call r a b = count_by (is_under of s n) (anew (act_of call r)) + weight (nat_lt n a) ≤ weight (nat_lt n b)

  all_count : (call : Call) (r : Reaction) (a b : ℕ) → count_by (is_under of s n) r.packets + weight (nat_lt n a) ≤ weight (nat_lt n b) → Counts call r a b
  all_count call r a b all = by (is_repeat call)
    where
      by : (t : Bool) → count_by (is_under of s n) (cond t [] r.packets) + weight (nat_lt n a) ≤ weight (nat_lt n b)
      by true = omega (arith, all)
      by false = all

  plain : (call : Call) (r : Reaction) (a b : ℕ) → a ≤ b → All (IsPlain of) r.packets → Counts call r a b
  plain call r a b more all = all_count call r a b (let none = none_counts r.packets all in let low = up n a b more in omega (arith, none, low))

  repeated : (call : Call) (r : Reaction) (a b : ℕ) → a ≤ b → is_repeat call ≡ true → Counts call r a b
  repeated call r a b more e =
      subst (λ t. count_by (is_under of s n) (cond t [] r.packets) + weight (nat_lt n a) ≤ weight (nat_lt n b))
      (sym e) (let low = up n a b more in omega (arith, low))

-- If the next number of each server, as `mark` gives it of a client, rises so at each call, none is used twice.
module _ (of : Message → Option ℕ) (mark : Client → ℕ → ℕ) (s n : ℕ)
    (on : (c : Client) (call : Call) (r : Reaction) → IsClient c → react c call ≡ Ok r → Counts of s n call r (mark c s) (mark r.client s)) where
  used_from : (calls : List Call) (c : Client) → IsClient c → uses of (history c calls) s n + weight (nat_lt n (mark c s)) ≤ 1
  used_from [] c is = by (nat_lt n (mark c s))
    where
      by : (t : Bool) → 0 + weight t ≤ 1
      by true = omega arith
      by false = omega arith
  used_from (call ∷ calls) c is = by (react c call) refl (λ d is_d. used_from calls d is_d)
    where
      by : (answer : Answer) → react c call ≡ answer → ((d : Client) → IsClient d → uses of (history d calls) s n + weight (nat_lt n (mark d s)) ≤ 1)
          → uses of (act_then c call answer (λ d. history d calls)) s n + weight (nat_lt n (mark c s)) ≤ 1
      by (Err fault) e later = later c is
      by (Ok r) e later =
          let parts = sum_by-append (λ p. cond (is_under of s n p) 1 0) (anew (act_of call r)) (all_anew (history r.client calls)) in
          let now = on c call r is e in
          let then = later r.client (kept c call r is e) in
          omega (arith, parts, now, then)

-- A Cancel has no number and no ticket.
cancel_plain : (p : Packet) → IsCancel p → (number_of p.1 ≡ None) × (ticket_of p.1 ≡ None)
cancel_plain (s, messages.Hello version client fresh) is = absurd is
cancel_plain (s, messages.Out n row) is = absurd is
cancel_plain (s, messages.Ask ticket remove template) is = absurd is
cancel_plain (s, messages.Accept n ticket id) is = absurd is
cancel_plain (s, messages.Cancel ticket) is = (refl, refl)
cancel_plain (s, messages.Leave n) is = absurd is

module _ (of : Message → Option ℕ) (plain_of : (p : Packet) → IsCancel p → of p.1 ≡ None) where
  cancels_plain : (count : ℕ) (own : Option (ℕ × ℕ)) (pending : Pending) → All (IsPlain of) (cancels_but count own pending)
  cancels_plain count own pending = All-weaker IsCancel (IsPlain of) plain_of (cancels_but count own pending) (only_cancels count own pending)

-- No Leave goes to a server below the first.
none_below : (s n from : ℕ) (xs : List ℕ) → s < from → count_by (is_under number_of s n) (leave_packets (enumerate_from from xs)) ≡ 0
none_below s n from [] low = refl
none_below s n from (x ∷ xs) low =
    let cons = sum_by-cons (λ q. cond (is_under number_of s n q) 1 0) (from, messages.Leave x) (leave_packets (enumerate_from (from + 1) xs)) in
    let here : weight ((x == n) && (from == s)) ≡ 0 = not_second (x == n) (from == s) (ne_eqb from s (λ same. absurd (omega arith))) in
    let later = none_below s n (from + 1) xs (omega arith) in
    omega (arith, cons, here, later)

-- A Leave to each server counts, under its next number.
leaves_count : (s n from k : ℕ) (xs : List ℕ) → s ≡ from + k
    → count_by (is_under number_of s n) (leave_packets (enumerate_from from xs)) + weight
    (nat_lt n (get_or xs k 0)) ≤ weight (nat_lt n (get_or (map (λ m. m + 1) xs) k 0))
leaves_count s n from k [] at = omega arith
leaves_count s n from zero (x ∷ xs) at =
    let cons = sum_by-cons (λ q. cond (is_under number_of s n q) 1 0) (from, messages.Leave x) (leave_packets (enumerate_from (from + 1) xs)) in
    let here = both_less (x == n) (from == s) in
    let step = steps n x in
    let later = none_below s n (from + 1) xs (omega arith) in
    omega (arith, cons, here, step, later)
leaves_count s n from (suc k) (x ∷ xs) at =
    let cons = sum_by-cons (λ q. cond (is_under number_of s n q) 1 0) (from, messages.Leave x) (leave_packets (enumerate_from (from + 1) xs)) in
    let here : weight ((x == n) && (from == s)) ≡ 0 = not_second (x == n) (from == s) (ne_eqb from s (λ same. absurd (omega arith))) in
    let later = leaves_count s n (from + 1) k xs (omega arith) in
    omega (arith, cons, here, later)

module _ (s n : ℕ) (c : Client) (is : IsClient c) (call : Call) where
  -- A message under the next number counts, and no number else rises.
  one_counts : (r : Reaction) (p : Packet) → r.packets ≡ p ∷ [] → number_of p.1 ≡ Some (next_at c p.0) → p.0 < servers c → r.client.next ≡ used_at c p.0
      → Counts number_of s n call r (next_at c s) (next_at r.client s)
  one_counts r p sent number within used = all_count number_of s n call r (next_at c s) (next_at r.client s)
      (subst (λ l. count_by (is_under number_of s n) l + weight (nat_lt n (next_at c s)) ≤ weight (nat_lt n (next_at r.client s)))
      (sym sent) (by (cases_eq p.0 s)))
    where
      cons : count_by (is_under number_of s n) (p ∷ []) ≡ weight (is_under number_of s n p) + 0
      cons = sum_by-cons (λ q. cond (is_under number_of s n q) 1 0) p []

      here : weight (is_under number_of s n p) ≡ weight ((next_at c p.0 == n) && (p.0 == s))
      here = ap (λ o. weight (is_number o n && (p.0 == s))) number

      after : next_at r.client p.0 ≡ next_at c p.0 + 1
      after = ap (λ xs. get_or xs p.0 0) used ∙ used_below c p.0 within

      by : (p.0 ≡ s) ⊎ (p.0 ≡ s → ⊥) → count_by (is_under number_of s n) (p ∷ []) + weight (nat_lt n (next_at c s)) ≤ weight (nat_lt n (next_at r.client s))
      by (inl same) =
          let low = both_less (next_at c p.0 == n) (p.0 == s) in
          let at : weight (next_at c p.0 == n) ≡ weight (next_at c s == n) = ap (λ t. weight (next_at c t == n)) same in
          let next : weight (nat_lt n (next_at r.client s)) ≡ weight (nat_lt n (next_at c s + 1)) =
          ap (λ m. weight (nat_lt n m)) (subst (λ t. next_at r.client t ≡ next_at c t + 1) same after) in
          let step = steps n (next_at c s) in
          omega (arith, cons, here, low, at, next, step)
      by (inr apart) =
          let none : weight ((next_at c p.0 == n) && (p.0 == s)) ≡ 0 = not_second (next_at c p.0 == n) (p.0 == s) (ne_eqb p.0 s apart) in
          let stays : weight (nat_lt n (next_at r.client s)) ≡ weight (nat_lt n (next_at c s)) =
          ap (λ m. weight (nat_lt n m)) (ap (λ xs. get_or xs s 0) used ∙ others_stay c p.0 s (λ e. apart (sym e))) in
          omega (arith, cons, here, none, stays)

  numbers_on : (r : Reaction) → next_at c s ≤ next_at r.client s → Course c call r → Counts number_of s n call r (next_at c s) (next_at r.client s)
  numbers_on r more (rejects a within other) =
      plain number_of s n call r (next_at c s) (next_at r.client s) more (All-cons (IsPlain number_of) _ [] refl (All-nil (IsPlain number_of)))
  numbers_on r more (repeats packets again there other) = repeated number_of s n call r (next_at c s) (next_at r.client s) more again
  numbers_on r more (puts row idle number outs) = one_counts r (out_server c, messages.Out (next_at c (out_server c)) row) refl refl (out_within c is) refl
  numbers_on r more (begins event called idle within room) =
      plain number_of s n call r (next_at c s) (next_at r.client s) more
      (all_asks (IsPlain number_of) (servers c) (new_pending c event) (λ t k ask low there. refl))
  numbers_on r more (accepts pending rest a task turn within input room) =
      one_counts r (a.server, messages.Accept (next_at c a.server) a.ticket a.id) refl refl within refl
  numbers_on r more (commits pending clock own base got task answered spares gets by) =
      plain number_of s n call r (next_at c s) (next_at r.client s) more
      (cancels_plain number_of (λ p cancels. (cancel_plain p cancels).0) (servers c) own pending)
  numbers_on r more (abandons pending task none) =
      plain number_of s n call r (next_at c s) (next_at r.client s) more
      (cancels_plain number_of (λ p cancels. (cancel_plain p cancels).0) (servers c) None pending)
  numbers_on r more (gives_up called idle room) = all_count number_of s n call r (next_at c s) (next_at r.client s) (leaves_count s n 0 s c.next (omega arith))
  numbers_on r more _ = plain number_of s n call r (next_at c s) (next_at r.client s) more (All-nil (IsPlain number_of))

-- The Asks of one ticket, to each server: one to each, if it is this ticket.
ask_row : (s k t : ℕ) (x : Ask) (a m : ℕ)
    → count_by (is_under ticket_of s k) (map (λ u. (u, messages.Ask t x.remove x.template)) (range_with_len a m)) + weight
    ((t == k) && nat_lt s a) ≤ weight (t == k)
ask_row s k t x a zero = let low = both_less (t == k) (nat_lt s a) in omega (arith, low)
ask_row s k t x a (suc m) =
    let cons =
    sum_by-cons (λ p. cond (is_under ticket_of s k p) 1 0) (a, messages.Ask t x.remove x.template)
    (map (λ u. (u, messages.Ask t x.remove x.template)) (range_with_len (a + 1) m)) in
    let step = steps_if (t == k) s a in
    let later = ask_row s k t x (a + 1) m in
    omega (arith, cons, step, later)

-- The Asks of tickets one after another: one to each server for each.
ask_rows : (s k count t : ℕ) (xs : List Ask)
    → count_by (is_under ticket_of s k) (flat_map (asks_to_all count) (enumerate_from t xs)) + weight (nat_lt k t) ≤ weight (nat_lt k (t + length xs))
ask_rows s k count t [] = let low = up k t (t + 0) (omega arith) in omega (arith, low)
ask_rows s k count t (x ∷ xs) =
    let parts = sum_by-append (λ p. cond (is_under ticket_of s k p) 1 0) (asks_to_all count (t, x))
    (flat_map (asks_to_all count) (enumerate_from (t + 1) xs)) in
    let here = ask_row s k t x 0 count in
    let step = steps k t in
    let later = ask_rows s k count (t + 1) xs in
    let high = up k ((t + 1) + length xs) (t + suc (length xs)) (omega arith) in
    omega (arith, parts, here, step, later, high)

module _ (s k : ℕ) (c : Client) (call : Call) where
  tickets_on : (r : Reaction) → c.ticket ≤ r.client.ticket → Course c call r → Counts ticket_of s k call r c.ticket r.client.ticket
  tickets_on r more (rejects a within other) = plain ticket_of s k call r c.ticket r.client.ticket more
      (All-cons (IsPlain ticket_of) _ [] refl (All-nil (IsPlain ticket_of)))
  tickets_on r more (repeats packets again there other) = repeated ticket_of s k call r c.ticket r.client.ticket more again
  tickets_on r more (puts row idle number outs) =
      plain ticket_of s k call r c.ticket r.client.ticket more (All-cons (IsPlain ticket_of) _ [] refl (All-nil (IsPlain ticket_of)))
  tickets_on r more (begins event called idle within room) =
      all_count ticket_of s k call r c.ticket r.client.ticket (ask_rows s k (servers c) c.ticket (asks event))
  tickets_on r more (accepts pending rest a task turn within input room) =
      plain ticket_of s k call r c.ticket r.client.ticket more (All-cons (IsPlain ticket_of) _ [] refl (All-nil (IsPlain ticket_of)))
  tickets_on r more (commits pending clock own base got task answered spares gets by) =
      plain ticket_of s k call r c.ticket r.client.ticket more (cancels_plain ticket_of (λ p cancels. (cancel_plain p cancels).1) (servers c) own pending)
  tickets_on r more (abandons pending task none) =
      plain ticket_of s k call r c.ticket r.client.ticket more (cancels_plain ticket_of (λ p cancels. (cancel_plain p cancels).1) (servers c) None pending)
  tickets_on r more (gives_up called idle room) = plain ticket_of s k call r c.ticket r.client.ticket more (all_leaves (IsPlain ticket_of) c (λ t low. refl))
  tickets_on r more _ = plain ticket_of s k call r c.ticket r.client.ticket more (All-nil (IsPlain ticket_of))

pub numbers_used_once : (number count : ℕ) (calls : List Call) → 1 ≤ count → count ≤ MAX_SERVERS
    → AreUsedOnce number_of (history (new_client number count) calls)
numbers_used_once number count calls low high s n =
    let all = used_from number_of next_at s n (λ c call r is e. numbers_on s n c is call r ((rises c call r is e).numbers s) (course c is call r e)) calls
    (new_client number count) (new_is number count low high) in
    omega (arith, all)

pub tickets_used_once : (number count : ℕ) (calls : List Call) → 1 ≤ count → count ≤ MAX_SERVERS
    → AreUsedOnce ticket_of (history (new_client number count) calls)
tickets_used_once number count calls low high s k =
    let all = used_from ticket_of (λ c t. c.ticket) s k
    (λ c call r is e. tickets_on s k c call r (rises c call r is e).tickets (course c is call r e)) calls
    (new_client number count) (new_is number count low high) in
    omega (arith, all)

-- What the client sends again then it sent again before, or has sent now.
abbrev AgainOrNow : Client → Reaction → Packet → Type 0
AgainOrNow c r p = Contains (sent_again c) p ⊎ Contains r.packets p

module _ (c : Client) where
  all_before : (r : Reaction) → All (AgainOrNow c r) (sent_again c)
  all_before r = All-weaker (Contains (sent_again c)) (AgainOrNow c r) (λ p there. inl there) (sent_again c) (All-contains_itself (sent_again c))

  all_now : (r : Reaction) → All (AgainOrNow c r) r.packets
  all_now r = All-weaker (Contains r.packets) (AgainOrNow c r) (λ p there. inr there) r.packets (All-contains_itself r.packets)

  -- the Asks of what is pending
  asks_before : (r : Reaction) (pending : Pending) → c.task ≡ Syncing pending → All (AgainOrNow c r) (ask_packets (servers c) pending)
  asks_before r pending task =
      All-weaker (Contains (ask_packets (servers c) pending)) (AgainOrNow c r)
      (λ p there. inl (subst (λ t. Contains (unanswered t ++ open_asks c (pending_in t)) p) (sym task)
      (Contains-append_right (option_to_list (accept_packet pending.accepted)) (ask_packets (servers c) pending) p there)))
      (ask_packets (servers c) pending) (All-contains_itself (ask_packets (servers c) pending))

  again_on : (call : Call) (r : Reaction) → servers r.client ≡ servers c → Course c call r → All (AgainOrNow c r) (sent_again r.client)
  again_on call r same (rests clock other) = all_before r
  again_on call r same (hands_on server code detail other) = all_before r
  again_on call r same (rejects a within other) = all_before r
  again_on call r same (repeats packets again there other) = all_before r
  again_on call r same (puts row idle number outs) = all_now r
  again_on call r same (stores server n id row task called) = All-nil (AgainOrNow c r)
  again_on call r same (commits_at_once event ready called idle is_ready) = All-nil (AgainOrNow c r)
  again_on call r same (begins event called idle within room) = all_now r
  again_on call r same (saves pending a task awaits within fits other) =
      subst (λ t. All (AgainOrNow c r) (unanswered t ++ open_asks c (pending_in t))) task (all_before r)
  again_on call r same (accepts pending rest a task turn within input room) =
      All-append (AgainOrNow c r) ((a.server, messages.Accept (next_at c a.server) a.ticket a.id) ∷ []) (ask_packets (servers r.client) pending) (all_now r)
      (subst (λ count. All (AgainOrNow c r) (ask_packets count pending)) (sym same) (asks_before r pending task))
  again_on call r same (waits pending own task accepted called none) = asks_before r pending task
  again_on call r same (commits pending clock own base got task answered spares gets by) = All-nil (AgainOrNow c r)
  again_on call r same (abandons pending task none) = All-nil (AgainOrNow c r)
  again_on call r same (gives_up called idle more) =
      All-append (AgainOrNow c r) (leave_packets (enumerate_from 0 c.next)) [] (all_now r) (All-nil (AgainOrNow c r))
  again_on call r same (leaves_on all server n task called some) =
      All-append (AgainOrNow c r) (leave_packets (unanswered_leaves server n all)) []
      (All-weaker (Contains (leave_packets all)) (AgainOrNow c r)
      (λ p there. inl (subst (λ t. Contains (unanswered t ++ open_asks c (pending_in t)) p) (sym task) (Contains-append_left (leave_packets all) [] p there)))
      (leave_packets (unanswered_leaves server n all)) (left_there all server n)) (All-nil (AgainOrNow c r))
  again_on call r same (departs all server n task called none) = All-nil (AgainOrNow c r)

  -- A repeat sends what the client sends again.
  repeat_on : (call : Call) → is_repeat call ≡ true → IfOk (react c call) (λ r. All (Contains (sent_again c)) r.packets)
  repeat_on (Out row) is = absurd (false≢true is)
  repeat_on (Sync event) is = absurd (false≢true is)
  repeat_on (Receive server reply) is = absurd (false≢true is)
  repeat_on (Tick now) is = absurd (false≢true is)
  repeat_on Resend is = All-contains_itself (sent_again c)
  repeat_on (Reconnected server) is =
      by_test (λ (answer : Answer). IfOk answer (λ r. All (Contains (sent_again c)) r.packets)) (nat_lt server (servers c)) _ _
      (λ _. All-filter (λ (p : Packet). p.0 == server) (Contains (sent_again c)) (sent_again c) (All-contains_itself (sent_again c))) (λ _. tt)
  repeat_on Abandon is = absurd (false≢true is)
  repeat_on Leave is = absurd (false≢true is)

-- All that the client sends again was sent before, or is sent anew now.
again_known : (c : Client) (call : Call) (r : Reaction) → IsClient c → react c call ≡ Ok r → (past : List Packet) → All (Contains past) (sent_again c)
    → All (Contains (past ++ anew (act_of call r))) (sent_again r.client)
again_known c call r is e past known = by (is_repeat call) refl
  where
    again : All (AgainOrNow c r) (sent_again r.client)
    again = again_on c call r (rises c call r is e).same_servers (course c is call r e)

    by : (t : Bool) → is_repeat call ≡ t → All (Contains (past ++ cond t [] r.packets)) (sent_again r.client)
    by true asked = All-weaker (AgainOrNow c r) (Contains (past ++ [])) was (sent_again r.client) again
      where
        was : (p : Packet) → AgainOrNow c r p → Contains (past ++ []) p
        was p (inl before) = Contains-append_left past [] p (All-contains (Contains past) (sent_again c) p known before)
        was p (inr now) = Contains-append_left past [] p (All-contains (Contains past) (sent_again c) p known
            (All-contains (Contains (sent_again c)) r.packets p
            (IfOk-at_ok (λ (x : Reaction). All (Contains (sent_again c)) x.packets) e (repeat_on c call asked)) now))
    by false other = All-weaker (AgainOrNow c r) (Contains (past ++ r.packets)) was (sent_again r.client) again
      where
        was : (p : Packet) → AgainOrNow c r p → Contains (past ++ r.packets) p
        was p (inl before) = Contains-append_left past r.packets p (All-contains (Contains past) (sent_again c) p known before)
        was p (inr now) = Contains-append_right past r.packets p now

old_from : (calls : List Call) (c : Client) → IsClient c → (past : List Packet) → All (Contains past) (sent_again c)
    → (before later : List Act) (act : Act) → history c calls ≡ before ++ act ∷ later
    → is_repeat act.call ≡ true → All (Contains (past ++ all_anew before)) act.reaction.packets
old_from [] c is past known before later act parts asked = absurd (not_empty before act later parts)
old_from (call ∷ calls) c is past known before later act parts asked = by (react c call) refl parts (λ d is_d. old_from calls d is_d)
  where
    by : (answer : Answer) → react c call ≡ answer → act_then c call answer (λ d. history d calls) ≡ before ++ act ∷ later
        → ((d : Client) → IsClient d → (so_far : List Packet) → All (Contains so_far) (sent_again d)
        → (front behind : List Act) (x : Act) → history d calls ≡ front ++ x ∷ behind → is_repeat x.call ≡ true
        → All (Contains (so_far ++ all_anew front)) x.reaction.packets)
        → All (Contains (past ++ all_anew before)) act.reaction.packets
    by (Err fault) e f next = next c is past known before later act f asked
    by (Ok r) e f next = at before f
      where
        first : Act
        first = act_of call r

        at : (xs : List Act) → first ∷ history r.client calls ≡ xs ++ act ∷ later → All (Contains (past ++ all_anew xs)) act.reaction.packets
        at [] g =
            let same : first ≡ act = same_first first act (history r.client calls) later g in
            let own = IfOk-at_ok (λ (x : Reaction). All (Contains (sent_again c)) x.packets) e
            (repeat_on c call (ap (λ (x : Act). is_repeat x.call) same ∙ asked)) in
            subst (λ (x : Act). All (Contains (past ++ [])) x.reaction.packets) same
            (All-weaker (Contains (sent_again c)) (Contains (past ++ []))
            (λ p there. Contains-append_left past [] p (All-contains (Contains past) (sent_again c) p known there)) r.packets own)
        at (x ∷ xs) g =
            let same : first ≡ x = same_first first x (history r.client calls) (xs ++ act ∷ later) g in
            subst (λ l. All (Contains l) act.reaction.packets) (append_assoc past (anew first) (all_anew xs)
            ∙ ap (λ (y : Act). past ++ (anew y ++ all_anew xs)) same)
            (next r.client (kept c call r is e) (past ++ anew first) (again_known c call r is e past known) xs later act
            (same_rest first x (history r.client calls) (xs ++ act ∷ later) g) asked)

pub repeats_old : (number count : ℕ) (calls : List Call) → 1 ≤ count → count ≤ MAX_SERVERS → RepeatsAreOld (history (new_client number count) calls)
repeats_old number count calls low high = old_from calls (new_client number count) (new_is number count low high) [] (All-nil (Contains []))
