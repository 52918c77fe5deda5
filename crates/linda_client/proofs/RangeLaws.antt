-- Next numbers and tickets never fall, and a client is as every client is, at first and after each call.
use Rattle.std.proofs.Common.{◌≡◌, ◌≢◌, ℕ, zero, suc, ◌+◌, ◌<◌, ◌≤◌, ◌==◌, false, List, [], ◌∷◌, drop, length, get_or}
use Rattle.std.proofs.Common.{map, set, refl, sym, ap, ◌∙◌, subst, arith}
use Rattle.std.specs.Prelude.{Option, Some, None, is_some, All, IfSome, Result, Ok, Err, OnOk, OnErr, true}
use Rattle.std.specs.declared.alloc.AllocError.{AllocError}
use Rattle.std.specs.List.{enumerate_from, list_any}
use Rattle.std.proofs.Math.ListN.{length-set}
use Rattle.std.proofs.lemmas.Bool.{false≢true}
use Rattle.std.proofs.lemmas.List.{get_or-set_same, length-map, length-replicate}
use Rattle.std.proofs.lemmas.List.Elements.{All-append, All-cons, All-drop, All-nil, All-get_or, All-replicate, All-set, All-weaker}
use Rattle.linda_wire.specs.declared.limits.TheConstants.{NUMBER_LIMIT}
use Rattle.linda_client.specs.declared.limits.TheConstants.{MAX_SERVERS}
use Rattle.linda_client.specs.declared.arrived_tuple.PendingAccept.{PendingAccept}
use Rattle.linda_client.specs.declared.arrived_tuple.ArrivedTuple.{ArrivedTuple}
use Rattle.linda_client.specs.declared.task.Task.{Task}
use Rattle.linda_client.specs.declared.task.Task.TheVariants.{Idle, Putting, Syncing, Leaving, Left}
use Rattle.linda_client.specs.Pending.{FitsOpen, IsPending, Pending, save_last, take_oldest}
use Rattle.linda_client.specs.Client.{AreLeavesOf, Client, IsClient, IsPendingOf, IsTaskOf, IsUsed, next_at, servers, with_pending}
use Rattle.linda_client.specs.Reaction.{Reaction}
use Rattle.linda_client.specs.React.{Call, leave, new_client, new_pending, next_accept, out_server, react, unanswered_leaves, use_number, used_at}
use Rattle.linda_client.specs.Numbers.{Rises}
use Rattle.linda_client.proofs.LeaveLaws.{leaves_left, leaves_of, numbers_after}
use Rattle.linda_client.proofs.PendingLaws.{saved_one}
use Rattle.linda_client.proofs.ListLaws.{tail_all}
use Rattle.linda_client.proofs.Course.{Course, Turn, abandons, accepts, arrives, begins, commits, commits_at_once}
use Rattle.linda_client.proofs.Course.{course, departs, gives_up, hands_on, leaves_on, oldest, pending_of, puts}
use Rattle.linda_client.proofs.Course.{rejects, repeats, rests, saves, stores, waits}

set_rises : (xs : List ℕ) (s v q : ℕ) → get_or xs s 0 ≤ v → get_or xs q 0 ≤ get_or (set xs s v) q 0
set_rises [] s v q h = omega arith
set_rises (x ∷ xs) zero v zero h = h
set_rises (x ∷ xs) zero v (suc q) h = omega arith
set_rises (x ∷ xs) (suc s) v zero h = omega arith
set_rises (x ∷ xs) (suc s) v (suc q) h = set_rises xs s v q h

-- No number is used.
rises_same : (old new : Client) → old.ticket ≤ new.ticket → new.next ≡ old.next → Rises old new
rises_same old new t n = record {
  numbers = λ server. let e : next_at new server ≡ next_at old server = ap (λ xs. get_or xs server 0) n in omega arith;
  tickets = t;
  same_servers = ap length n;
}

-- The next number of a server is used.
rises_used : (old new : Client) (s : ℕ) → new.ticket ≡ old.ticket → new.next ≡ used_at old s → Rises old new
rises_used old new s t n = record {
  numbers = λ server.
      let more : next_at old s ≤ next_at old s + 1 = omega arith in
      let e : next_at new server ≡ get_or (used_at old s) server 0 = ap (λ xs. get_or xs server 0) n in
      let h : next_at old server ≤ get_or (used_at old s) server 0 = set_rises old.next s (next_at old s + 1) server more in
      omega arith;
  tickets = omega arith;
  same_servers = ap length n ∙ length-set old.next s (next_at old s + 1);
}

-- The next number of each server is used.
rises_left : (c : Client) → Rises c (leave c).client
rises_left c = record { numbers = λ server. more c.next server; tickets = omega arith; same_servers = length-map c.next (λ n. n + 1) }
  where
    more : (xs : List ℕ) (q : ℕ) → get_or xs q 0 ≤ get_or (map (λ n. n + 1) xs) q 0
    more [] q = omega arith
    more (x ∷ xs) zero = omega arith
    more (x ∷ xs) (suc q) = more xs q

rises_on : (c : Client) (call : Call) (r : Reaction) → Course c call r → Rises c r.client
rises_on c call r (puts row idle number outs) = rises_used c r.client (out_server c) refl refl
rises_on c call r (begins event called idle within room) = rises_same c r.client (omega arith) refl
rises_on c call r (accepts pending rest a task turn within input more) = rises_used c r.client a.server refl refl
rises_on c call r (gives_up called idle more) = rises_left c
rises_on c call r _ = rises_same c r.client (omega arith) refl

-- Next numbers and tickets never fall.
pub rises : (c : Client) (call : Call) (r : Reaction) → IsClient c → react c call ≡ Ok r → Rises c r.client
rises c call r is e = rises_on c call r (course c is call r e)

-- The server of the next out is there.
pub out_within : (c : Client) → IsClient c → out_server c < servers c
out_within c is = let low = is.servers_low in grind (arith, low)

-- A used number is below the next one.
pub used_below : (c : Client) (s : ℕ) → s < servers c → get_or (used_at c s) s 0 ≡ next_at c s + 1
used_below c s within = get_or-set_same c.next s (next_at c s + 1) 0 within

next_range : (c : Client) → IsClient c → (s : ℕ) → s < servers c → (1 ≤ next_at c s) × (next_at c s ≤ NUMBER_LIMIT)
next_range c is s within = All-get_or (λ n. (1 ≤ n) × (n ≤ NUMBER_LIMIT)) c.next s 0 within is.numbers

numbers_used : (c : Client) → IsClient c → (s : ℕ) → s < servers c → next_at c s ≢ NUMBER_LIMIT → All (λ n. (1 ≤ n) × (n ≤ NUMBER_LIMIT)) (used_at c s)
numbers_used c is s within more =
    let range = next_range c is s within in
    let low : 1 ≤ next_at c s + 1 = omega arith in
    let high : next_at c s + 1 ≤ NUMBER_LIMIT = omega (arith, range.1, more) in
    All-set (λ n. (1 ≤ n) × (n ≤ NUMBER_LIMIT)) c.next s (next_at c s + 1) (low, high) is.numbers

used_rises : (c d : Client) → Rises c d → (s n : ℕ) → IsUsed c s n → IsUsed d s n
used_rises c d up s n used = let same = up.same_servers in let more = up.numbers s in let low =
    used.1.0 in let high = used.1.1 in let there = used.0 in (omega arith, (low, omega arith))

all_within : (c d : Client) → Rises c d → (saved : List ArrivedTuple) → All (λ (a : ArrivedTuple). a.server < servers c) saved
    → All (λ (a : ArrivedTuple). a.server < servers d) saved
all_within c d up saved all = let same = up.same_servers in
    All-weaker (λ (a : ArrivedTuple). a.server < servers c) (λ (a : ArrivedTuple). a.server < servers d) (λ a there. omega arith) saved all

own_used : (c d : Client) → Rises c d → (o : Option PendingAccept) → IfSome o (λ a. IsUsed c a.server a.n) → IfSome o (λ a. IsUsed d a.server a.n)
own_used c d up None h = tt
own_used c d up (Some a) h = used_rises c d up a.server a.n h

-- the Leaves of a client with the same numbers
leaves_same : (c d : Client) → d.next ≡ c.next → (all : List (ℕ × ℕ)) → AreLeavesOf c all → AreLeavesOf d all
leaves_same c d same all are = record {
  some = are.some;
  rising = are.rising;
  last = All-weaker (λ (p : ℕ × ℕ). IsUsed c p.0 p.1 × (p.1 + 1 ≡ next_at c p.0)) (λ (p : ℕ × ℕ). IsUsed d p.0 p.1 × (p.1 + 1 ≡ next_at d p.0))
      (λ p h. (
        (subst (λ xs. p.0 < length xs) (sym same) h.0.0, (h.0.1.0, subst (λ xs. p.1 < get_or xs p.0 0) (sym same) h.0.1.1)),
        subst (λ xs. p.1 + 1 ≡ get_or xs p.0 0) (sym same) h.1,
      )) all are.last;
}

-- What is pending at a client is so at one with the same numbers, whose tickets are further on.
task_rises : (c d : Client) → Rises c d → d.next ≡ c.next → (t : Task) → IsTaskOf c t → IsTaskOf d t
task_rises c d up same Idle h = tt
task_rises c d up same (Putting server n row) h = used_rises c d up server n h
task_rises c d up same (Syncing pending) h = record {
  keeps = h.keeps;
  tickets = let low = h.tickets in let more = up.tickets in omega arith;
  accepted = own_used c d up pending.accepted h.accepted;
  saved = all_within c d up pending.saved h.saved;
}
task_rises c d up same (Leaving all) h = leaves_same c d same all h
task_rises c d up same Left h = tt

-- the same numbers and tickets, and what is pending
same_is : (c d : Client) → IsClient c → d.next ≡ c.next → d.ticket ≡ c.ticket → d.outs ≡ c.outs → IsTaskOf d d.task → IsClient d
same_is c d is n t o task = record {
  servers_low = subst (λ xs. 1 ≤ length xs) (sym n) is.servers_low;
  servers_high = subst (λ xs. length xs ≤ MAX_SERVERS) (sym n) is.servers_high;
  numbers = subst (λ xs. All (λ k. (1 ≤ k) × (k ≤ NUMBER_LIMIT)) xs) (sym n) is.numbers;
  outs = subst (λ k. k < NUMBER_LIMIT) (sym o) is.outs;
  ticket_low = subst (λ k. 1 ≤ k) (sym t) is.ticket_low;
  ticket_high = subst (λ k. k ≤ NUMBER_LIMIT) (sym t) is.ticket_high;
  task = task;
}

-- a number more is used at a server
used_is : (c d : Client) (s : ℕ) → IsClient c → s < servers c → next_at c s ≢ NUMBER_LIMIT
    → d.next ≡ used_at c s → d.ticket ≡ c.ticket → d.outs < NUMBER_LIMIT → IsTaskOf d d.task → IsClient d
used_is c d s is within more n t o task =
    let same : servers d ≡ servers c = ap length n ∙ length-set c.next s (next_at c s + 1) in
    record {
      servers_low = let low = is.servers_low in omega arith;
      servers_high = let high = is.servers_high in omega arith;
      numbers = subst (λ xs. All (λ k. (1 ≤ k) × (k ≤ NUMBER_LIMIT)) xs) (sym n) (numbers_used c is s within more);
      outs = o;
      ticket_low = subst (λ k. 1 ≤ k) (sym t) is.ticket_low;
      ticket_high = subst (λ k. k ≤ NUMBER_LIMIT) (sym t) is.ticket_high;
      task = task;
    }

-- the number that is used now
now_used : (c d : Client) (s : ℕ) → IsClient c → s < servers c → d.next ≡ used_at c s → IsUsed d s (next_at c s)
now_used c d s is within n =
    let range = next_range c is s within in
    let e : next_at d s ≡ next_at c s + 1 = ap (λ xs. get_or xs s 0) n ∙ used_below c s within in
    let same : servers d ≡ servers c = ap length n ∙ length-set c.next s (next_at c s + 1) in
    (omega arith, (range.0, omega arith))

some_not_none : (o : Option PendingAccept) → is_some o ≡ true → o ≡ None → ⊥
some_not_none o e none = false≢true (sym (ap is_some none) ∙ e)

-- A client that leaves is as every client is.
pub left_is : (c : Client) → IsClient c → list_any (λ n. n == NUMBER_LIMIT) c.next ≡ false → IsClient (leave c).client
left_is c is more =
    let same = (rises_left c).same_servers in
    record {
      servers_low = let low = is.servers_low in omega arith;
      servers_high = let high = is.servers_high in omega arith;
      numbers = numbers_after c.next is.numbers more;
      outs = is.outs;
      ticket_low = is.ticket_low;
      ticket_high = is.ticket_high;
      task = leaves_of c is;
    }

-- a client with what one has that leaves
pub left_so : (c d : Client) → IsClient c → list_any (λ n. n == NUMBER_LIMIT) c.next ≡ false
    → d.next ≡ map (λ n. n + 1) c.next → d.ticket ≡ c.ticket → d.outs ≡ c.outs → d.task ≡ Leaving (enumerate_from 0 c.next)
    → IsClient d
left_so c d is more n t o task = same_is (leave c).client d (left_is c is more) n t o
    (subst (IsTaskOf d) (sym task) (leaves_same (leave c).client d n (enumerate_from 0 c.next) (leaves_of c is)))

-- a client whose Leaves are answered in part
pub leaving_so : (c d : Client) (all rest : List (ℕ × ℕ)) (server n : ℕ) → IsClient c → c.task ≡ Leaving all
    → d.next ≡ c.next → d.ticket ≡ c.ticket → d.outs ≡ c.outs → d.task ≡ Leaving rest
    → rest ≡ unanswered_leaves server n all → 1 ≤ length rest → IsClient d
leaving_so c d all rest server n is was next ticket outs task left some =
    same_is c d is next ticket outs (subst (IsTaskOf d) (sym (task ∙ ap Leaving left))
    (leaves_same c d next (unanswered_leaves server n all) (leaves_left c all server n (subst (IsTaskOf c) was is.task) (subst (λ l. 1 ≤ length l) left some))))

-- a client that saves an arrival
more_saved : (c : Client) (p : Pending) (a : ArrivedTuple) → IsClient c → c.task ≡ Syncing p → a.server < servers c
    → IsPending (save_last a p) → IsClient (with_pending c (save_last a p))
more_saved c p a is was within keeps =
    let own = pending_of c p is was in
    same_is c (with_pending c (save_last a p)) is refl refl refl (record {
      keeps = keeps;
      tickets = own.tickets;
      accepted = own_used c (with_pending c (save_last a p)) (rises_same c (with_pending c (save_last a p)) (omega arith) refl) p.accepted own.accepted;
      saved = All-append (λ (x : ArrivedTuple). x.server < servers c) p.saved (a ∷ []) own.saved
          (All-cons (λ (x : ArrivedTuple). x.server < servers c) a [] within (All-nil (λ (x : ArrivedTuple). x.server < servers c)));
    })

-- a client that saves an arrival, or for which memory runs out
pub saving_so : (c own : Client) (p q : Pending) (a : ArrivedTuple) (r : Result (Unit {0}) AllocError) → IsClient c
    → c ≡ own → c.task ≡ Syncing p → a.server < servers own → IsPending q → OnOk r (q ≡ save_last a p) → OnErr r (q ≡ p)
    → IsClient (with_pending c q)
saving_so c own p q a (Ok u) is same was within keeps saved failed =
    subst (λ s. IsClient (with_pending c s)) (sym saved)
    (more_saved c p a is was (subst (λ d. a.server < servers d) (sym same) within) (subst IsPending saved keeps))
saving_so c own p q a (Err e) is same was within keeps saved failed =
    subst (λ s. IsClient (with_pending c s)) (sym failed) (subst (λ t. IsClient (record c { task = t })) was is)

-- a client that accepts an offer
now_accepts : (c : Client) (p : Pending) (a : PendingAccept) (rest : List ArrivedTuple) → IsClient c
    → c.task ≡ Syncing p → a.server < servers c → a.n ≡ next_at c a.server → next_at c a.server ≢ NUMBER_LIMIT
    → IsPending (record p { accepted = Some a; saved = rest }) → All (λ (x : ArrivedTuple). x.server < servers c) rest
    → IsClient (with_pending (use_number c a.server) (record p { accepted = Some a; saved = rest }))
now_accepts c p a rest is was within next more keeps there =
    let d : Client = with_pending (use_number c a.server) (record p { accepted = Some a; saved = rest }) in
    used_is c d a.server is within more refl refl is.outs (record {
      keeps = keeps;
      tickets = (pending_of c p is was).tickets;
      accepted = subst (λ k. IsUsed d a.server k) (sym next) (now_used c d a.server is within refl);
      saved = all_within c d (rises_used c d a.server refl refl) rest there;
    })

-- a client that accepts an offer, as a value that equals it says
pub accepting_so : (c own : Client) (p q : Pending) (a : PendingAccept) (next : List ℕ) → IsClient c → c ≡ own
    → c.task ≡ Syncing p → a.server < servers own → a.n ≡ next_at own a.server → a.n < NUMBER_LIMIT → IsPending q
    → q ≡ take_oldest a p → next ≡ used_at c a.server → IsClient (record c { next = next; task = Syncing q })
accepting_so c own p q a next is same was within number room keeps took up =
    let here : a.n ≡ next_at c a.server = subst (λ (d : Client). a.n ≡ next_at d a.server) (sym same) number in
    subst (λ s. IsClient (record c { next = next; task = Syncing s })) (sym took)
    (subst (λ l. IsClient (record c { next = l; task = Syncing (take_oldest a p) })) (sym up)
    (now_accepts c p a (drop 1 p.saved) is was (subst (λ d. a.server < servers d) (sym same) within) here (omega arith) (subst IsPending took keeps)
    (All-drop (λ (x : ArrivedTuple). x.server < servers c) 1 p.saved (pending_of c p is was).saved)))

kept_on : (c : Client) → IsClient c → (call : Call) (r : Reaction) → Course c call r → IsClient r.client
kept_on c is call r (rests clock other) =
    same_is c r.client is refl refl refl (task_rises c r.client (rises_same c r.client (omega arith) refl) refl c.task is.task)
kept_on c is call r (hands_on server code detail other) = is
kept_on c is call r (rejects a within other) = is
kept_on c is call r (repeats packets repeated there other) = is
kept_on c is call r (puts row idle number outs) =
    let within = out_within c is in
    used_is c r.client (out_server c) is within number refl refl (let low = is.outs in omega (arith, low, outs))
    (now_used c r.client (out_server c) is within refl)
kept_on c is call r (stores server n id row task called) = same_is c r.client is refl refl refl tt
kept_on c is call r (commits_at_once event ready called idle is_ready) = same_is c r.client is refl refl refl tt
kept_on c is call r (begins event called idle within room) = record {
  servers_low = is.servers_low;
  servers_high = is.servers_high;
  numbers = is.numbers;
  outs = is.outs;
  ticket_low = let low = is.ticket_low in omega arith;
  ticket_high = room;
  task = record {
    keeps = record {
      within = within;
      first = is.ticket_low;
      last = room;
      accepted = tt;
      saved =
          All-nil (FitsOpen (new_pending c event));
      waiting = λ _. refl;
    };
    tickets = omega arith;
    accepted = tt;
    saved = All-nil (λ (a : ArrivedTuple). a.server < servers c);
  };
}
kept_on c is call r (saves pending a task awaits within fits other) =
    more_saved c pending a is task within (saved_one pending a (pending_of c pending is task).keeps fits awaits)
kept_on c is call r (accepts pending rest a task turn within input more) = by turn
  where
    own : IsPendingOf c pending
    own = pending_of c pending is task

    with_rest : All (FitsOpen pending) rest → All (λ (x : ArrivedTuple). x.server < servers c) rest → IsClient r.client
    with_rest fits there =
        now_accepts c pending (next_accept c a.server a.ticket a.id) rest is task within refl more
        (record { within = own.keeps.within; first = own.keeps.first; last = own.keeps.last; accepted = input; saved = fits; waiting = λ none. cc }) there

    by : Turn call pending rest a → IsClient r.client
    by (arrives none saved called) = with_rest (subst (All (FitsOpen pending)) (sym saved) own.keeps.saved)
        (subst (All (λ (x : ArrivedTuple). x.server < servers c)) (sym saved) own.saved)
    by (oldest accepted was saved called) =
        with_rest (tail_all (FitsOpen pending) a rest (subst (All (FitsOpen pending)) saved own.keeps.saved))
        (tail_all (λ (x : ArrivedTuple). x.server < servers c) a rest (subst (All (λ (x : ArrivedTuple). x.server < servers c)) saved own.saved))
kept_on c is call r (waits pending own task accepted called none) =
    let of_it = pending_of c pending is task in
    same_is c r.client is refl refl refl (record {
      keeps = record {
        within = of_it.keeps.within;
        first = of_it.keeps.first;
        last = of_it.keeps.last;
        accepted = tt;
        saved = of_it.keeps.saved;
        waiting = λ _. none;
      };
      tickets = of_it.tickets;
      accepted = tt;
      saved = of_it.saved;
    })
kept_on c is call r (commits pending clock own base got task answered spares gets by) = same_is c r.client is refl refl refl tt
kept_on c is call r (abandons pending task none) = same_is c r.client is refl refl refl tt
kept_on c is call r (gives_up called idle more) = left_is c is more
kept_on c is call r (leaves_on all server n task called some) =
    leaving_so c r.client all (unanswered_leaves server n all) server n is task refl refl refl refl refl some
kept_on c is call r (departs all server n task called none) = same_is c r.client is refl refl refl tt

-- A client is as every client is after each call.
pub kept : (c : Client) (call : Call) (r : Reaction) → IsClient c → react c call ≡ Ok r → IsClient r.client
kept c call r is e = kept_on c is call r (course c is call r e)

-- A new client is as every client is.
pub new_is : (number count : ℕ) → 1 ≤ count → count ≤ MAX_SERVERS → IsClient (new_client number count)
new_is number count low high =
    let same : servers (new_client number count) ≡ count = length-replicate count (suc zero) in
    record {
      servers_low = omega arith;
      servers_high = omega arith;
      numbers = All-replicate (λ n. (1 ≤ n) × (n ≤ NUMBER_LIMIT)) count 1 (omega arith, omega arith);
      outs = omega arith;
      ticket_low = omega arith;
      ticket_high = omega arith;
      task = tt;
    }
