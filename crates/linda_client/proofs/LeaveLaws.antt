-- The Leaves of a client: to whom they go, under which numbers, and which are left once a server has answered.
use Rattle.std.proofs.Common.{◌≡◌, ℕ, ◌+◌, ◌<◌, ◌≤◌, ◌==◌, ◌&&◌, Bool, true, false, cond, not, List, [], ◌∷◌, length}
use Rattle.std.proofs.Common.{get_or, map, filter, Contains, ◌⊎◌, inl, inr, refl, sym, ap, ◌∙◌, subst, arith, eqb-true}
use Rattle.std.specs.Prelude.{All}
use Rattle.std.specs.List.{enumerate_from, list_any}
use Rattle.std.proofs.lemmas.List.{get_or-map, length-map}
use Rattle.std.proofs.lemmas.List.Elements.{All-cons, All-filter, All-from_get_or, All-map, All-nil, All-weaker}
use Rattle.std.proofs.lemmas.List.Elements.{Contains-append_left, Contains-append_right, Contains-get_or}
use Rattle.std.proofs.lemmas.List.FromFn.{get_or-enumerate_from, length-enumerate_from}
use Rattle.linda_wire.specs.declared.message.Message.TheVariants as messages
use Rattle.linda_wire.specs.declared.reply.Reply.TheVariants as replies
use Rattle.linda_wire.specs.declared.limits.TheConstants.{NUMBER_LIMIT}
use Rattle.linda_client.specs.Client.{AreLeavesOf, AreRising, Client, IsClient, IsUsed, next_at, servers}
use Rattle.linda_client.specs.Packets.{Packet, leave_packets}
use Rattle.linda_client.specs.React.{Call, Receive, leave, unanswered_leaves}
use Rattle.linda_client.specs.Numbers.{IsAnswerTo}
use Rattle.linda_client.proofs.ListLaws.{not_any}
use Rattle.linda_client.proofs.TestLaws.{apart, both}

-- a number with its place
at_place : (xs : List ℕ) (k : ℕ) → k < length xs → get_or (enumerate_from 0 xs) k (0, 0) ≡ (k, get_or xs k 0)
at_place xs k within = let same : 0 + k ≡ k = omega arith in get_or-enumerate_from 0 xs k (0, 0) within ∙ ap (λ j. (j, get_or xs k 0)) same

-- what holds of each number with its place holds of all
each_place : (P : ℕ × ℕ → Type 0) (xs : List ℕ) → ((k : ℕ) → k < length xs → P (k, get_or xs k 0)) → All P (enumerate_from 0 xs)
each_place P xs each =
    All-from_get_or P (enumerate_from 0 xs) (0, 0)
    (λ i low. let here : i < length xs = let same = length-enumerate_from 0 xs in omega arith in subst P (sym (at_place xs i here)) (each i here))

rising_from : (from : ℕ) (xs : List ℕ) → AreRising from (enumerate_from from xs)
rising_from from [] = tt
rising_from from (x ∷ xs) = (omega arith, rising_from (from + 1) xs)

rising_lower : (low from : ℕ) (ps : List (ℕ × ℕ)) → low ≤ from → AreRising from ps → AreRising low ps
rising_lower low from [] less h = tt
rising_lower low from (p ∷ ps) less h = let high = h.0 in (omega arith, h.1)

rising_kept : (q : ℕ × ℕ → Bool) (from : ℕ) (ps : List (ℕ × ℕ)) → AreRising from ps → AreRising from (filter q ps)
rising_kept q from [] h = tt
rising_kept q from (p ∷ ps) h = by (q p) (rising_kept q (p.0 + 1) ps h.1)
  where
    by : (b : Bool) → AreRising (p.0 + 1) (filter q ps) → AreRising from (cond b (p ∷ filter q ps) (filter q ps))
    by true later = (h.0, later)
    by false later = let high = h.0 in rising_lower from (p.0 + 1) (filter q ps) (omega arith) later

-- The next numbers after a Leave.
pub next_after : (c : Client) (s : ℕ) → s < servers c → next_at (leave c).client s ≡ next_at c s + 1
next_after c s within = get_or-map (λ n. n + 1) c.next s 0 0 within

-- the next numbers, none of which is the limit
pub numbers_after : (xs : List ℕ) → All (λ n. (1 ≤ n) × (n ≤ NUMBER_LIMIT)) xs
    → list_any (λ n. n == NUMBER_LIMIT) xs ≡ false → All (λ n. (1 ≤ n) × (n ≤ NUMBER_LIMIT)) (map (λ n. n + 1) xs)
numbers_after xs all none = All-map (λ n. (1 ≤ n) × (n ≤ NUMBER_LIMIT)) (λ n. n + 1) xs
    (λ k d low. let range = all k d low in
    let less = range.1 in
    let more = apart (get_or xs k d) NUMBER_LIMIT (not_any (λ n. n == NUMBER_LIMIT) xs none k d low) in
    (omega arith, omega (arith, less, more)))

-- The Leaves are those of the client that leaves.
pub leaves_of : (c : Client) → IsClient c → AreLeavesOf (leave c).client (enumerate_from 0 c.next)
leaves_of c is = record {
  some = let low = is.servers_low in let same = length-enumerate_from 0 c.next in omega arith;
  rising = rising_from 0 c.next;
  last = each_place (λ p. IsUsed (leave c).client p.0 p.1 × (p.1 + 1 ≡ next_at (leave c).client p.0)) c.next
      (λ k within. let more = next_after c k within in
      let range = is.numbers k 0 within in
      let low = range.0 in
      let there : k < servers (leave c).client = let same = length_after c in omega arith in
      ((there, (low, omega arith)), sym more));
}
  where
    length_after : (d : Client) → servers (leave d).client ≡ servers d
    length_after d = length-map d.next (λ n. n + 1)

-- Those that are not answered yet are so too.
pub leaves_left : (c : Client) (leaves : List (ℕ × ℕ)) (server n : ℕ) → AreLeavesOf c leaves
    → 1 ≤ length (unanswered_leaves server n leaves) → AreLeavesOf c (unanswered_leaves server n leaves)
leaves_left c leaves server n are some = record {
  some = some;
  rising = rising_kept (λ p. not ((p.0 == server) && (p.1 == n))) 0 leaves are.rising;
  last = All-filter (λ p. not ((p.0 == server) && (p.1 == n))) (λ p. IsUsed c p.0 p.1 × (p.1 + 1 ≡ next_at c p.0)) leaves are.last;
}

-- What holds of each server with its next number holds of all Leaves.
pub all_leaves : (P : Packet → Type 0) (c : Client) → ((s : ℕ) → s < servers c → P (s, messages.Leave (next_at c s)))
    → All P (leave_packets (enumerate_from 0 c.next))
all_leaves P c each = All-map P (λ p. (p.0, messages.Leave p.1)) (enumerate_from 0 c.next)
    (each_place (λ p. P (p.0, messages.Leave p.1)) c.next (λ k within. each k within))

-- There is one to each server.
pub leave_there : (c : Client) (s : ℕ) → s < servers c → Contains (leave_packets (enumerate_from 0 c.next)) (s, messages.Leave (next_at c s))
leave_there c s within =
    let low : s < length (enumerate_from 0 c.next) = let same = length-enumerate_from 0 c.next in omega arith in
    let high : s < length (leave_packets (enumerate_from 0 c.next)) =
    let same : length (leave_packets (enumerate_from 0 c.next)) ≡ length (enumerate_from 0 c.next) =
    length-map (enumerate_from 0 c.next) (λ p. (p.0, messages.Leave p.1)) in omega arith in
    subst (Contains (leave_packets (enumerate_from 0 c.next)))
    (get_or-map (λ p. (p.0, messages.Leave p.1)) (enumerate_from 0 c.next) s (0, 0) (0, messages.Leave 0) low
    ∙ ap (λ p. (p.0, messages.Leave p.1)) (at_place c.next s within))
    (Contains-get_or (leave_packets (enumerate_from 0 c.next)) s (0, messages.Leave 0) high)

leaves_there : (ps : List (ℕ × ℕ)) → All (λ p. Contains (leave_packets ps) (p.0, messages.Leave p.1)) ps
leaves_there [] = All-nil (λ p. Contains [] (p.0, messages.Leave p.1))
leaves_there (q ∷ ps) =
    All-cons (λ p. Contains (leave_packets (q ∷ ps)) (p.0, messages.Leave p.1)) q ps
    (Contains-append_left ((q.0, messages.Leave q.1) ∷ []) (leave_packets ps) (q.0, messages.Leave q.1) (0, omega arith, refl))
    (All-weaker (λ p. Contains (leave_packets ps) (p.0, messages.Leave p.1)) (λ p. Contains (leave_packets (q ∷ ps)) (p.0, messages.Leave p.1))
    (λ p there. Contains-append_right ((q.0, messages.Leave q.1) ∷ []) (leave_packets ps) (p.0, messages.Leave p.1) there) ps (leaves_there ps))

-- A Leave that is left was there.
pub left_there : (ps : List (ℕ × ℕ)) (server n : ℕ) → All (Contains (leave_packets ps)) (leave_packets (unanswered_leaves server n ps))
left_there ps server n =
    All-map (Contains (leave_packets ps)) (λ p. (p.0, messages.Leave p.1)) (unanswered_leaves server n ps)
    (All-filter (λ p. not ((p.0 == server) && (p.1 == n))) (λ p. Contains (leave_packets ps) (p.0, messages.Leave p.1)) ps (leaves_there ps))

-- a Leave is left, or is answered
abbrev pub LeftOrAnswered : Call → ℕ → ℕ → List (ℕ × ℕ) → Packet → Type 0
LeftOrAnswered call server n ps p = Contains (leave_packets (unanswered_leaves server n ps)) p ⊎ IsAnswerTo p call

-- `LeftOrAnswered` for a list with one Leave more at its front, given whether that one is answered
abbrev OneMore : Call → ℕ → ℕ → ℕ × ℕ → List (ℕ × ℕ) → Bool → Packet → Type 0
OneMore call server n q ps b p = Contains (leave_packets (cond (not b) (q ∷ unanswered_leaves server n ps) (unanswered_leaves server n ps))) p
    ⊎ IsAnswerTo p call

-- Each Leave is left, or is answered.
pub left_or_answered : (call : Call) (server n : ℕ) → call ≡ Receive server (replies.Left n)
    → (ps : List (ℕ × ℕ)) → All (LeftOrAnswered call server n ps) (leave_packets ps)
left_or_answered call server n called [] = All-nil (LeftOrAnswered call server n [])
left_or_answered call server n called (q ∷ ps) = by ((q.0 == server) && (q.1 == n)) refl (left_or_answered call server n called ps)
  where
    by : (b : Bool) → ((q.0 == server) && (q.1 == n)) ≡ b → All (LeftOrAnswered call server n ps) (leave_packets ps)
        → All (OneMore call server n q ps b) (leave_packets (q ∷ ps))
    by true own later =
        let parts = both (q.0 == server) (q.1 == n) own in
        let to : server ≡ q.0 = sym (eqb-true q.0 server parts.0) in
        let under : n ≡ q.1 = sym (eqb-true q.1 n parts.1) in
        All-cons (OneMore call server n q ps true) (q.0, messages.Leave q.1) (leave_packets ps)
        (inr (called ∙ ap (λ s. Receive s (replies.Left n)) to ∙ ap (λ k. Receive q.0 (replies.Left k)) under)) later
    by false other later =
        All-cons (OneMore call server n q ps false) (q.0, messages.Leave q.1) (leave_packets ps)
        (inl (Contains-append_left ((q.0, messages.Leave q.1) ∷ []) (leave_packets (unanswered_leaves server n ps))
        (q.0, messages.Leave q.1) (0, omega arith, refl)))
        (All-weaker (LeftOrAnswered call server n ps) (OneMore call server n q ps false) further (leave_packets ps) later)
      where
        further : (p : Packet) → LeftOrAnswered call server n ps p → OneMore call server n q ps false p
        further p (inl there) = inl (Contains-append_right ((q.0, messages.Leave q.1) ∷ []) (leave_packets (unanswered_leaves server n ps)) p there)
        further p (inr answered) = inr answered
