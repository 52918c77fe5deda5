-- What an event asks, how many tickets that takes and which they are, and whether something is ready at
-- once.
use Rattle.std.proofs.Common.{◌≡◌, ℕ, ◌+◌, ◌-◌, ◌<◌, ◌≤◌, Bool, true, false, ◌||◌, cond, nat_lt, List, [], ◌∷◌, length, refl, ap, ◌∙◌, arith, ltb-false}
use Rattle.std.specs.Prelude.{None, Some, count_by, filter_map, is_some, nat_le, option_map, slice_get}
use Rattle.std.specs.List.{cons_option, enumerate_from, list_any}
use Rattle.std.proofs.lemmas.Bool.Decides.{nat_tests}
use Rattle.std.proofs.lemmas.List.Sums.{sum_by-cons}
use Rattle.std.proofs.lemmas.Option.{none-some, slice_get_within}
use Rattle.linda_event.specs.declared.limits.TheConstants.{MAX_BASES, MAX_ASKS}
use Rattle.linda_event.specs.Bases.{is_ready}
use Rattle.linda_event.specs.Limits.{IsWithinLimits, is_ask, is_too_deep}
use Rattle.linda_event.specs.Paths.{bases_of}
use Rattle.linda_event.specs.Trees.{Kind, input, read, alarm, always, never, Tree}
use Rattle.linda_client.specs.declared.ask.Ask.{Ask}
use Rattle.linda_client.specs.declared.outcome.Got.{Got}
use Rattle.linda_client.specs.declared.outcome.Got.TheVariants as gots
use Rattle.linda_client.specs.Ask.{ask_of, asks, first_ready, ready_at}
use Rattle.linda_client.specs.Pending.{Pending, ask_at, ticket_count}
use Rattle.linda_client.specs.React.{has_too_many}
use Rattle.linda_client.proofs.TestLaws.{neither}

asks_counted : (n : ℕ) (kinds : List Kind) → length (filter_map (λ b. ask_of b.0 b.1) (enumerate_from n kinds)) ≡ count_by is_ask kinds
asks_counted n [] = refl
asks_counted n (input t ∷ ks) = grind (arith, asks_counted (n + 1) ks, sum_by-cons (λ k. cond (is_ask k) 1 0) (input t) ks)
asks_counted n (read t ∷ ks) = grind (arith, asks_counted (n + 1) ks, sum_by-cons (λ k. cond (is_ask k) 1 0) (read t) ks)
asks_counted n (alarm t ∷ ks) = grind (arith, asks_counted (n + 1) ks, sum_by-cons (λ k. cond (is_ask k) 1 0) (alarm t) ks)
asks_counted n (always v ∷ ks) = grind (arith, asks_counted (n + 1) ks, sum_by-cons (λ k. cond (is_ask k) 1 0) (always v) ks)
asks_counted n (never ∷ ks) = grind (arith, asks_counted (n + 1) ks, sum_by-cons (λ k. cond (is_ask k) 1 0) never ks)

-- there is one ask for each input or read base
pub ask_count_is : (event : Tree) → length (asks event) ≡ count_by is_ask (bases_of event)
ask_count_is event = asks_counted 0 (bases_of event)

-- a sum passes a limit exactly if its part passes what is left
pub passes_limit : (a n limit : ℕ) → a ≤ limit → nat_lt (limit - a) n ≡ nat_lt limit (a + n)
passes_limit a n limit h = grind (arith, nat_tests)

-- An event that passes the tests is within its limits.
pub limits_kept : (event : Tree) → is_too_deep event ≡ false → has_too_many event ≡ false → IsWithinLimits event
limits_kept event depth few =
    let parts = neither (nat_lt MAX_BASES (length (bases_of event))) (nat_lt MAX_ASKS (count_by is_ask (bases_of event))) few in
    record {
      depth = depth;
      bases = ltb-false MAX_BASES (length (bases_of event)) parts.0;
      asks =
          ltb-false MAX_ASKS (count_by is_ask (bases_of event)) parts.1;
    }

-- An open ticket is in its range.
pub open_range : (pending : Pending) (k : ℕ) (ask : Ask) → ask_at pending k ≡ Some ask → (pending.first ≤ k) × (k < pending.first + ticket_count pending)
open_range pending k ask e = by (nat_lt k pending.first) refl e
  where
    by : (b : Bool) → nat_lt k pending.first ≡ b → cond b None (slice_get (asks pending.event) (k - pending.first)) ≡ Some ask
        → (pending.first ≤ k) × (k < pending.first + ticket_count pending)
    by true low f = absurd (none-some ask f)
    by false high f =
        let from : pending.first ≤ k = ltb-false k pending.first high in
        let within = slice_get_within (asks pending.event) (k - pending.first) ask f in
        (from, omega (arith, from, within))

-- Tickets ask the same if the event and the first ticket are the same.
pub same_asks : (later pending : Pending) → later.event ≡ pending.event → later.first ≡ pending.first → (k : ℕ) → ask_at later k ≡ ask_at pending k
same_asks later pending event first k =
    ap (λ n. cond (nat_lt k n) None (slice_get (asks later.event) (k - n))) first
    ∙ ap (λ t. cond (nat_lt k pending.first) None (slice_get (asks t) (k - pending.first))) event

-- a base that is ready comes first, if its test says so
ready_next : (clock n : ℕ) (k : Kind) (rest : List (ℕ × Got)) (later : Bool) → later ≡ is_some (slice_get rest 0)
    → (is_ready clock k || later) ≡ is_some (slice_get (cons_option (ready_at clock (n, k)) rest) 0)
ready_next clock n (input t) rest later e = e
ready_next clock n (read t) rest later e = e
ready_next clock n (alarm time) rest later e = by (nat_le time clock)
  where
    by : (b : Bool) → (b || later) ≡ is_some (slice_get (cons_option (option_map (λ got. (n, got)) (cond b (Some gots.Alarm) None)) rest) 0)
    by true = refl
    by false = e
ready_next clock n (always v) rest later e = refl
ready_next clock n never rest later e = e

any_ready_from : (clock n : ℕ) (kinds : List Kind)
    → list_any (is_ready clock) kinds ≡ is_some (slice_get (filter_map (ready_at clock) (enumerate_from n kinds)) 0)
any_ready_from clock n [] = refl
any_ready_from clock n (k ∷ ks) = ready_next clock n k (filter_map (ready_at clock) (enumerate_from (n + 1) ks))
    (list_any (is_ready clock) ks) (any_ready_from clock (n + 1) ks)

-- Some base is ready exactly if there is a first one.
pub any_ready_is : (clock : ℕ) (event : Tree) → list_any (is_ready clock) (bases_of event) ≡ is_some (first_ready clock event)
any_ready_is clock event = any_ready_from clock 0 (bases_of event)
