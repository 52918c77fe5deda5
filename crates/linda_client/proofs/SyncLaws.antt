-- How the tests before a synchronization decide what it comes to.
use Rattle.std.proofs.Common.{◌≡◌, ℕ, ◌+◌, Bool, true, false, cond, not, nat_lt, ◌&&◌, [], length, refl, sym, ap, ◌∙◌, subst, arith}
use Rattle.std.specs.Prelude.{Option, Some, None, is_some, Result, Ok, Err}
use Rattle.std.proofs.lemmas.Bool.Decides.{nat_tests}
use Rattle.linda_wire.specs.declared.limits.TheConstants.{NUMBER_LIMIT}
use Rattle.linda_event.specs.Limits.{IsWithinLimits, is_too_deep}
use Rattle.linda_event.specs.Trees.{Tree}
use Rattle.linda_client.specs.declared.fault.ClientFault.{ClientFault}
use Rattle.linda_client.specs.declared.fault.ClientFault.TheVariants as faults
use Rattle.linda_client.specs.declared.outcome.Got.{Got}
use Rattle.linda_client.specs.declared.task.Task.{Task}
use Rattle.linda_client.specs.declared.task.Task.TheVariants.{Idle, Putting, Syncing, Leaving, Left}
use Rattle.linda_client.specs.Ask.{asks, first_ready}
use Rattle.linda_client.specs.Beginning.{MustAsk}
use Rattle.linda_client.specs.Client.{Client, has_left, is_idle}
use Rattle.linda_client.specs.React.{ask_servers, has_too_many, lacks_tickets, on_ready, on_sync}
use Rattle.linda_client.specs.Reaction.{Answer, commit}

-- a client that neither has left nor is busy is idle
pub idle_so : (t : Task) → false ≡ has_left t → true ≡ is_idle t → t ≡ Idle
idle_so Idle stays e = refl
idle_so (Putting server n row) stays e = cc
idle_so (Syncing pending) stays e = cc
idle_so (Leaving all) stays e = cc
idle_so Left stays e = cc

-- The client is idle, and the event is within its limits, as a test of them says.
pub record Begins (c : Client) (event : Tree) : Type 0 where
  pub idle : c.task ≡ Idle
  pub limits : ◌≡◌ {A = Result (Unit {0}) ClientFault} (Ok tt)
      (cond (is_too_deep event) (Err faults.TooDeep) (cond (has_too_many event) (Err faults.TooManyBases) (Ok tt)))

passed : (deep many : Bool) (rest : Answer)
    → ◌≡◌ {A = Result (Unit {0}) ClientFault} (Ok tt) (cond deep (Err faults.TooDeep) (cond many (Err faults.TooManyBases) (Ok tt)))
    → cond deep (Err faults.TooDeep) (cond many (Err faults.TooManyBases) rest) ≡ rest
passed true many rest e = cc
passed false true rest e = cc
passed false false rest e = refl

begins : (c : Client) (event : Tree) → Begins c event → on_sync c event ≡ on_ready c event (first_ready c.clock event)
begins c event b =
    subst (λ t. on_sync (record c { task = t }) event ≡ on_ready (record c { task = t }) event (first_ready c.clock event)) (sym b.idle)
    (passed (is_too_deep event) (has_too_many event) (on_ready (record c { task = Idle }) event (first_ready c.clock event)) b.limits)

-- if a base is ready, it commits to that
pub is_ready : (c : Client) (event : Tree) (base : ℕ) (got : Got) → Begins c event
    → first_ready c.clock event ≡ Some (base, got) → on_sync c event ≡ Ok (commit c event [] base got)
is_ready c event base got b ready = begins c event b ∙ ap (on_ready c event) ready

first_false : {X : Type 0} (b : Bool) (o : Option X) → o ≡ None → false ≡ b && not (is_some o) → b ≡ false
first_false true None none e = cc
first_false true (Some x) none e = cc
first_false false o none e = refl

-- else the servers are asked, if its tickets are within the limit
pub must_ask : (c : Client) (event : Tree) → Begins c event → IsWithinLimits event → false ≡ lacks_tickets c event
    → first_ready c.clock event ≡ None → MustAsk c event
must_ask c event b within room none =
    let low : nat_lt NUMBER_LIMIT (c.ticket + length (asks event)) ≡ false =
    first_false (nat_lt NUMBER_LIMIT (c.ticket + length (asks event))) (first_ready c.clock event) none room in
    record {
      answer = begins c event b ∙ ap (on_ready c event) none ∙ ap (λ t. cond t (Err faults.Spent) (Ok (ask_servers c event))) low;
      within = within;
      room = grind (arith, nat_tests);
    }
