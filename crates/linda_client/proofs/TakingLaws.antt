-- What is taken is taken by the Taken that answers the unanswered Accept.
use Rattle.std.proofs.Common.{◌≡◌, ℕ}
use Rattle.std.specs.Prelude.{Ok}
use Rattle.linda_client.specs.declared.outcome.Got.{Got}
use Rattle.linda_client.specs.declared.outcome.Got.TheVariants.{Took, Copied, Alarm, Always}
use Rattle.linda_client.specs.Client.{Client, IsClient}
use Rattle.linda_client.specs.Reaction.{Reaction}
use Rattle.linda_client.specs.React.{Call, react}
use Rattle.linda_client.specs.Ending.{GotBy, TakenBy}
use Rattle.linda_client.proofs.BaseLaws.{IsAlone, ready_gets}
use Rattle.linda_client.proofs.Course.{Course, commits, commits_at_once, course}

alone : (c : Client) (call : Call) (base : ℕ) (got : Got) → IsAlone got → GotBy c call base got
alone c call base (Took server id row bindings) h = absurd h
alone c call base (Copied server id row bindings) h = absurd h
alone c call base Alarm h = tt
alone c call base (Always value) h = tt

taken_on : (c : Client) (call : Call) (r : Reaction) → Course c call r → TakenBy c call r.outcome
taken_on c call r (commits_at_once event ready called idle is_ready) = alone c call ready.0 ready.1 (ready_gets c.clock event ready is_ready).1
taken_on c call r (commits pending clock own base got task answered spares gets by) = by
taken_on c call r _ = tt

pub taken_by : (c : Client) (call : Call) (r : Reaction) → IsClient c → react c call ≡ Ok r → TakenBy c call r.outcome
taken_by c call r is e = taken_on c call r (course c is call r e)
