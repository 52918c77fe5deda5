-- Reactions, the results of a client's calls.
use Rattle.std.specs.Prelude.{◌≡◌, ℕ, List, [], Option, Some, None, Result, Ok, Err, IsOk}
use Rattle.linda_event.specs.Trees.{Tree}
use Rattle.linda_event.specs.Paths as paths
use Rattle.linda_client.specs.declared.fault.ClientFault.{ClientFault}
use Rattle.linda_client.specs.declared.fault.ClientFault.TheVariants as faults
use Rattle.linda_client.specs.declared.outcome.Got.{Got}
use Rattle.linda_client.specs.declared.outcome.Outcome.{Outcome}
use Rattle.linda_client.specs.declared.outcome.Outcome.TheVariants as outcomes
use Rattle.linda_client.specs.declared.reaction.Reaction.{Reaction as Told}
use Rattle.linda_client.specs.declared.task.Task.TheVariants as tasks
use Rattle.linda_client.specs.Client.{Client}
use Rattle.linda_client.specs.Packets.{Packet}

-- What is sent, how what was pending ended, what a server refused, and the client after the call.
pub record Reaction : Type 0 where
  pub packets : List Packet
  pub outcome : Option Outcome
  pub fault : Option (ℕ × ℕ × ℕ)
  pub client : Client

-- A reaction, or why the call is refused; a refused call leaves the client as it is.
abbrev pub Answer : Type 0
Answer = Result Reaction ClientFault

-- nothing is sent and nothing is reported
abbrev pub no_reaction : Client → Reaction
no_reaction c = record { packets = []; outcome = None; fault = None; client = c }

-- only these packets are sent
abbrev pub send : List Packet → Client → Reaction
send packets c = record { packets = packets; outcome = None; fault = None; client = c }

-- a server refused something: that is handed on
abbrev pub hand_on : Client → ℕ → ℕ → ℕ → Reaction
hand_on c server code detail = record {
  packets = [];
  outcome = None;
  fault = Some (server, code, detail);
  client = c;
}

-- what was pending has ended so, and these packets are sent
abbrev pub finish : Client → List Packet → Outcome → Reaction
finish c packets outcome = record {
  packets = packets;
  outcome = Some outcome;
  fault = None;
  client = record c { task = tasks.Idle };
}

-- A commitment to a base, with the labels above it and what it raises.
abbrev pub commitment : Tree → ℕ → Got → Outcome
commitment event base got =
    outcomes.Synced base got (paths.labels event base) (paths.raised event base)

-- a synchronization commits to a base: it ends, and these packets are sent
abbrev pub commit : Client → Tree → List Packet → ℕ → Got → Reaction
commit c event packets base got = finish c packets (commitment event base got)

-- What a call returned, with the client after it.
abbrev pub shown : Told → Client → Reaction
shown told c =
    record { packets = told.packets.items; outcome = told.outcome; fault = told.fault; client = c }

-- The refusal is that of the answer; `Memory` is returned only if the call is not refused.
abbrev pub IsRefusal : ClientFault → Answer → Type 0
IsRefusal faults.ServersRange answer = answer ≡ Err faults.ServersRange
IsRefusal faults.Left answer = answer ≡ Err faults.Left
IsRefusal faults.Busy answer = answer ≡ Err faults.Busy
IsRefusal faults.Idle answer = answer ≡ Err faults.Idle
IsRefusal faults.NoServer answer = answer ≡ Err faults.NoServer
IsRefusal faults.TooDeep answer = answer ≡ Err faults.TooDeep
IsRefusal faults.TooManyBases answer = answer ≡ Err faults.TooManyBases
IsRefusal faults.Spent answer = answer ≡ Err faults.Spent
IsRefusal faults.Memory answer = IsOk answer

-- A call does what the answer says: what it returned and the client after it are the answer's
-- reaction, or it was refused as the answer says and the client is as before; or memory ran out if
-- the answer is no refusal, and the client is as before.
abbrev pub Does : Client → Result Told ClientFault → Client → Answer → Type 0
Does old (Ok told) new answer = answer ≡ Ok (shown told new)
Does old (Err fault) new answer = IsRefusal fault answer × (new ≡ old)
