-- Answers of a world's calls, or of a part of it: that something is done, that it is refused, or
-- that memory ran out.
use Rattle.std.specs.Prelude.{◌≡◌, ℕ, List, ◌++◌, Result, Ok, Err, map}
use Rattle.linda_store_state.specs.declared.deed.Deed.{Deed}
use Rattle.linda_store.specs.Node.{Node, NodeAnswer}
use Rattle.linda_world_laws.specs.declared.packet.Packet.{Packet}
use Rattle.linda_world_laws.specs.declared.seen.Seen.{Seen}
use Rattle.linda_world_laws.specs.World.{Server, sent_from}
use Rattle.linda_world_laws.specs.Steps.{Told, Task, Does, sends_of, served}
use Rattle.linda_world.specs.declared.fault.WorldFault.{WorldFault}
use Rattle.linda_world.specs.declared.fault.WorldFault.TheVariants as faults

-- By cases of the answer: it is done, a server that is down included; it is refused so; or memory
-- ran out.
abbrev pub Tells : (Told → Type 0) → (WorldFault → Type 0) → Type 0 → Result Seen WorldFault
    → Type 0
Tells IsDone IsRefused IsShort (Ok seen) = IsDone (Ok seen)
Tells IsDone IsRefused IsShort (Err (faults.Down s)) = IsDone (Err s)
Tells IsDone IsRefused IsShort (Err faults.Memory) = IsShort
Tells IsDone IsRefused IsShort (Err faults.NoClient) = IsRefused faults.NoClient
Tells IsDone IsRefused IsShort (Err faults.NoServer) = IsRefused faults.NoServer
Tells IsDone IsRefused IsShort (Err faults.NoPacket) = IsRefused faults.NoPacket
Tells IsDone IsRefused IsShort (Err faults.ClientKnown) = IsRefused faults.ClientKnown
Tells IsDone IsRefused IsShort (Err faults.TooManyPackets) = IsRefused faults.TooManyPackets
Tells IsDone IsRefused IsShort (Err (faults.Client fault)) = IsRefused (faults.Client fault)

-- The server, and the packets, after it was asked this.
pub record Serves (task : Task) (s : ℕ) (old : Server) (ps : List Packet) (told : Told)
    (new : Server) (later : List Packet) : Type 0 where
  pub answer : NodeAnswer
  pub deeds : List Deed
  pub node : Node
  pub done : Does task old.node answer deeds node
  pub server_is : new ≡ record { deeds = old.deeds ++ deeds; node = node }
  pub packets_are : later ≡ ps ++ map (sent_from s) (sends_of task answer)
  pub told_is : told ≡ served s answer

-- A server did that; or memory ran out, and its deeds and the packets are as before.
abbrev pub ServesOrNot : {E : Type 0} → Task → ℕ → Server → List Packet → Result Told E → Server
    → List Packet → Type 0
ServesOrNot task s old ps (Ok told) new later = Serves task s old ps told new later
ServesOrNot task s old ps (Err short) new later = (new.deeds ≡ old.deeds) × (later ≡ ps)
