-- Runs: how a world begins, and which worlds they lead to.
use Rattle.std.specs.Prelude.{◌≡◌, ℕ, ◌≤◌, false, List, [], ◌∷◌, length, All}
use Rattle.std.specs.FinMap as map
use Rattle.linda_client.specs.declared.limits.TheConstants.{MAX_SERVERS}
use Rattle.linda_store_state.specs.State.{empty_state}
use Rattle.linda_store_step.specs.Soft.{no_asks}
use Rattle.linda_store.specs.Node.{Node}
use Rattle.linda_world_laws.specs.declared.event.WorldEvent.{WorldEvent}
use Rattle.linda_world_laws.specs.World.{Server, World}
use Rattle.linda_world_laws.specs.Steps.{Told, Steps, HasJoined}

-- A node that was never used: it is up, in the empty state, holds nothing and lets nobody wait.
pub record IsUnused (node : Node) : Type 0 where
  pub state : node.state ≡ empty_state
  pub soft : node.soft ≡ no_asks
  pub is_up : node.is_down ≡ false

-- a server that has done nothing
pub record IsNew (server : Server) : Type 0 where
  pub deeds : server.deeds ≡ []
  pub unused : IsUnused server.node

-- The world begins: 1 to 16 new servers, no client and no packet.
pub record IsStart (w : World) : Type 0 where
  pub some : 1 ≤ length w.servers
  pub few : length w.servers ≤ MAX_SERVERS
  pub servers : All IsNew w.servers
  pub members : w.members ≡ map.empty
  pub packets : w.packets ≡ []

-- A run leads to this world.
pub data IsReached : World → Type 0 where
  begins : (w : World) → IsStart w → IsReached w
  joins : (w new : World) (c : ℕ) → IsReached w → HasJoined c w new → IsReached new
  goes : (w new : World) (event : WorldEvent) (told : Told) → IsReached w → Steps w event told new
      → IsReached new

-- These events, one after another, lead from one world to the other.
abbrev pub Runs : World → List WorldEvent → World → Type 0
Runs w [] new = new ≡ w
Runs w (event ∷ events) new =
    (told : Told) × ((mid : World) × (Steps w event told mid × Runs mid events new))
