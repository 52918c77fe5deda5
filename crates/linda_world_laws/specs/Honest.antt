-- Honesty of each step, in deeds, replies and what was given: whatever is reported was done.
use Rattle.std.specs.Prelude.{◌≡◌, ◌≢◌, ℕ, ◌<◌, ◌≤◌, List, length, Some, Contains}
use Rattle.std.specs.List.{slice_get}
use Rattle.linda_client.specs.declared.limits.TheConstants.{MAX_SERVERS}
use Rattle.linda_store_state.specs.declared.deed.Deed.TheVariants.{Take}
use Rattle.linda_store.specs.Sound.{IsSound}
use Rattle.linda_client.specs.Client.{Client, IsClient, next_at}
use Rattle.linda_wire.specs.declared.message.Message.{Message}
use Rattle.linda_client.specs.Numbers.{number_of, IsUnanswered}
use Rattle.linda_world_laws.specs.World.{Server, World}
use Rattle.linda_world_laws.specs.Promises.{OfEach, IsOnce, OfPackets, IsBacked}

-- What a client was given at a server was taken there by a number that the client used, and awaits
-- no more.
pub record IsEarned (servers : List Server) (c : ℕ) (client : Client) (pair : ℕ × ℕ) : Type 0 where
  pub server : Server
  pub there : slice_get servers pair.0 ≡ Some server
  pub number : ℕ
  pub taken : Contains server.deeds (Take c number pair.1)
  pub used : number < next_at client pair.0
  pub over : (k : Message) → IsUnanswered client pair.0 k → number_of k ≢ Some number

-- P holds of each server, with its number.
abbrev pub OfServers : World → (ℕ → Server → Type 0) → Type 0
OfServers w P = (s : ℕ) (server : Server) → slice_get w.servers s ≡ Some server → P s server

-- Servers are sound, each reply that reports a deed is backed by it, clients keep their ranges,
-- and what they were given they earned, and were given once.
pub record IsHonest (w : World) : Type 0 where
  pub some : 1 ≤ length w.servers
  pub few : length w.servers ≤ MAX_SERVERS
  pub sound : OfServers w (λ s server. IsSound server.deeds server.node)
  pub backed : OfPackets (IsBacked w.servers) w.packets
  pub clients : OfEach w (λ c m. IsClient m.client)
  pub earned : OfEach w
      (λ c m. (pair : ℕ × ℕ) → Contains m.got pair → IsEarned w.servers c m.client pair)
  pub once : OfEach w (λ c m. IsOnce m.got)
