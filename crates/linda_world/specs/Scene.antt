-- Scene of a world: what an event comes to, a step, a refusal, or `Memory`.
use Rattle.std.specs.Prelude.{◌≡◌, ℕ, List, [], Option, Some, None, IsSome, Result, Ok, Err, map}
use Rattle.std.specs.FinMap as maps
use Rattle.linda_store.specs.Node.{Node}
use Rattle.linda_world_laws.specs.declared.event.WorldEvent.{WorldEvent}
use Rattle.linda_world_laws.specs.declared.seen.Seen.{Seen}
use Rattle.linda_world_laws.specs.World.{Server, World}
use Rattle.linda_world_laws.specs.Steps.{Told, Steps, HasJoined}
use Rattle.linda_world.specs.declared.fault.WorldFault.{WorldFault}
use Rattle.linda_world.specs.declared.fault.WorldFault.TheVariants as faults
use Rattle.linda_world.specs.Answer.{Tells}
use Rattle.linda_world.specs.Member.{SameGot}
use Rattle.linda_world.specs.Refusal.{early_refusal, refusal, refusal_of_join}

-- It shows the same: what each server did, what each client was given, and all packets.
pub record IsShownAs (old new : World) : Type 0 where
  pub deeds : map (λ (s : Server). s.deeds) new.servers ≡ map (λ (s : Server). s.deeds) old.servers
  pub got : SameGot old.members new.members
  pub packets : new.packets ≡ old.packets

-- what the world answers if a server returned this, or memory ran out
abbrev pub answer_of : Told → Result Seen WorldFault
answer_of (Ok seen) = Ok seen
answer_of (Err s) = Err (faults.Down s)

abbrev pub seen_of : {E : Type 0} → Result Told E → Result Seen WorldFault
seen_of (Ok told) = answer_of told
seen_of (Err short) = Err faults.Memory

-- It is not refused, and this came of it; or it is refused so, and nothing changed; or memory ran
-- out, if it was not refused early, and what is shown is as before.
abbrev pub TriesOrNot : (World → Told → World → Type 0) → Option WorldFault → Option WorldFault
    → World
    → Result Seen WorldFault → World → Type 0
TriesOrNot Comes refused early old result new =
    Tells (λ told. (refused ≡ None) × Comes old told new)
    (λ fault. (refused ≡ Some fault) × (new ≡ old))
    ((early ≡ None) × IsShownAs old new) result

-- As `TriesOrNot`, but memory runs out only if it is not refused.
abbrev pub AsksOrNot : (World → Told → World → Type 0) → Option WorldFault → World
    → Result Seen WorldFault → World → Type 0
AsksOrNot Comes refused old result new = TriesOrNot Comes refused refused old result new

-- What an event comes to.
abbrev pub Answers : World → WorldEvent → Result Seen WorldFault → World → Type 0
Answers old event result new =
    TriesOrNot (λ w told then. Steps w event told then) (refusal old event)
    (early_refusal old event) old result new

-- a server that has done nothing
abbrev pub new_server : Node → Server
new_server node = record { deeds = []; node = node }

-- A world of these nodes, in which nothing has happened.
abbrev pub world_of : List Node → World
world_of nodes = record { servers = map new_server nodes; members = maps.empty; packets = [] }

-- A client joined; or its number is known, or memory ran out if it is not, and nothing changed.
abbrev pub AddsOrNot : World → ℕ → Result (Unit {0}) WorldFault → World → Type 0
AddsOrNot old c (Ok done) new = HasJoined c old new
AddsOrNot old c (Err faults.ClientKnown) new = IsSome (maps.get old.members c) × (new ≡ old)
AddsOrNot old c (Err faults.Memory) new = (refusal_of_join old c ≡ None) × (new ≡ old)
AddsOrNot old c (Err fault) new = ⊥
