-- The machine as contracts see it: a world, and whether memory ran out.
use Rattle.std.specs.Prelude.{◌≡◌, ℕ, Bool, true, false, List, [], ◌∷◌, ◌++◌, Option, Some, None}
use Rattle.std.specs.Prelude.{IsSome, Result, Ok, Err}
use Rattle.std.specs.FinMap as maps
use Rattle.linda_store_state.specs.declared.deed.Deed.{Deed}
use Rattle.linda_world_laws.specs.declared.event.WorldEvent.{WorldEvent}
use Rattle.linda_world_laws.specs.declared.seen.Seen.{Seen}
use Rattle.linda_world_laws.specs.World as run
use Rattle.linda_world_laws.specs.Steps as steps
use Rattle.linda_world_laws.specs.Steps.{Told, HasJoined}
use Rattle.linda_world_laws.specs.Reached.{IsReached}
use Rattle.linda_world.specs.declared.fault.WorldFault.{WorldFault}
use Rattle.linda_world.specs.declared.fault.WorldFault.TheVariants as faults
use Rattle.linda_world.specs.Answer.{Tells}
use Rattle.linda_world.specs.Refusal.{early_refusal, refusal, refusal_of_join}
use Rattle.linda_world.specs.Scene.{IsShownAs}

pub record World : Type 0 where
  pub world : run.World
  pub is_spent : Bool

-- What it shows, the deeds of its servers, what its clients were given, and its packets, is that of
-- a world that a run leads to; and until memory ran out it is that world.
pub record IsRun (w : World) : Type 0 where
  pub now : run.World
  pub reached : IsReached now
  pub shown : IsShownAs now w.world
  pub whole : w.is_spent ≡ false → w.world ≡ now

-- Memory ran out, before, or now if nothing was refused: it is spent, and shows what it showed; and
-- if it was spent before, nothing changed.
pub record IsShort (refused : Option WorldFault) (old new : World) : Type 0 where
  pub allowed : old.is_spent ≡ false → refused ≡ None
  pub spent : new.is_spent ≡ true
  pub shown : IsShownAs old.world new.world
  pub same : old.is_spent ≡ true → new ≡ old

-- It was not spent, the event is not refused, and a step took place; it is not spent then.
pub record IsStep (old : World) (event : WorldEvent) (new : World) (told : Told) : Type 0 where
  pub was : old.is_spent ≡ false
  pub allowed : refusal old.world event ≡ None
  pub now : new.is_spent ≡ false
  pub step : steps.Steps old.world event told new.world

-- It was not spent, and refuses the event; nothing changed.
pub record Refuses (refused : Option WorldFault) (old new : World) (fault : WorldFault)
    : Type 0 where
  pub was : old.is_spent ≡ false
  pub why : refused ≡ Some fault
  pub same : new ≡ old

-- What an event comes to: a step, if a server that is down is reported as a fault; a refusal; or
-- `Memory`.
abbrev pub Steps : World → WorldEvent → Result Seen WorldFault → World → Type 0
Steps old event result new = Tells (IsStep old event new)
    (Refuses (refusal old.world event) old new) (IsShort (early_refusal old.world event) old new)
    result

-- These events, one after another, none of them refused and no server down, lead from one to the
-- other.
abbrev pub Runs : World → List WorldEvent → World → Type 0
Runs old [] new = new ≡ old
Runs old (event ∷ events) new =
    (seen : Seen) × ((mid : World) × (Steps old event (Ok seen) mid × Runs mid events new))

-- What an event comes to, if nothing is reported of what is seen.
abbrev pub Passes : World → WorldEvent → Result (Unit {0}) WorldFault → World → Type 0
Passes old event (Ok done) new = (seen : Seen) × Steps old event (Ok seen) new
Passes old event (Err fault) new = Steps old event (Err fault) new

-- These events were done before the one that was answered by the fault, and none after it.
pub record StopsAt (old : World) (events : List WorldEvent) (fault : WorldFault) (new : World)
    : Type 0 where
  pub before : List WorldEvent
  pub event : WorldEvent
  pub later : List WorldEvent
  pub parts : events ≡ before ++ event ∷ later
  pub mid : World
  pub runs : Runs old before mid
  pub step : Steps mid event (Err fault) new

-- What a list of events comes to.
abbrev pub Ran : World → List WorldEvent → Result (Unit {0}) WorldFault → World → Type 0
Ran old events (Ok done) new = Runs old events new
Ran old events (Err fault) new = StopsAt old events fault new

-- A client joined, and nothing is spent.
pub record IsJoin (c : ℕ) (old new : World) : Type 0 where
  pub was : old.is_spent ≡ false
  pub now : new.is_spent ≡ false
  pub joined : HasJoined c old.world new.world

-- What the joining of a client comes to: its number may be known.
abbrev pub Joins : World → ℕ → Result (Unit {0}) WorldFault → World → Type 0
Joins old c (Ok done) new = IsJoin c old new
Joins old c (Err faults.ClientKnown) new =
    IsSome (maps.get old.world.members c) × ((old.is_spent ≡ false) × (new ≡ old))
Joins old c (Err faults.Memory) new = IsShort (refusal_of_join old.world c) old new
Joins old c (Err fault) new = ⊥

-- what a client was given; nothing, if there is none of this number
abbrev pub got_by : Option run.Member → List (ℕ × ℕ)
got_by None = []
got_by (Some member) = member.got

-- what a server did; nothing, if there is none of this number
abbrev pub deeds_by : Option run.Server → List Deed
deeds_by None = []
deeds_by (Some server) = server.deeds
