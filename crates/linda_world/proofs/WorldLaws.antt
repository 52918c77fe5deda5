-- A world goes on by a step, or shows what it showed.
use Rattle.std.proofs.Common.{◌≡◌, ℕ, Bool, true, false, true≢false, List, [], ◌∷◌, ◌++◌, refl, sym, ◌∙◌, subst}
use Rattle.std.specs.Prelude.{None, Ok, Err, ◌≤◌, All, length, map}
use Rattle.std.proofs.Common.{arith}
use Rattle.std.proofs.lemmas.List.{length-map}
use Rattle.std.proofs.lemmas.List.Elements.{All-map, All-weaker}
use Rattle.linda_client.specs.declared.limits.TheConstants.{MAX_SERVERS}
use Rattle.linda_store.specs.Node.{Node}
use Rattle.linda_world.specs.declared.fault.WorldFault.{WorldFault}
use Rattle.linda_world.specs.declared.fault.WorldFault.TheVariants as faults
use Rattle.linda_world_laws.specs.declared.event.WorldEvent.{WorldEvent}
use Rattle.linda_world_laws.specs.declared.seen.Seen.{Seen}
use Rattle.linda_world_laws.specs.World as run
use Rattle.linda_world_laws.specs.Steps as steps
use Rattle.linda_world_laws.specs.Steps.{Told, HasJoined}
use Rattle.linda_world_laws.specs.Reached.{IsUnused, IsNew, IsStart, IsReached, joins, goes}
use Rattle.linda_world.specs.Refusal.{refusal}
use Rattle.linda_world.specs.Scene.{IsShownAs, AddsOrNot, Answers, new_server, world_of}
use Rattle.linda_world.specs.World.{World, IsRun, Steps, Runs, StopsAt}

same_shown : (w : run.World) → IsShownAs w w
same_shown w = record { deeds = refl; got = λ d. refl; packets = refl }

-- A world that a run leads to.
pub is_run : (w : run.World) (spent : Bool) → IsReached w → IsRun (record { world = w; is_spent = spent })
is_run w spent reached = record { now = w; reached = reached; shown = same_shown w; whole = λ _. refl }

-- until memory ran out it is the one that the run leads to
pub reached_now : (w : World) → IsRun w → w.is_spent ≡ false → IsReached w.world
reached_now w is unspent = subst IsReached (sym (is.whole unspent)) is.reached

pub goes_on : (w new : run.World) (was spent : Bool) (event : WorldEvent) (told : Told) → IsRun (record { world = w; is_spent = was })
    → was ≡ false → (refusal w event ≡ None) × steps.Steps w event told new → IsRun (record { world = new; is_spent = spent })
goes_on w new was spent event told is unspent step =
    is_run new spent (goes w new event told (reached_now (record { world = w; is_spent = was }) is unspent) step.1)

pub joins_on : (w new : run.World) (was spent : Bool) (c : ℕ) → IsRun (record { world = w; is_spent = was })
    → was ≡ false → HasJoined c w new → IsRun (record { world = new; is_spent = spent })
joins_on w new was spent c is unspent joined = is_run new spent (joins w new c (reached_now (record { world = w; is_spent = was }) is unspent) joined)

pub falls_short : (w new : run.World) (was : Bool) → IsRun (record { world = w; is_spent = was })
    → IsShownAs w new → IsRun (record { world = new; is_spent = true })
falls_short w new was is shown = record {
  now = is.now;
  reached = is.reached;
  shown = record { deeds = shown.deeds ∙ is.shown.deeds; got = λ d. shown.got d ∙ is.shown.got d; packets = shown.packets ∙ is.shown.packets };
  whole = λ e. absurd (true≢false e);
}

-- After a fault: if the server is down, the event took place; if the event is refused, nothing changed; and if memory ran out, the world is spent.
pub fails : (w new : run.World) (was spent : Bool) (event : WorldEvent) (fault : WorldFault) → IsRun (record { world = w; is_spent = was })
    → was ≡ false → (fault ≡ faults.Memory → spent ≡ true) → Answers w event (Err fault) new → IsRun (record { world = new; is_spent = spent })
fails w new was spent event fault is unspent is_spent answer = by fault is_spent answer
  where
    stays : new ≡ w → IsRun (record { world = new; is_spent = spent })
    stays same = is_run new spent (subst IsReached (sym same) (reached_now (record { world = w; is_spent = was }) is unspent))

    by : (f : WorldFault) → (f ≡ faults.Memory → spent ≡ true) → Answers w event (Err f) new → IsRun (record { world = new; is_spent = spent })
    by (faults.Down s) short told = goes_on w new was spent event (Err s) is unspent told
    by faults.Memory short told = subst (λ b. IsRun (record { world = new; is_spent = b })) (sym (short refl)) (falls_short w new was is told.1)
    by faults.NoClient short told = stays told.1
    by faults.NoServer short told = stays told.1
    by faults.NoPacket short told = stays told.1
    by faults.ClientKnown short told = stays told.1
    by faults.TooManyPackets short told = stays told.1
    by (faults.Client why) short told = stays told.1

-- One event more.
pub runs_more : (w mid new : World) (events : List WorldEvent) (event : WorldEvent) (seen : Seen)
    → Runs w events mid → Steps mid event (Ok seen) new → Runs w (events ++ event ∷ []) new
runs_more w mid new [] event seen same step = (seen, (new, (subst (λ v. Steps v event (Ok seen) new) same step, refl)))
runs_more w mid new (x ∷ xs) event seen run step = (run.0, (run.1.0, (run.1.1.0, runs_more run.1.0 mid new xs event seen run.1.1.1 step)))

-- A world begins if its nodes were never used.
pub start_of : (nodes : List Node) → 1 ≤ length nodes → length nodes ≤ MAX_SERVERS → All IsUnused nodes → IsStart (world_of nodes)
start_of nodes some few unused =
    let count : length (map new_server nodes) ≡ length nodes = length-map nodes new_server in
    record {
      some = omega (arith, count, some);
      few = omega (arith, count, few);
      servers = All-map IsNew new_server nodes (All-weaker IsUnused (λ n. IsNew (new_server n)) (λ n is. record { deeds = refl; unused = is }) nodes unused);
      members = refl;
      packets = refl;
    }

-- If no client is added, nothing changes.
pub unchanged : (old : run.World) (c : ℕ) (fault : WorldFault) (new : run.World) → AddsOrNot old c (Err fault) new → new ≡ old
unchanged old c faults.ClientKnown new known = known.1
unchanged old c faults.Memory new short = short.1
unchanged old c faults.NoClient new never = absurd never
unchanged old c faults.NoServer new never = absurd never
unchanged old c faults.NoPacket new never = absurd never
unchanged old c faults.TooManyPackets new never = absurd never
unchanged old c (faults.Client fault) new never = absurd never
unchanged old c (faults.Down s) new never = absurd never

pub shown_unchanged : (old new : run.World) → new ≡ old → IsShownAs old new
shown_unchanged old new same = subst (IsShownAs old) (sym same) (same_shown old)

-- If one event is refused or goes wrong, the later ones are not done.
pub stops_at : (old mid new : World) (before later all : List WorldEvent) (event : WorldEvent) (fault : WorldFault)
    → all ≡ before ++ event ∷ later → Runs old before mid → Steps mid event (Err fault) new → StopsAt old all fault new
stops_at old mid new before later all event fault parts runs step =
    record { before = before; event = event; later = later; parts = parts; mid = mid; runs = runs; step = step }
