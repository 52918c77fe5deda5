-- Doing again what the records of a journal say.
use Rattle.std.specs.Prelude.{◌≡◌, ℕ, List, ◌∷◌, ◌++◌}
use Rattle.linda_store_state.specs.declared.deed.Deed.{Deed}
use Rattle.linda_store_state.specs.State.{State, IsState}
use Rattle.linda_store_state.specs.Proper.{IsProper, AreDone}
use Rattle.linda_journal.specs.declared.record.Record.{Record}
use Rattle.linda_journal.specs.Journal.{deeds_of}
use Rattle.linda_snap.specs.declared.replay.ReplayFault.{ReplayFault}
use Rattle.linda_snap.specs.declared.replay.ReplayFault.TheVariants.{Memory, Improper}
use Rattle.linda_snap.specs.Stands.{deeds_in}

-- The deeds of records, joined.
abbrev pub joined : List Record → List Deed
joined records = deeds_in (deeds_of records)

-- These deeds lead from one state to the other, whatever was done before.
abbrev pub GoesOn : State → List Deed → State → Type 0
GoesOn old ds new =
    (st : State) (before : List Deed) → IsState st → AreDone st before old
    → AreDone st (before ++ ds) new

-- These deeds cannot be done in this state, whatever was done before and whatever comes later.
abbrev pub Stops : State → List Deed → Type 0
Stops old ds =
    (st : State) (before later : List Deed) → IsState st → AreDone st before old
    → IsProper st (before ++ ds ++ later) → ⊥

-- The first record whose deeds cannot be done after those before it is the one with this gate.
pub record IsImproper (st : State) (records : List Record) (gate : ℕ) : Type 0 where
  pub before : List Record
  pub one : Record
  pub later : List Record
  pub parts : records ≡ before ++ one ∷ later
  pub gate_is : one.gate ≡ gate
  pub proper : IsProper st (joined before)
  pub not : (more : List Deed) → IsProper st (joined before ++ one.deeds.items ++ more) → ⊥

-- What a fault of a replay says.
abbrev pub IsReplayFault : State → List Record → ReplayFault → Type 0
IsReplayFault st records Memory = Unit {0}
IsReplayFault st records (Improper gate) = IsImproper st records gate
