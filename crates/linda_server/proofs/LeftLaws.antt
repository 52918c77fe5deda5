-- The state that two disks represent after a crash.
use Rattle.std.proofs.Common.{◌≡◌, ℕ, Bool, true, false, ◌⊎◌, inl, inr, List, subst}
use Rattle.std.proofs.Math.Logic.{∥∥₁_map}
use Rattle.linda_store_state.specs.State.{State, empty_state}
use Rattle.linda_store_step.specs.Store.{Store, IsOrderly}
use Rattle.linda_store_step.specs.History.{Coming, History, Happens}
use Rattle.linda_store_step.proofs.HistoryLaws.{all_safe}
use Rattle.linda_store_step.proofs.OutcomeLaws.{one_outcome}
use Rattle.linda_disk.specs.declared.disk.Disk.{Ghosts}
use Rattle.linda_disk.specs.View.{View, IsTimed}
use Rattle.linda_journal.specs.declared.bank.Bank.{Bank}
use Rattle.linda_journal.specs.Renewal.{IsNoBank}
use Rattle.linda_journal.proofs.ImageLaws.{is_candidate}
use Rattle.linda_snap.specs.Snapshot.{spell_state}
use Rattle.linda_snap.specs.Stands.{Stands}
use Rattle.linda_snap.proofs.ChoiceLaws.{one_stands}
use Rattle.linda_server.specs.declared.disks.Disks.{Disks}
use Rattle.linda_server.specs.declared.disks.Disks.TheVariants.{InUse, Shut, Away}
use Rattle.linda_server.specs.Pairs.{Both, two, PairsSince, PairsNow}
use Rattle.linda_server.specs.Disks.{sides}
use Rattle.linda_server.specs.Server.{both_of, BothHonest}
use Rattle.linda_server.specs.Calls.{StandsAround, IsWithOrWithout, StandsAfter, IsBeforeOrAfter, IsNothingOr}
use Rattle.linda_server.specs.Lives.{AreLeft}

-- If two files represent a state, not both are without a bank.
not_none : (left right : List ℕ) (st : State) → Stands left right st → IsNoBank left × IsNoBank right → ⊥
not_none left right st (inl first) none =
    none.0 (is_candidate first.stands.form left first.generation (spell_state first.stands.form first.stands.opening) first.stands.records first.stands.bank)
not_none left right st (inr first) none =
    none.1 (is_candidate first.stands.form right first.generation (spell_state first.stands.form first.stands.opening) first.stands.records first.stands.bank)

-- If there is nothing or the empty state, the state that is represented is the empty one.
pub empty_stands : (left right : List ℕ) (st : State) → Stands left right st → IsNothingOr empty_state left right → st ≡ empty_state
empty_stands left right st stands (inl none) = absurd (not_none left right st stands none)
empty_stands left right st stands (inr empty) = one_stands left right st empty_state stands empty

-- The files represent the state before what came, or the one after it.
pub at_work_there : (old : Store) (xs : List Coming) (all : History) (left right : List ℕ) → IsOrderly old.state old.soft → Happens old.state old.soft xs all
    → IsBeforeOrAfter old xs left right → IsWithOrWithout old.state all.deeds left right
at_work_there old xs all left right orderly happens some = ∥∥₁_map some around
  where
    around : Stands left right old.state ⊎ StandsAfter old xs left right → StandsAround old.state all.deeds left right
    around x =
        let safe = all_safe old.state old.soft xs all orderly happens in
        record {
          new = all.state;
          ranges = orderly.state_is;
          done = record { proper = safe.proper; after = safe.after };
          stands = elim x [
            | inl before ↦ inl before
            | inr after ↦ inr (subst (λ (h : History). Stands left right h.state)
                (one_outcome old.state old.soft xs after.all all orderly after.happens happens) after.stands)
          ];
        }

timed_sides : (is_right : Bool) (used other : View) → IsTimed used → IsTimed other
    → IsTimed (sides is_right used other).left × IsTimed (sides is_right used other).right
timed_sides true used other timed_used timed = (timed, timed_used)
timed_sides false used other timed_used timed = (timed_used, timed)

module _ {D : Type 0} {g : Ghosts D} (timed : (d : D) → g.honest d → IsTimed (g.view d)) where
  timed_both : (disks : Disks (Bank D g) D) → BothHonest disks → IsTimed (both_of disks).left × IsTimed (both_of disks).right
  timed_both (InUse pair) are = timed_sides pair.is_right (g.view pair.bank.disk) (g.view pair.other) (timed pair.bank.disk are.0) (timed pair.other are.1)
  timed_both (Shut left right) are = (timed left are.0, timed right are.1)
  timed_both Away are = absurd are

  -- What crashes since leave, two disks after them leave.
  pub left_since : (old new : Both) (P : List ℕ → List ℕ → Type 0) (left right : D) → PairsSince old new P
      → AreLeft g old new left right → PairsNow (two (g.view left) (g.view right)) P
  left_since old new P left right since are a b la rb = since.each a b (are.left_was a la) (are.right_was b rb)

  pub left_now : (disks : Disks (Bank D g) D) (P : List ℕ → List ℕ → Type 0) (left right : D)
      → BothHonest disks → PairsNow (both_of disks) P → AreLeft g (both_of disks) (both_of disks) left right
      → PairsNow (two (g.view left) (g.view right)) P
  left_now disks P left right honest now are a b la rb =
      let times = timed_both disks honest in
      now a b (times.0.only_now a (are.left_was a la)) (times.1.only_now b (are.right_was b rb))
