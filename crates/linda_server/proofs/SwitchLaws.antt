-- What crashes leave while the disk that is not in use changes beside the bank in use.
use Rattle.std.proofs.Common.{◌≡◌, ℕ, inl, inr, Bool, true, false, not, List, [], sym, subst, arith}
use Rattle.std.proofs.Math.Logic.{∥∥₁_map, ∥∥₁_elim}
use Rattle.std.proofs.lemmas.Grind.{not_there}
use Rattle.std.specs.Coded.{Coded-set, coded_list, coded_ℕ}
use Rattle.linda_tuple.specs.declared.form.Form.{Form}
use Rattle.linda_store_state.specs.declared.deed.Deed.{Deed}
use Rattle.linda_store_state.specs.Proper.{AreDone}
use Rattle.linda_store_state.proofs.ProperLaws.{none_done}
use Rattle.linda_store_state.specs.State.{State, IsState}
use Rattle.linda_disk.specs.View.{View, IsTimed}
use Rattle.linda_disk.specs.Run.{LeavesOnly}
use Rattle.linda_disk.proofs.RunLaws.{weaker}
use Rattle.linda_journal.specs.Renewal.{IsSameOrNone}
use Rattle.linda_snap.specs.Stands.{IsUp, IsStored, Stands, StandsBeside}
use Rattle.linda_snap.proofs.StandsLaws.{stands_on, stands_now}
use Rattle.linda_disk.specs.declared.disk.Disk.{Ghosts}
use Rattle.linda_journal.specs.declared.bank.Bank.{Bank}
use Rattle.linda_server.specs.declared.disks.Disks.{Disks}
use Rattle.linda_server.specs.declared.disks.Disks.TheVariants.{InUse, Shut, Away}
use Rattle.linda_server.specs.declared.disks.Pair.{Pair}
use Rattle.linda_server.specs.Pairs.{PairsSince}
use Rattle.linda_server.specs.Disks.{sides, IsKept}
use Rattle.linda_server.specs.Calls.{StandsFor, IsWithOrWithout}
use Rattle.linda_server.specs.Switch.{IsOtherDurable}
use Rattle.linda_server.specs.Server.{both_of, BothHonest, IsUpFor, IsKeptFor}

abbrev For : State → List ℕ → List ℕ → Type 0
For st left right = Stands left right st

-- Whichever of the two is in use.
swapped : (left right : List ℕ) (st : State) → Stands left right st → Stands right left st
swapped left right st (inl is) = inr is
swapped left right st (inr is) = inl is

module _ (form : Form) (generation end : ℕ) (used other : View) (st : State) (up : IsUp form generation end used other st) (timed : IsTimed used) where
  -- The bank in use is as it was, whenever it crashes.
  stands_with : (new : View) → LeavesOnly other new (StandsBeside used.seen st) → (image beside : List ℕ)
      → used.left_since used.moment image → new.left_since other.moment beside
      → Stands image beside st
  stands_with new run image beside left later =
      subst (λ file. Stands file beside st) (sym (up.stored.settled.durable image (timed.only_now image left))) (run.each beside later)

  beside_used : (is_right : Bool) (new : View) → LeavesOnly other new (StandsBeside used.seen st)
      → PairsSince (sides is_right used other) (sides is_right used new) (For st)
  beside_used true new run = record {
    left_later = run.later;
    right_later = omega arith;
    each = λ left right l r. swapped right left st (stands_with new run right left r l);
  }
  beside_used false new run = record {
    left_later = omega arith;
    right_later = run.later;
    each = λ left right l r. stands_with new run left right l r;
  }

-- If the other disk comes into use, each disk is still on its side.
turned : (is_right : Bool) (used other new : View) (st : State) → PairsSince (sides is_right used other) (sides is_right used new) (For st)
    → PairsSince (sides is_right used other) (sides (not is_right) new used) (For st)
turned true used other new st since = since
turned false used other new st since = since

module _ {D : Type 0} {g : Ghosts D} (timed : (d : D) → g.honest d → IsTimed (g.view d))
    (disks : Disks (Bank D g) D) (pair : Pair (Bank D g) D) (is : disks ≡ InUse pair) (st : State) where
  -- Of the other disk a run leaves what represents the state beside the bank in use.
  abbrev LeavesBeside : View → Type 0
  LeavesBeside new = g.honest pair.bank.disk → g.honest pair.other
      → IsUp pair.bank.form pair.bank.generation pair.bank.end (g.view pair.bank.disk) (g.view pair.other) st
      → LeavesOnly (g.view pair.other) new (StandsBeside (g.view pair.bank.disk).seen st)

  -- The other disk is written, and is still not in use;
  pub changed : (new : View) → LeavesBeside new → BothHonest disks → IsUpFor disks st
      → PairsSince (both_of disks) (sides pair.is_right (g.view pair.bank.disk) new) (For st)
  changed new run are up =
      let are_so : BothHonest (InUse pair) = subst (BothHonest) is are in
      let up_so : IsUpFor (InUse pair) st = subst (λ d. IsUpFor d st) is up in
      subst (λ d. PairsSince (both_of d) (sides pair.is_right (g.view pair.bank.disk) new) (For st)) (sym is)
      (beside_used pair.bank.form pair.bank.generation pair.bank.end (g.view pair.bank.disk)
      (g.view pair.other) st up_so (timed pair.bank.disk are_so.0) pair.is_right new (run are_so.0 are_so.1 up_so))

  -- or it is taken into use.
  pub taken : (new : View) → LeavesBeside new → BothHonest disks → IsUpFor disks st
      → PairsSince (both_of disks) (sides (not pair.is_right) new (g.view pair.bank.disk)) (For st)
  taken new run are up =
      subst (λ d. PairsSince (both_of d) (sides (not pair.is_right) new (g.view pair.bank.disk)) (For st)) (sym is)
      (turned pair.is_right (g.view pair.bank.disk) (g.view pair.other) new st
      (subst (λ d. PairsSince (both_of d) (sides pair.is_right (g.view pair.bank.disk) new) (For st)) is (changed new run are up)))

  -- What is known of a new bank on it, beside the disk of the old one.
  pub kept_taken : (is_new_honest : Type 0) (new_form : Form) (new_generation new_end : ℕ) (new : View)
      → (is_new_honest → g.honest pair.other) → (is_new_honest → IsStored new_form new_generation new_end new st)
      → (g.honest pair.bank.disk → g.honest pair.other
      → IsUp pair.bank.form pair.bank.generation pair.bank.end (g.view pair.bank.disk) (g.view pair.other) st
      → IsUp new_form new_generation new_end new (g.view pair.bank.disk) st)
      → IsKeptFor disks st
      → IsKept is_new_honest (g.honest pair.bank.disk) new_form new_generation new_end new (g.view pair.bank.disk) st
  kept_taken is_new_honest new_form new_generation new_end new was stored up_next kept =
      let so : IsKeptFor (InUse pair) st = subst (λ d. IsKeptFor d st) is kept in
      record {
        stored = stored;
        durable = λ used. (so.stored used).settled.durable;
        lesser = λ h used. (up_next used (was h) record { stored = so.stored used; lesser = so.lesser used (was h); durable = so.durable (was h) }).lesser;
      }

-- Beside the bank in use, a disk that is emptied leaves the state represented, at each moment.
pub emptied_beside : (form : Form) (generation end : ℕ) (used other new : View) (st : State) → IsUp form generation end used other st
    → LeavesOnly other new (IsSameOrNone other.seen) → LeavesOnly other new (StandsBeside used.seen st)
emptied_beside form generation end used other new st up run = weaker other new (IsSameOrNone other.seen) (StandsBeside used.seen st) run by
  where
    by : (image : List ℕ) → IsSameOrNone other.seen image → StandsBeside used.seen st image
    by image (inl same) = subst (StandsBeside used.seen st) (sym same) (stands_now form generation end used other st up)
    by image (inr none) = inl record { generation = generation; stands = stands_on form generation end used st up.stored; lesser = inl none }

-- So the other disk is written, and is still not in use.
pub changed_by : {D : Type 0} {g : Ghosts D} (timed : (d : D) → g.honest d → IsTimed (g.view d)) (disks : Disks (Bank D g) D) (pair : Pair (Bank D g) D)
    → disks ≡ InUse pair → (st : State) (new : D)
    → (g.honest pair.other → LeavesOnly (g.view pair.other) (g.view new) (IsSameOrNone (g.view pair.other).seen)) → BothHonest disks → IsUpFor disks st
    → PairsSince (both_of disks) (sides pair.is_right (g.view pair.bank.disk) (g.view new)) (For st)
changed_by {g = g} timed disks pair is st new run =
    changed timed disks pair is st (g.view new)
    (λ used other was. emptied_beside pair.bank.form pair.bank.generation pair.bank.end (g.view pair.bank.disk)
    (g.view pair.other) (g.view new) st was (run other))

-- ---- if it is known only that some bank is in use

module _ {D : Type 0} {g : Ghosts D} (timed : (d : D) → g.honest d → IsTimed (g.view d)) where
  pub other_durable : (disks : Disks (Bank D g) D) (st : State) → ∥ IsKeptFor disks st ∥₁ → IsOtherDurable disks
  other_durable (InUse pair) st kept = λ h image left. ∥∥₁_elim kept (Coded-set (coded_list coded_ℕ) _ _) (λ k. k.durable h image left)
  other_durable (Shut left right) st kept = not_there kept (λ k. k)
  other_durable Away st kept = not_there kept (λ k. k)

-- What represents a state, represents it and no deed.
pub with_none : (st : State) (deeds : List Deed) → deeds ≡ [] → IsState st → (left right : List ℕ)
    → StandsFor st left right → IsWithOrWithout st deeds left right
with_none st deeds none is left right some =
    ∥∥₁_map some (λ x. record { new = st; ranges = is; done = subst (λ ds. AreDone st ds st) (sym none) (none_done st is); stands = inl x })
