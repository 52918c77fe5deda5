-- The two disks of a server that is down: taken apart, crashed and read again.
use Rattle.std.proofs.Common.{rules, ◌≡◌, ℕ, ◌⊎◌, inl, inr, Ok, IsErrOf, Bool, true, false, if◌then◌else◌, List, Some, sym, subst}
use Rattle.std.proofs.Math.Logic.{∥∥₁_map}
use Rattle.std.proofs.lemmas.Option.{same_Some, none-some}
use Rattle.linda_tuple.specs.declared.form.Form.{Form}
use Rattle.linda_store_state.specs.declared.deed.Deed.{Deed}
use Rattle.linda_store_state.specs.State.{State, IsState}
use Rattle.linda_store_state.specs.Proper.{AreDone}
use Rattle.linda_disk.specs.View.{View, IsTimed, LeavesNoMore}
use Rattle.linda_disk.specs.Run.{LeavesOnly}
use Rattle.std.specs.Global.{Vec}
use Rattle.linda_wire.specs.declared.message.Message.{Message}
use Rattle.linda_store_step.specs.Store.{Store}
use Rattle.linda_store_step.specs.History.{comings}
use Rattle.linda_store.specs.declared.work.Work.{Work}
use Rattle.linda_store.specs.declared.work.Work.TheVariants as works
use Rattle.linda_store.specs.Node.{MayRemain, in_hand}
use Rattle.linda_server.specs.Node.{shown}
use Rattle.linda_server.specs.declared.disks.Disks.{Disks}
use Rattle.linda_server.specs.declared.disks.Disks.TheVariants.{InUse, Shut, Away}
use Rattle.linda_server.specs.Pairs.{PairsNow, two}
use Rattle.linda_server.specs.Disks.{sides, both, disks_of, AreHonest, IsKept, IsKeptOn, AreRelated}
use Rattle.linda_server.specs.Calls.{IsWithOrWithout, StandsFor}

-- Disks that leave no more than two others leave what those leave.
pub fewer : (left right left_new right_new : View) (P : List ℕ → List ℕ → Type 0) → PairsNow (two left right) P
    → LeavesNoMore left left_new → LeavesNoMore right right_new
    → PairsNow (two left_new right_new) P
fewer left right left_new right_new P now fewer_left fewer_right a b la lb = now a b (fewer_left a la) (fewer_right b lb)

-- A crash at any moment left only what it could leave at first, so that is so now.
pub no_more : (old new : View) → IsTimed new → LeavesOnly old new old.may_leave → LeavesNoMore old new
no_more old new timed run image left = run.each image (timed.counts_now old.moment image run.later left)

-- What a read gives may be left.
pub as_read : (left right : View) (P : List ℕ → List ℕ → Type 0) → IsTimed left → IsTimed right → PairsNow (two left right) P → P left.seen right.seen
as_read left right P timed_left timed_right now = now left.seen right.seen timed_left.stays timed_right.stays

-- The files represent the state after the deeds.
pub stands_after : (before base now : State) (deeds ds : List Deed) (left right : List ℕ) → before ≡ base
    → ds ≡ deeds → IsState base → AreDone base deeds now → StandsFor now left right
    → IsWithOrWithout before ds left right
stands_after before base now deeds ds left right was same is done some =
    subst (λ b. IsWithOrWithout b ds left right) (sym was) (subst (λ l. IsWithOrWithout base l left right) (sym same)
    (∥∥₁_map some (λ x. record { new = now; ranges = is; done = done; stands = inr x })))

-- What was served was not refused.
pub not_full : {A E : Type 0} {fault : E} (x : A) (P : Type 0) → IsErrOf {T = A} {E = E} (Ok x) fault ⊎ P → P
not_full x P (inl full) = absurd (search (rules, full))
not_full x P (inr p) = p

-- What remains of messages remains of the work of them.
pub of_work : (work : Work) (messages : Vec (ℕ × Message)) (now : List (ℕ × Message)) → work ≡ works.Messages messages
    → now ≡ messages.items → (before : State) (store : Store) (down : Bool) (lost ds : List Deed)
    → MayRemain (shown before store down lost) (comings now) ds → MayRemain (shown before store down lost) (in_hand work) ds
of_work work messages now is same before store down lost ds remains =
    subst (λ w. MayRemain (shown before store down lost) (in_hand w) ds) (sym is)
    (subst (λ ms. MayRemain (shown before store down lost) (comings ms) ds) same remains)

module _ {B D : Type 0} (unbank : B → D) (disk : D → View) (honest : D → Type 0) where
  -- the left disk and the right one
  abbrev placed : Bool → B → D → D × D
  placed is_right bank other = if is_right then (other, unbank bank) else (unbank bank, other)

  abbrev LeaveNow : (List ℕ → List ℕ → Type 0) → D × D → Type 0
  LeaveNow P x = PairsNow (two (disk x.0) (disk x.1)) P

  abbrev AreBothHonest : D × D → Type 0
  AreBothHonest x = honest x.0 × honest x.1

  by_side : (is_right : Bool) (bank : B) (other : D) (P : List ℕ → List ℕ → Type 0)
      → PairsNow (sides is_right (disk (unbank bank)) (disk other)) P → LeaveNow P (placed is_right bank other)
  by_side true bank other P now = now
  by_side false bank other P now = now

  honest_sides : (is_right : Bool) (bank : B) (other : D) → honest (unbank bank) → honest other → AreBothHonest (placed is_right bank other)
  honest_sides true bank other used beside = (beside, used)
  honest_sides false bank other used beside = (used, beside)

  pub apart : (disks : Disks B D) (x : D × D) (P : List ℕ → List ℕ → Type 0) → Some x ≡ disks_of unbank disks
      → PairsNow (both (λ b. disk (unbank b)) disk disks) P → LeaveNow P x
  apart (InUse pair) x P same now = subst (LeaveNow P) (sym (same_Some x _ same)) (by_side pair.is_right pair.bank pair.other P now)
  apart (Shut left right) x P same now = subst (LeaveNow P) (sym (same_Some x _ same)) now
  apart Away x P same now = absurd (none-some x (sym same))

  pub honest_apart : (disks : Disks B D) (x : D × D) → Some x ≡ disks_of unbank disks → AreHonest (λ b. honest (unbank b)) honest disks → AreBothHonest x
  honest_apart (InUse pair) x same are = subst AreBothHonest (sym (same_Some x _ same)) (honest_sides pair.is_right pair.bank pair.other are.0 are.1)
  honest_apart (Shut left right) x same are = subst AreBothHonest (sym (same_Some x _ same)) are
  honest_apart Away x same are = absurd are

  honest_sides_back : (is_right : Bool) (bank : B) (other : D) → AreBothHonest (placed is_right bank other) → honest (unbank bank) × honest other
  honest_sides_back true bank other are = (are.1, are.0)
  honest_sides_back false bank other are = are

  pub honest_joined : (disks : Disks B D) (x : D × D) → Some x ≡ disks_of unbank disks → AreBothHonest x → AreHonest (λ b. honest (unbank b)) honest disks
  honest_joined (InUse pair) x same are = honest_sides_back pair.is_right pair.bank pair.other (subst AreBothHonest (same_Some x _ same) are)
  honest_joined (Shut left right) x same are = subst AreBothHonest (same_Some x _ same) are
  honest_joined Away x same are = absurd (none-some x (sym same))

-- Disks whose fuse is set hold what they held.
module _ {B D H : Type 0} (form : B → Form) (generation end : B → ℕ) (held_bank : B → H) (held : D
    → H) (view : H → View) (honest_bank : B → Type 0) (honest : D → Type 0)
    (all_banks : (b c : B) → honest_bank b → honest_bank c) (all : (d e : D) → honest d → honest e) where
  abbrev Related : Disks B D → Disks B D → Type 0
  Related old new = AreRelated (λ b c. (form c ≡ form b) × ((generation c ≡ generation b) × ((end c ≡ end b) × (held_bank c ≡ held_bank b))))
      (λ d e. held e ≡ held d) old new

  abbrev Kept : Disks B D → State → Type 0
  Kept disks st = IsKeptOn form generation end (λ b. view (held_bank b)) (λ d. view (held d)) honest_bank honest disks st

  pub kept_same : (old new : Disks B D) (st : State) → Related old new → Kept old st → Kept new st
  kept_same (InUse p) (InUse q) st related kept =
      let so : IsKept (honest_bank p.bank) (honest p.other) (form q.bank) (generation q.bank) (end q.bank) (view (held_bank q.bank)) (view (held q.other)) st =
      subst (λ f. IsKept (honest_bank p.bank) (honest p.other) f (generation q.bank) (end q.bank) (view (held_bank q.bank)) (view (held q.other)) st)
      (sym related.0.0)
      (subst (λ g. IsKept (honest_bank p.bank) (honest p.other) (form p.bank) g (end q.bank) (view (held_bank q.bank)) (view (held q.other)) st)
      (sym related.0.1.0)
      (subst (λ e. IsKept (honest_bank p.bank) (honest p.other) (form p.bank) (generation p.bank) e (view (held_bank q.bank)) (view (held q.other)) st)
      (sym related.0.1.1.0)
      (subst (λ h. IsKept (honest_bank p.bank) (honest p.other) (form p.bank) (generation p.bank) (end p.bank) (view h) (view (held q.other)) st)
      (sym related.0.1.1.1)
      (subst (λ h. IsKept (honest_bank p.bank) (honest p.other) (form p.bank) (generation p.bank) (end p.bank) (view (held_bank p.bank)) (view h) st)
      (sym related.1.0) kept)))) in
      record {
        stored = λ h. so.stored (all_banks q.bank p.bank h);
        durable = λ h. so.durable (all q.other p.other h);
        lesser = λ h i. so.lesser (all_banks q.bank p.bank h) (all q.other p.other i);
      }
  kept_same (InUse p) (Shut left right) st related kept = absurd related
  kept_same (InUse p) Away st related kept = absurd related
  kept_same (Shut left right) new st related kept = absurd kept
  kept_same Away new st related kept = absurd kept
