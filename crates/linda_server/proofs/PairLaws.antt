-- What crashes leave of two disks, if deeds go onto the one that holds the bank in use, or nothing does.
use Rattle.std.proofs.Common.{◌≡◌, ℕ, ◌≤◌, ◌⊎◌, inl, inr, Bool, true, false, ◌==◌, length, List, [], ◌∷◌, ◌++◌, refl, sym, ap, subst, ◌∙◌, append-nil, arith}
use Rattle.std.proofs.lemmas.Grind.{flat_map-append}
use Rattle.linda_tuple.specs.declared.form.Form.{Form}
use Rattle.linda_store_state.specs.declared.deed.Deed.{Deed}
use Rattle.linda_store_state.specs.State.{State}
use Rattle.linda_store_state.specs.Proper.{AreDone}
use Rattle.linda_disk.specs.View.{View, IsTimed}
use Rattle.linda_disk.specs.Run.{LeavesOnly}
use Rattle.linda_journal.specs.Bank.{IsSettled, IsSettledWithAll, IsOldOrAll}
use Rattle.linda_journal.specs.Records.{AreIn}
use Rattle.linda_snap.specs.Snapshot.{spell_state}
use Rattle.linda_snap.specs.Stands.{deeds_in, StandsOn, IsLesser, IsInUse, IsStored, Stands, IsUp}
use Rattle.linda_disk.specs.declared.disk.Disk.{Ghosts}
use Rattle.linda_journal.specs.declared.bank.Bank.{Bank}
use Rattle.linda_server.specs.declared.disks.Disks.{Disks}
use Rattle.linda_server.specs.declared.disks.Disks.TheVariants.{InUse, Shut, Away}
use Rattle.linda_server.specs.declared.disks.Pair.{Pair}
use Rattle.linda_server.specs.Pairs.{PairsSince, PairsNow}
use Rattle.linda_server.specs.Disks.{sides, IsKept}
use Rattle.linda_server.specs.Calls.{LeadTo, IsOldOrNew}
use Rattle.linda_server.specs.Server.{both_of, BothHonest, IsUpFor, IsKeptFor}

-- ---- on one of two sides

-- What holds of the bank in use and the other disk, whichever is which, holds of the left and the right one.
pub on_sides : (is_right : Bool) (used new other : View) (P Q : List ℕ → List ℕ → Type 0) → used.moment ≤ new.moment
    → ((image beside : List ℕ) → new.left_since used.moment image → other.left_since other.moment beside → P image beside)
    → ((image beside : List ℕ) → P image beside → Q image beside) → ((image beside : List ℕ) → P image beside → Q beside image)
    → PairsSince (sides is_right used other) (sides is_right new other) Q
on_sides true used new other P Q later each same turned = record {
  left_later = omega arith;
  right_later = later;
  each = λ left right l r. turned right left (each right left r l);
}
on_sides false used new other P Q later each same turned = record {
  left_later = later;
  right_later = omega arith;
  each = λ left right l r. same left right (each left right l r);
}

-- The files represent one of two states.
abbrev IsUsedFor : State → State → List ℕ → List ℕ → Type 0
IsUsedFor st now image beside = IsInUse image beside st ⊎ IsInUse image beside now

either_same : (st now : State) (image beside : List ℕ) → IsUsedFor st now image beside → IsOldOrNew st now image beside
either_same st now image beside = λ x. elim x [ inl a ↦ inl (inl a) | inr b ↦ inr (inl b) ]

either_turned : (st now : State) (image beside : List ℕ) → IsUsedFor st now image beside → IsOldOrNew st now beside image
either_turned st now image beside = λ x. elim x [ inl a ↦ inl (inr a) | inr b ↦ inr (inr b) ]

-- What is left of the other disk is lesser.
beside_lesser : (form : Form) (generation end : ℕ) (used other : View) (st : State) → IsUp form generation end used other st → IsTimed other
    → (beside : List ℕ) → other.left_since other.moment beside → IsLesser generation beside
beside_lesser form generation end used other st up timed beside left =
    subst (IsLesser generation) (sym (up.durable beside (timed.only_now beside left))) up.lesser

-- ---- records more

deeds_more : (opening : State) (records : List (List Deed)) (deeds : List Deed) (more : List (List Deed)) (now : State)
    → AreIn deeds more → AreDone opening (deeds_in records ++ deeds) now → AreDone opening (deeds_in (records ++ more)) now
deeds_more opening records deeds more now are =
    subst (λ ds. AreDone opening ds now) (sym (flat_map-append (λ (ds : List Deed). ds) records more ∙ ap (λ l. deeds_in records ++ l) are.all))

module _ (form : Form) (generation end : ℕ) (used other : View) (st now : State) (deeds : List Deed)
    (up : IsUp form generation end used other st) (leads : LeadTo st deeds now) where
  done_more : (more : List (List Deed)) → AreIn deeds more → AreDone up.stored.opening (deeds_in (up.stored.records ++ more)) now
  done_more more are =
      deeds_more up.stored.opening up.stored.records deeds more now are
      (leads up.stored.opening (deeds_in up.stored.records) up.stored.ranges up.stored.done)

  used_for : (image beside : List ℕ) → IsLesser generation beside
      → IsOldOrAll form generation (spell_state form up.stored.opening) up.stored.records deeds image → IsUsedFor st now image beside
  used_for image beside lesser (inl bank) = inl record {
    generation = generation;
    stands = record {
      form = form;
      opening = up.stored.opening;
      ranges = up.stored.ranges;
      fits =
          up.stored.fits;
      records = up.stored.records;
      bank = bank;
      done = up.stored.done;
    };
    lesser = lesser;
  }
  used_for image beside lesser (inr new) = inr record {
    generation = generation;
    stands = record {
      form = form;
      opening = up.stored.opening;
      ranges = up.stored.ranges;
      fits =
          up.stored.fits;
      records = up.stored.records ++ new.0;
      bank = new.2;
      done = done_more new.0 new.1;
    };
    lesser = lesser;
  }

  one_more : (is_right : Bool) (new : View) → IsTimed other
      → LeavesOnly used new (IsOldOrAll form generation (spell_state form up.stored.opening) up.stored.records deeds)
      → PairsSince (sides is_right used other) (sides is_right new other) (IsOldOrNew st now)
  one_more is_right new timed run =
      on_sides is_right used new other (IsUsedFor st now) (IsOldOrNew st now) run.later
      (λ image beside l o. used_for image beside (beside_lesser form generation end used other st up timed beside o) (run.each image l))
      (either_same st now) (either_turned st now)

-- No record more.
pub stored_same : (form : Form) (generation end : ℕ) (used : View) (st now : State) → LeadTo st [] now
    → IsStored form generation end used st → IsStored form generation end used now
stored_same form generation end used st now leads stored = record {
  opening = stored.opening;
  ranges = stored.ranges;
  fits = stored.fits;
  records = stored.records;
  settled = stored.settled;
  done = subst (λ ds. AreDone stored.opening ds now) (append-nil (deeds_in stored.records))
      (leads stored.opening (deeds_in stored.records) stored.ranges stored.done);
}

-- Records more.
pub stored_more : (form : Form) (generation end : ℕ) (used : View) (st now : State) (deeds : List Deed)
    → (stored : IsStored form generation end used st) → LeadTo st deeds now
    → (new_form : Form) (new_generation new_end : ℕ) (new : View) → new_form ≡ form
    → IsSettledWithAll new_form new_generation (spell_state form stored.opening) stored.records deeds new_end new
    → IsStored new_form new_generation new_end new now
stored_more form generation end used st now deeds stored leads new_form new_generation new_end new same with_all =
    subst (λ f. IsStored f new_generation new_end new now) (sym same) (record {
      opening = stored.opening;
      ranges = stored.ranges;
      fits = stored.fits;
      records = stored.records ++ with_all.more;
      settled = subst (λ f. IsSettled f new_generation (spell_state form stored.opening) (stored.records ++ with_all.more) new_end new) same with_all.settled;
      done = deeds_more stored.opening stored.records deeds with_all.more now with_all.are
          (leads stored.opening (deeds_in stored.records) stored.ranges stored.done);
    })

-- The state that is represented now.
pub left_for : (form : Form) (generation end : ℕ) (used other : View) (st : State) → IsUp form generation end used other st
    → (image beside : List ℕ) → used.may_leave image → other.may_leave beside → IsInUse image beside st
left_for form generation end used other st up image beside l o = record {
  generation = generation;
  stands = subst (λ file. StandsOn file generation st) (sym (up.stored.settled.durable image l))
      (record {
        form = form;
        opening = up.stored.opening;
        ranges = up.stored.ranges;
        fits = up.stored.fits;
        records = up.stored.records;
        bank = up.stored.settled.file;
        done = up.stored.done;
      });
  lesser = subst (IsLesser generation) (sym (up.durable beside o)) up.lesser;
}

-- The state that is represented if no disk is touched.
stands_for : (form : Form) (generation end : ℕ) (used other : View) (st : State) → IsUp form generation end used other st → IsTimed used → IsTimed other
    → (image beside : List ℕ) → used.left_since used.moment image → other.left_since other.moment beside → IsInUse image beside st
stands_for form generation end used other st up timed_used timed image beside l o =
    left_for form generation end used other st up image beside (timed_used.only_now image l) (timed.only_now beside o)

pub now_on_sides : (is_right : Bool) (used other : View) (st : State)
    → ((image beside : List ℕ) → used.may_leave image → other.may_leave beside → IsInUse image beside st)
    → PairsNow (sides is_right used other) (λ left right. Stands left right st)
now_on_sides true used other st each left right l r = inr (each right left r l)
now_on_sides false used other st each left right l r = inl (each left right l r)

-- ---- the two disks of a server

module _ {D : Type 0} {g : Ghosts D} (timed : (d : D) → g.honest d → IsTimed (g.view d)) where
  -- If no disk is touched, the same state is represented.
  pub still : (disks : Disks (Bank D g) D) (st : State) → BothHonest disks → IsUpFor disks st
      → PairsSince (both_of disks) (both_of disks) (λ left right. Stands left right st)
  still (InUse pair) st are up =
      on_sides pair.is_right (g.view pair.bank.disk) (g.view pair.bank.disk) (g.view pair.other)
      (λ image beside. IsInUse image beside st) (λ left right. Stands left right st) (omega arith)
      (stands_for pair.bank.form pair.bank.generation pair.bank.end (g.view pair.bank.disk)
      (g.view pair.other) st up (timed pair.bank.disk are.0) (timed pair.other are.1))
      (λ image beside x. inl x) (λ image beside x. inr x)
  still (Shut left right) st are up = absurd up
  still Away st are up = absurd up

  -- It is represented now.
  pub stands_now : (disks : Disks (Bank D g) D) (st : State) → IsUpFor disks st → PairsNow (both_of disks) (λ left right. Stands left right st)
  stands_now (InUse pair) st up =
      now_on_sides pair.is_right (g.view pair.bank.disk) (g.view pair.other) st
      (left_for pair.bank.form pair.bank.generation pair.bank.end (g.view pair.bank.disk) (g.view pair.other) st up)
  stands_now (Shut left right) st up = absurd up
  stands_now Away st up = absurd up

  pub still_for : (disks : Disks (Bank D g) D) (st now : State) (deeds : List Deed) → deeds ≡ [] → BothHonest disks → IsUpFor disks st
      → LeadTo st deeds now → PairsSince (both_of disks) (both_of disks) (IsOldOrNew st now)
  still_for disks st now deeds none are up leads =
      let so = still disks st are up in
      record { left_later = so.left_later; right_later = so.right_later; each = λ left right l r. inl (so.each left right l r) }

  -- What is known of honest disks.
  pub up_of : (disks : Disks (Bank D g) D) (st : State) → IsKeptFor disks st → BothHonest disks → IsUpFor disks st
  up_of (InUse pair) st kept are = record { stored = kept.stored are.0; lesser = kept.lesser are.0 are.1; durable = kept.durable are.1 }
  up_of (Shut left right) st kept are = absurd kept
  up_of Away st kept are = absurd kept

  pub kept_still : (disks : Disks (Bank D g) D) (st now : State) (deeds : List Deed) → deeds ≡ [] → IsKeptFor disks st → LeadTo st deeds now
      → IsKeptFor disks now
  kept_still (InUse pair) st now deeds none kept leads = record {
    stored = λ h. stored_same pair.bank.form pair.bank.generation pair.bank.end (g.view pair.bank.disk) st now
        (subst (λ ds. LeadTo st ds now) none leads) (kept.stored h);
    durable = kept.durable;
    lesser = kept.lesser;
  }
  kept_still (Shut left right) st now deeds none kept leads = absurd kept
  kept_still Away st now deeds none kept leads = absurd kept

  -- Deeds go onto the bank in use.
  pub put_on : (disks : Disks (Bank D g) D) (pair : Pair (Bank D g) D) (new : View) (deeds : List Deed) → disks ≡ InUse pair
      → ((body : List ℕ) (records : List (List Deed)) → g.honest pair.bank.disk
      → IsSettled pair.bank.form pair.bank.generation body records pair.bank.end (g.view pair.bank.disk)
      → LeavesOnly (g.view pair.bank.disk) new (IsOldOrAll pair.bank.form pair.bank.generation body records deeds))
      → (st now : State) → BothHonest disks → IsUpFor disks st → LeadTo st deeds now
      → PairsSince (both_of disks) (sides pair.is_right new (g.view pair.other)) (IsOldOrNew st now)
  put_on disks pair new deeds is any_moment st now are up leads =
      let are_so : BothHonest (InUse pair) = subst (BothHonest) is are in
      let up_so : IsUpFor (InUse pair) st = subst (λ d. IsUpFor d st) is up in
      subst (λ d. PairsSince (both_of d) (sides pair.is_right new (g.view pair.other)) (IsOldOrNew st now)) (sym is)
      (one_more pair.bank.form pair.bank.generation pair.bank.end (g.view pair.bank.disk)
      (g.view pair.other) st now deeds up_so leads pair.is_right new (timed pair.other are_so.1)
      (any_moment (spell_state pair.bank.form up_so.stored.opening) up_so.stored.records are_so.0 up_so.stored.settled))

  pub kept_on : (disks : Disks (Bank D g) D) (pair : Pair (Bank D g) D) (is_new_honest : Type 0)
      (new_form : Form) (new_generation new_end : ℕ) (new : View) (deeds : List Deed) → disks ≡ InUse pair
      → new_form ≡ pair.bank.form → new_generation ≡ pair.bank.generation
      → (is_new_honest → g.honest pair.bank.disk)
      → ((body : List ℕ) (records : List (List Deed)) → g.honest pair.bank.disk
      → IsSettled pair.bank.form pair.bank.generation body records pair.bank.end (g.view pair.bank.disk)
      → IsSettledWithAll new_form new_generation body records deeds new_end new)
      → (st now : State) → IsKeptFor disks st → LeadTo st deeds now
      → IsKept is_new_honest (g.honest pair.other) new_form new_generation new_end new (g.view pair.other) now
  kept_on disks pair is_new_honest new_form new_generation new_end new deeds is same_form same was done st now kept leads =
      let so : IsKeptFor (InUse pair) st = subst (λ d. IsKeptFor d st) is kept in
      record {
        stored = λ h.
            let stored = so.stored (was h) in
            stored_more pair.bank.form pair.bank.generation pair.bank.end (g.view pair.bank.disk) st
            now deeds stored leads new_form new_generation new_end new same_form
            (done (spell_state pair.bank.form stored.opening) stored.records (was h) stored.settled);
        durable = so.durable;
        lesser = λ h o. subst (λ n. IsLesser n (g.view pair.other).seen) (sym same) (so.lesser (was h) o);
      }

-- A list whose length is none is empty.
pub none_of : (ds : List Deed) (b : Bool) → b ≡ (length ds == 0) → b ≡ true → ds ≡ []
none_of [] b is so = refl
none_of (d ∷ ds) b is so = absurd (grind (arith, is, so))
