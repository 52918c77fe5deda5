-- Which state two banks represent while one of them becomes a new one.
use Rattle.std.proofs.Common.{ℕ, ◌+◌, inl, inr, List, [], sym, subst, arith}
use Rattle.linda_store_state.specs.DeedFormat.{written}
use Rattle.linda_tuple.specs.declared.form.Form.{Form}
use Rattle.linda_store_state.specs.State.{State, IsState}
use Rattle.linda_store_state.specs.Proper.{AreDone}
use Rattle.linda_store_state.proofs.ProperLaws.{none_done}
use Rattle.linda_store_state.specs.declared.deed.Deed.{Deed}
use Rattle.linda_disk.specs.View.{View, IsTimed}
use Rattle.linda_disk.specs.Run.{LeavesOnly}
use Rattle.linda_disk.proofs.RunLaws.{started, weaker, joined}
use Rattle.linda_journal.specs.declared.heading.Heading.TheVariants as headings
use Rattle.linda_journal.specs.Heading.{IsHeading}
use Rattle.linda_journal.specs.Bank.{IsBank, IsSettled, IsNoneOrNew}
use Rattle.linda_journal.specs.Renewal.{IsNoBank, IsSameOrNone, IsNoneOrNewWith}
use Rattle.linda_journal.proofs.ImageLaws.{is_candidate}
use Rattle.linda_snap.specs.Snapshot.{spell_state, FitsState}
use Rattle.linda_snap.specs.Stands.{StandsOn, IsLesser, IsStored, IsUp, StandsBeside, deeds_in}
use Rattle.linda_snap.specs.Switch.{IsOldNoneOrNew}

-- ---- the runs of a renewal

pub closing : (generation : ℕ) (body : List ℕ) (old new : View) → LeavesOnly old new (IsSameOrNone old.seen)
    → LeavesOnly old new (IsOldNoneOrNew old.seen generation body)
closing generation body old new run = weaker old new (IsSameOrNone old.seen) (IsOldNoneOrNew old.seen generation body) run shut
  where
    shut : (image : List ℕ) → IsSameOrNone old.seen image → IsOldNoneOrNew old.seen generation body image
    shut image (inl is) = inl is
    shut image (inr is) = inr (inl is)

module _ (generation : ℕ) (body : List ℕ) (old mid : View) where
  pub filling : (new : View) → LeavesOnly old mid (IsSameOrNone old.seen) → LeavesOnly mid new IsNoBank
      → LeavesOnly old new (IsOldNoneOrNew old.seen generation body)
  filling new first second =
      joined old mid new (IsOldNoneOrNew old.seen generation body) IsNoBank (IsOldNoneOrNew old.seen generation body)
      (closing generation body old mid first) second (λ image is. is) (λ image is. inr (inl is))

  pub opening : (new : View) → LeavesOnly old mid (IsOldNoneOrNew old.seen generation body)
      → LeavesOnly mid new (IsNoneOrNew written generation body) → LeavesOnly old new (IsOldNoneOrNew old.seen generation body)
  opening new first second =
      joined old mid new (IsOldNoneOrNew old.seen generation body) (IsNoneOrNew written generation body)
      (IsOldNoneOrNew old.seen generation body) first second (λ image is. is) (λ image is. inr is)

-- ---- the state that is represented

-- A bank begins with its generation.
pub heading_of : (form : Form) (file : List ℕ) (generation : ℕ) (body : List ℕ) (records : List (List Deed))
    → IsBank form file generation body records → IsHeading file (headings.Bank form generation)
heading_of form file generation body records bank = (bank.low, bank.fits, (is_candidate form file generation body records bank).0, (_, bank.parts))

-- What is stored on a disk represents the state.
pub stands_on : (form : Form) (generation end : ℕ) (v : View) (st : State) → IsStored form generation end v st → StandsOn v.seen generation st
stands_on form generation end v st stored =
    record {
      form = form;
      opening = stored.opening;
      ranges = stored.ranges;
      fits = stored.fits;
      records = stored.records;
      bank = stored.settled.file;
      done = stored.done;
    }

-- So is a new bank whose body is a snapshot of the state.
pub new_stored : (form : Form) (generation end : ℕ) (v : View) (st : State) → IsState st → FitsState form st
    → IsSettled form generation (spell_state form st) [] end v → IsStored form generation end v st
new_stored form generation end v st ranges fits settled =
    record { opening = st; ranges = ranges; fits = fits; records = []; settled = settled; done = none_done st ranges }

module _ (form : Form) (generation end : ℕ) (used other : View) (st : State) (up : IsUp form generation end used other st) where
  on_used : StandsOn used.seen generation st
  on_used = stands_on form generation end used st up.stored

  -- A crash now leaves what represents the state.
  pub stands_now : StandsBeside used.seen st other.seen
  stands_now = inl record { generation = generation; stands = on_used; lesser = up.lesser }

  pub stays_so : IsTimed other → LeavesOnly other other (StandsBeside used.seen st)
  stays_so timed = started other (StandsBeside used.seen st) timed (λ image left. subst (StandsBeside used.seen st) (sym (up.durable image left)) stands_now)

  -- The bank in use is lesser than one of the next generation.
  lesser_next : IsLesser (generation + 1) used.seen
  lesser_next = inr (
    form,
    generation,
    heading_of form used.seen generation (spell_state form up.stored.opening) up.stored.records up.stored.settled.file,
    omega arith,
  )

  -- So does a crash while the other disk becomes a new bank,
  pub stands_beside : IsState st → FitsState written st → (image : List ℕ)
      → IsOldNoneOrNew other.seen (generation + 1) (spell_state written st) image → StandsBeside used.seen st image
  stands_beside ranges fits image (inl same) = subst (StandsBeside used.seen st) (sym same) stands_now
  stands_beside ranges fits image (inr (inl none)) = inl record { generation = generation; stands = on_used; lesser = inl none }
  stands_beside ranges fits image (inr (inr bank)) = inr record {
    generation = generation + 1;
    stands = record { form = written; opening = st; ranges = ranges; fits = fits; records = []; bank = bank; done = none_done st ranges };
    lesser = lesser_next;
  }

  pub switching : (new : View) → IsState st → FitsState written st
      → LeavesOnly other new (IsOldNoneOrNew other.seen (generation + 1) (spell_state written st)) → LeavesOnly other new (StandsBeside used.seen st)
  switching new ranges fits run =
      weaker other new (IsOldNoneOrNew other.seen (generation + 1) (spell_state written st)) (StandsBeside used.seen st) run (stands_beside ranges fits)

  -- and once it is one.
  pub switched : (new_end : ℕ) (new : View) → IsState st → FitsState written st
      → IsSettled written (generation + 1) (spell_state written st) [] new_end new → IsUp written (generation + 1) new_end new used st
  switched new_end new ranges fits settled = record {
    stored = new_stored written (generation + 1) new_end new st ranges fits settled;
    lesser = lesser_next;
    durable = up.stored.settled.durable;
  }

  -- ---- a new bank that was written in steps, with the records of what was done since

  module _ (begun : State) (rs : List (List Deed)) (ranges : IsState begun) (fits : FitsState written begun) (done : AreDone begun (deeds_in rs) st) where
    stands_in_steps : (image : List ℕ) → IsNoneOrNewWith written (generation + 1) (spell_state written begun) rs image → StandsBeside used.seen st image
    stands_in_steps image (inl none) = inl record { generation = generation; stands = on_used; lesser = inl none }
    stands_in_steps image (inr bank) = inr record {
      generation = generation + 1;
      stands = record { form = written; opening = begun; ranges = ranges; fits = fits; records = rs; bank = bank; done = done };
      lesser = lesser_next;
    }

    pub taking_over : (new : View) → LeavesOnly other new (IsNoneOrNewWith written (generation + 1) (spell_state written begun) rs)
        → LeavesOnly other new (StandsBeside used.seen st)
    taking_over new run = weaker other new (IsNoneOrNewWith written (generation + 1) (spell_state written begun) rs)
        (StandsBeside used.seen st) run stands_in_steps

    pub taken_over : (new_end : ℕ) (new : View) → IsSettled written (generation + 1) (spell_state written begun) rs new_end new
        → IsUp written (generation + 1) new_end new used st
    taken_over new_end new settled = record {
      stored = record { opening = begun; ranges = ranges; fits = fits; records = rs; settled = settled; done = done };
      lesser = lesser_next;
      durable = up.stored.settled.durable;
    }
