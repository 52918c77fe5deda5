-- Crashes within the calls of a server: what one may leave of its two banks.
use Rattle.std.specs.Prelude.{ℕ, ◌+◌, ◌<◌, ◌≤◌, ◌⊎◌, List, ◌++◌, length}
use Rattle.linda_tuple.specs.declared.form.Form.{Form}
use Rattle.linda_wire.specs.declared.message.Message.{Message}
use Rattle.linda_wire.specs.declared.reply.Reply.{Reply}
use Rattle.linda_store_state.specs.declared.deed.Deed.{Deed}
use Rattle.linda_store_state.specs.State.{State, IsState}
use Rattle.linda_store_state.specs.Proper.{AreDone}
use Rattle.linda_store_state.specs.DeedFormat.{payload, IsUnspelled}
use Rattle.linda_store_step.specs.History.{Coming, History, Happens, Answers, history_of}
use Rattle.linda_store_step.specs.Store.{Store}
use Rattle.linda_journal.specs.Renewal.{IsNoBank}
use Rattle.linda_snap.specs.Stands.{Stands}
use Rattle.linda_journal.specs.declared.limits.TheConstants.{GATE_BYTES}
use Rattle.linda_journal.specs.Records.{bytes_for}
use Rattle.linda_server.specs.declared.limits.TheConstants.{MIN_LIMIT, MAX_LIMIT}

-- These deeds lead from the one state to the other: each proper list that leads to the one leads,
-- with these deeds after it, to the other.
abbrev pub LeadTo : State → List Deed → State → Type 0
LeadTo st deeds new = (opening : State) (before : List Deed) → IsState opening
    → AreDone opening before st → AreDone opening (before ++ deeds) new

-- The two images represent the old state, or the new one.
abbrev pub IsOldOrNew : State → State → List ℕ → List ℕ → Type 0
IsOldOrNew old new left right = Stands left right old ⊎ Stands left right new

-- They represent the one or the other, and it is not said which.
abbrev pub IsEither : State → State → List ℕ → List ℕ → Type 0
IsEither old new left right = ∥ IsOldOrNew old new left right ∥₁

-- These deeds may be done in the old state, and the images represent that state, or the one after
-- them.
pub record StandsAround (before : State) (deeds : List Deed) (left right : List ℕ) : Type 0 where
  pub new : State
  pub ranges : IsState before
  pub done : AreDone before deeds new
  pub stands : IsOldOrNew before new left right

abbrev pub IsWithOrWithout : State → List Deed → List ℕ → List ℕ → Type 0
IsWithOrWithout before deeds left right = ∥ StandsAround before deeds left right ∥₁

-- They represent the state after all that came.
pub record StandsAfter (old : Store) (xs : List Coming) (left right : List ℕ) : Type 0 where
  pub all : History
  pub happens : Happens old.state old.soft xs all
  pub stands : Stands left right all.state

-- They represent the old state, or the one after all that came: all deeds of a call are there, or
-- none.
abbrev pub IsBeforeOrAfter : Store → List Coming → List ℕ → List ℕ → Type 0
IsBeforeOrAfter old xs left right = ∥ Stands left right old.state ⊎ StandsAfter old xs left right ∥₁

-- All that came was done, and this was sent.
pub record HasHandled (old : Store) (xs : List Coming) (sends : List (ℕ × Reply))
    (new : Store) : Type 0 where
  pub deeds : List Deed
  pub happens : Happens old.state old.soft xs (history_of new.state new.soft deeds sends)

-- They represent this state.
abbrev pub StandsFor : State → List ℕ → List ℕ → Type 0
StandsFor st left right = ∥ Stands left right st ∥₁

-- They represent this state, or neither is a bank.
abbrev pub IsNothingOr : State → List ℕ → List ℕ → Type 0
IsNothingOr st left right = (IsNoBank left × IsNoBank right) ⊎ Stands left right st

-- How many bytes the records of so many deeds take, whose spellings have so many, and the closed
-- gate after them.
abbrev pub room_for : ℕ → ℕ → ℕ
room_for count bytes = bytes_for count bytes + GATE_BYTES

-- The deeds have no room on a bank in this form: one of them has no spelling there; or there are
-- some, and their records, after this end, would pass the limit.
abbrev pub IsTooMuch : Form → ℕ → ℕ → List Deed → Type 0
IsTooMuch form end limit deeds =
    IsUnspelled form deeds
    ⊎ ((0 < length deeds)
    × (limit < end + room_for (length deeds) (length (payload form deeds))))

-- The deeds that the messages would do have no room there. Up to 64 deeds are one record.
abbrev pub HasNoRoom : Store → List (ℕ × Message) → Form → ℕ → ℕ → Type 0
HasNoRoom old ms form end limit =
    (all : History) → Answers old.state old.soft ms all
    → IsTooMuch form end limit all.deeds

-- The limit is one that a bank may have.
abbrev pub IsLimit : ℕ → Type 0
IsLimit limit = (MIN_LIMIT ≤ limit) × (limit ≤ MAX_LIMIT)
