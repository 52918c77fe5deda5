-- Course of a server that may be stopped: its deeds and sends over all stops, and the state, holds
-- and waits after them.
use Rattle.std.specs.Prelude.{◌≡◌, List, [], ◌∷◌, ◌++◌}
use Rattle.linda_store_state.specs.State.{State}
use Rattle.linda_store_state.specs.After.{IsAfter}
use Rattle.linda_store_step.specs.Soft.{Soft, no_asks}
use Rattle.linda_store_step.specs.History.{Coming, History, Happens, nothing_yet}

-- What may come to such a server: what may come to any, or a stop while these are in hand.
pub data Turn : Type 0 where
  comes : Coming → Turn
  stops : List Coming → Turn

-- a list that another one begins with
abbrev pub IsFront : {A : Type 0} → List A → List A → Type 0
IsFront {A} front all = (rest : List A) × (front ++ rest ≡ all)

-- The server is stopped while these are in hand, and comes back: some first deeds of theirs are
-- done, nothing is sent, and nothing is held and nobody waits.
pub record IsStop (st : State) (soft : Soft) (xs : List Coming) (all : History) : Type 0 where
  pub whole : History
  pub happens : Happens st soft xs whole
  pub front : IsFront all.deeds whole.deeds
  pub silent : all.sends ≡ []
  pub soft_is : all.soft ≡ no_asks
  pub state_is : IsAfter st all.deeds all.state

-- What one turn leads to.
abbrev pub Leads : State → Soft → Turn → History → Type 0
Leads st soft (comes x) all = Happens st soft (x ∷ []) all
Leads st soft (stops xs) all = IsStop st soft xs all

-- what the first led to, and then the others
abbrev pub joined : History → History → History
joined first later = record {
  deeds = first.deeds ++ later.deeds;
  sends = first.sends ++ later.sends;
  soft = later.soft;
  state = later.state;
}

-- What a list of turns leads to: the first turn, and then the others from the server after it.
abbrev pub Endures : State → Soft → List Turn → History → Type 0
Endures st soft [] all = all ≡ nothing_yet st soft
Endures st soft (x ∷ xs) all =
    (first : History) × ((later : History)
    × (Leads st soft x first
    × (Endures first.state first.soft xs later × (all ≡ joined first later))))
