-- History of a server, one thing after another: all deeds and sends, in order, and the state, holds
-- and waits after them.
use Rattle.std.specs.Prelude.{◌≡◌, ℕ, List, [], ◌∷◌, ◌++◌, map, option_to_list}
use Rattle.linda_wire.specs.declared.message.Message.{Message}
use Rattle.linda_wire.specs.declared.reply.Reply.{Reply}
use Rattle.linda_store_state.specs.declared.deed.Deed.{Deed}
use Rattle.linda_store_state.specs.State.{State}
use Rattle.linda_store_step.specs.Soft.{Soft}
use Rattle.linda_store_step.specs.Dispatch.{on_close}
use Rattle.linda_store_step.specs.Answer.{Answer, only_sends, IsStep}

-- What may come: a message of a client, or the end of a client's connection.
pub data Coming : Type 0 where
  says : ℕ → Message → Coming
  hangs_up : ℕ → Coming

-- What that leads to: a message is one step; a client that leaves is closed, which does no deed.
abbrev pub Comes : State → Soft → Coming → Answer → State → Type 0
Comes st soft (says c m) answered new = IsStep st soft c m answered new
Comes st soft (hangs_up c) answered new =
    (answered ≡ only_sends (on_close st.bag c soft)) × (new ≡ st)

-- All that was done and sent, and the server then.
pub record History : Type 0 where
  pub deeds : List Deed
  pub sends : List (ℕ × Reply)
  pub soft : Soft
  pub state : State

-- a server with the deeds and sends that led there
abbrev pub history_of : State → Soft → List Deed → List (ℕ × Reply) → History
history_of st soft deeds sends = record { deeds = deeds; sends = sends; soft = soft; state = st }

-- nothing has come yet
abbrev pub nothing_yet : State → Soft → History
nothing_yet st soft = history_of st soft [] []

-- what the first thing led to, and then the others
abbrev pub first_then : Answer → History → History
first_then first later = record {
  deeds = option_to_list first.deed ++ later.deeds;
  sends = first.sends ++ later.sends;
  soft = later.soft;
  state = later.state;
}

-- What a list of things to come leads to: the first, and then the others from the server after it.
abbrev pub Happens : State → Soft → List Coming → History → Type 0
Happens st soft [] all = all ≡ nothing_yet st soft
Happens st soft (x ∷ xs) all =
    (first : Answer) × ((mid : State) × ((later : History)
    × (Comes st soft x first mid
    × (Happens mid first.soft xs later × (all ≡ first_then first later)))))

-- messages with their clients, as they come
abbrev pub comings : List (ℕ × Message) → List Coming
comings ms = map (λ (m : ℕ × Message). says m.0 m.1) ms

-- The answer to several messages, one after another.
abbrev pub Answers : State → Soft → List (ℕ × Message) → History → Type 0
Answers st soft ms all = Happens st soft (comings ms) all
