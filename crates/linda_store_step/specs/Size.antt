-- Sizes of deeds: which messages do one, whether it has a spelling in a form, and how many bytes.
-- That follows from numbers, from tuples and from who left, so it is known before anything is done.
use Rattle.std.specs.Prelude.{◌≡◌, ℕ, Bool, ◌+◌, ◌==◌, if◌then◌else◌, All}
use Rattle.std.specs.Prelude.{List, [], ◌∷◌, length, Option, Some, None, get_or, ◌%◌, false}
use Rattle.std.specs.FinMap as map
use Rattle.linda_tuple.specs.declared.form.Form.{Form}
use Rattle.linda_tuple.specs.Tuple.{FitsIn}
use Rattle.linda_codec.specs.Values as value
use Rattle.linda_wire.specs.declared.message.Message.{Message}
use Rattle.linda_wire.specs.declared.message.Message.TheVariants as messages
use Rattle.linda_store_state.specs.declared.limits.TheConstants.{HEAD_BYTES, ID_BYTES}
use Rattle.linda_store_state.specs.State.{State}
use Rattle.linda_store_state.specs.declared.deed.Deed.{Deed}
use Rattle.linda_store_state.specs.DeedFormat.{HasLeaves, payload, SuitsForm, IsUnspelled}
use Rattle.linda_book.specs.Entries.{Entry, left_in, number_in}
use Rattle.linda_store_step.specs.declared.size.Need.{Need}
use Rattle.linda_store_step.specs.declared.judge.Demand.{Demand}
use Rattle.linda_store_step.specs.declared.judge.Standing.{Standing}
use Rattle.linda_store_step.specs.declared.judge.Verdict.{Verdict}
use Rattle.linda_store_step.specs.declared.judge.Verdict.TheVariants.{Refused, Repeated, Done}
use Rattle.linda_store_step.specs.Judge.{demand_of, judge, puts, leaves}

-- The last number of a client, 0 if there is none, and whether the client left by it.
abbrev pub Latest : Type 0
Latest = ℕ × Bool

abbrev pub latest_in : Option Entry → Latest
latest_in entry = (number_in entry, left_in entry)

abbrev pub latest_of : State → ℕ → Latest
latest_of st c = latest_in (map.get st.book c)

-- The last number of each client and whether it left, how many clients are kept, and the next id.
pub record Numbers : Type 0 where
  pub last : ℕ → Latest
  pub clients : ℕ
  pub next : ℕ

abbrev pub numbers_of : State → Numbers
numbers_of st = record { last = latest_of st; clients = map.len st.book; next = st.next }

-- the standing of a client by these numbers
abbrev pub standing_in : Numbers → ℕ → Standing
standing_in ns c =
    record { last = (ns.last c).0; left = (ns.last c).1; clients = ns.clients; next = ns.next }

-- a demand, if the verdict is that it is done
abbrev pub if_done : Demand → Verdict → Option Demand
if_done d (Refused refusal) = None
if_done d Repeated = None
if_done d Done = Some d

abbrev pub done_by : Option Demand → Standing → Option Demand
done_by None at = None
done_by (Some d) at = if_done d (judge d at)

-- what is done of a client's message
abbrev pub done_of : Numbers → ℕ → Message → Option Demand
done_of ns c m = done_by (demand_of m) (standing_in ns c)

-- the numbers after what was done of a client's message
abbrev pub numbers_after : Numbers → ℕ → Option Demand → Numbers
numbers_after ns c None = ns
numbers_after ns c (Some d) = record {
  last = λ k. if k == c then (d.n, leaves d.what) else ns.last k;
  clients = ns.clients + (if (ns.last c).0 == 0 then 1 else 0);
  next = ns.next + (if puts d.what then 1 else 0);
}

-- the bytes of a message's deed in the form, if it does one
abbrev pub deed_bytes : Form → Message → ℕ
deed_bytes form (messages.Out n tuple) = HEAD_BYTES + length ((value.tuple form).spell tuple)
deed_bytes form (messages.Leave n) = HEAD_BYTES
deed_bytes form _ = HEAD_BYTES + ID_BYTES

-- the bytes of what is done of a message
abbrev pub bytes_of : Form → Message → Option Demand → ℕ
bytes_of form m None = 0
bytes_of form m (Some d) = deed_bytes form m

-- the bytes of what is done of messages, one after another
abbrev pub bytes_from : Form → Numbers → List (ℕ × Message) → ℕ
bytes_from form ns [] = 0
bytes_from form ns (m ∷ ms) =
    bytes_of form m.1 (done_of ns m.0 m.1)
    + bytes_from form (numbers_after ns m.0 (done_of ns m.0 m.1)) ms

-- how many deeds that is
abbrev pub count_of : Option Demand → ℕ
count_of None = 0
count_of (Some d) = 1

-- how many deeds are done of messages, one after another
abbrev pub count_from : Numbers → List (ℕ × Message) → ℕ
count_from ns [] = 0
count_from ns (m ∷ ms) =
    count_of (done_of ns m.0 m.1) + count_from (numbers_after ns m.0 (done_of ns m.0 m.1)) ms

-- The tuple that a message brings, if it brings one, has a spelling in the form; a Leave has one if
-- the form has Leaves.
abbrev pub Suits : Form → Message → Type 0
Suits form (messages.Out n tuple) = FitsIn form tuple
Suits form (messages.Leave n) = HasLeaves form
Suits form _ = Unit {0}

-- What is done of a message, if anything is, has a spelling in the form.
abbrev pub SuitsIfDone : Form → Message → Option Demand → Type 0
SuitsIfDone form m None = Unit {0}
SuitsIfDone form m (Some d) = Suits form m

-- All that is done of messages, one after another, has a spelling in the form.
abbrev pub AllSuit : Form → Numbers → List (ℕ × Message) → Type 0
AllSuit form ns [] = Unit {0}
AllSuit form ns (m ∷ ms) =
    SuitsIfDone form m.1 (done_of ns m.0 m.1)
    × AllSuit form (numbers_after ns m.0 (done_of ns m.0 m.1)) ms

-- the last number of a client after these entries, each a client with its number and whether it
-- left; this one if no entry is the client's
abbrev pub last_behind : List (ℕ × Latest) → ℕ → Latest → Latest
last_behind [] c last = last
last_behind (e ∷ es) c last = last_behind es c (if e.0 == c then e.1 else last)

-- None of these entries is of a client whose place has no mark.
abbrev pub AreMarked : List Bool → List (ℕ × Latest) → Type 0
AreMarked met es =
    (c : ℕ) (last : Latest) → get_or met (c % length met) false ≡ false
    → last_behind es c last ≡ last

-- This is what the deeds need on a bank in the form: how many they are, and how many bytes they
-- spell; it is none if one of them has no spelling there.
abbrev pub IsNeedOf : Form → List Deed → Option Need → Type 0
IsNeedOf form deeds None = IsUnspelled form deeds
IsNeedOf form deeds (Some need) =
    (need.deeds ≡ length deeds) × (need.bytes ≡ length (payload form deeds))
    × All (SuitsForm form) deeds
