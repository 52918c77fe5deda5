-- Lines of a client's calls, as they are printed: its number, words, and a line feed.
use Rattle.std.specs.Prelude.{◌≡◌, ℕ, String, List, [], ◌∷◌, ◌++◌, Option, Some, None, codes}
use Rattle.std.specs.declared.alloc.Global.{Global}
use Rattle.std.specs.Fmt.{decimal}
use Rattle.std.specs.List.{flat_map}
use Rattle.std.specs.String.{string_bytes}
use Rattle.linda_tuple.specs.Tuple.{Tuple}
use Rattle.linda_tuple.specs.declared.atom.Atom.{Atom}
use Rattle.linda_text.specs.Written.{written_atom, written_tuple, written_field}
use Rattle.linda_client.specs.declared.fault.ClientFault.{ClientFault}
use Rattle.linda_client.specs.declared.fault.ClientFault.TheVariants as faults
use Rattle.linda_client.specs.declared.outcome.Got.{Got}
use Rattle.linda_client.specs.declared.outcome.Got.TheVariants as gots
use Rattle.linda_client.specs.declared.outcome.Outcome.{Outcome}
use Rattle.linda_client.specs.declared.outcome.Outcome.TheVariants as outcomes
use Rattle.linda_shell_text.specs.MessageWords.{spaced, numbered_then, twice_numbered_then}

-- The client's number, words after a blank, and a line feed.
abbrev pub line_of : ℕ → List ℕ → List ℕ
line_of client words = decimal client ++ spaced (words ++ codes "\n")

-- Texts, with a comma and a blank between two.
abbrev pub listed : {A : Type 0} → (A → List ℕ) → List A → List ℕ
listed text [] = []
listed text (one ∷ others) = text one ++ flat_map (written_field text) others

-- A name, and a list in brackets after a blank.
abbrev pub named_list : {A : Type 0} → List ℕ → (A → List ℕ) → List A → List ℕ
named_list name text items = name ++ (codes " [" ++ (listed text items ++ codes "]"))

-- A word, the server, the id and the tuple, and what its template bound.
abbrev pub match_words : List ℕ → ℕ → ℕ → Tuple → List Atom → List ℕ
match_words word server id tuple bindings =
    twice_numbered_then word server id
    (written_tuple tuple ++ named_list (codes " binds") written_atom bindings)

abbrev pub got_words : Got → List ℕ
got_words (gots.Took server id tuple bindings) = match_words (codes "took") server id tuple bindings
got_words (gots.Copied server id tuple bindings) =
    match_words (codes "read") server id tuple bindings
got_words gots.Alarm = codes "alarm"
got_words (gots.Always value) = codes "always " ++ written_atom value

-- The labels above what was chosen, and the nacks that it raised.
abbrev pub signs : List ℕ → List ℕ → List ℕ
signs labels raised =
    named_list (codes " labels") decimal labels ++ named_list (codes " raised") decimal raised

abbrev pub outcome_words : Outcome → List ℕ
outcome_words (outcomes.Stored server id) = numbered_then (codes "stored") server (decimal id)
outcome_words (outcomes.Synced base got labels raised) = got_words got ++ signs labels raised
outcome_words (outcomes.Dropped raised) = named_list (codes "dropped raised") decimal raised
outcome_words outcomes.Left = codes "left"

-- A refusal that a server sent.
abbrev pub fault_words : ℕ → ℕ → ℕ → List ℕ
fault_words server code detail = twice_numbered_then (codes "fault") server code (decimal detail)

-- A call that the client refuses; nothing for a fault that no call of a script has.
abbrev pub refusal_words : ClientFault → Option (List ℕ)
refusal_words faults.Left = Some (codes "left")
refusal_words faults.Busy = Some (codes "busy")
refusal_words faults.Idle = Some (codes "idle")
refusal_words faults.TooDeep = Some (codes "too deep")
refusal_words faults.TooManyBases = Some (codes "too many bases")
refusal_words faults.Spent = Some (codes "spent")
refusal_words faults.ServersRange = None
refusal_words faults.NoServer = None
refusal_words faults.Memory = None

-- The line has these words after `refused`, or there is none.
abbrev pub IsRefusal : ℕ → Option (List ℕ) → Option (String Global) → Type 0
IsRefusal client (Some words) (Some line) =
    string_bytes line ≡ line_of client (codes "refused" ++ spaced words)
IsRefusal client (Some words) None = ⊥
IsRefusal client None (Some line) = ⊥
IsRefusal client None None = Unit {0}
