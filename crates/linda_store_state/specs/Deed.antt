-- Deeds, one by one and in lists: whose they are, what they put, and what they take.
use Rattle.std.specs.Prelude.{ℕ, Bool, false, ◌==◌, if◌then◌else◌}
use Rattle.std.specs.Prelude.{List, [], ◌∷◌, Option, Some, None, IsSome}
use Rattle.std.specs.List.{filter_map, list_any}
use Rattle.linda_tuple.specs.Tuple.{Tuple}
use Rattle.linda_store_state.specs.declared.deed.Deed.{Deed}
use Rattle.linda_store_state.specs.declared.deed.Deed.TheVariants.{Out, Take, Pass, Leave}

-- the client that did the deed
abbrev pub client_of : Deed → ℕ
client_of (Out client n tuple) = client
client_of (Take client n id) = client
client_of (Pass client n id) = client
client_of (Leave client n) = client

-- the number of the message that the deed answers
abbrev pub number_of : Deed → ℕ
number_of (Out client n tuple) = n
number_of (Take client n id) = n
number_of (Pass client n id) = n
number_of (Leave client n) = n

-- the tuple that the deed puts, if it puts one
abbrev pub put_by : Deed → Option Tuple
put_by (Out client n tuple) = Some tuple
put_by (Take client n id) = None
put_by (Pass client n id) = None
put_by (Leave client n) = None

-- the id of the tuple that the deed takes, if it takes one
abbrev pub taken_by : Deed → Option ℕ
taken_by (Out client n tuple) = None
taken_by (Take client n id) = Some id
taken_by (Pass client n id) = None
taken_by (Leave client n) = None

-- The deed puts a tuple.
abbrev pub PutsTuple : Deed → Type 0
PutsTuple d = IsSome (put_by d)

-- whether this is the id
abbrev pub is_id : ℕ → Option ℕ → Bool
is_id id None = false
is_id id (Some other) = other == id

-- whether the deed takes the tuple of this id
abbrev pub takes : ℕ → Deed → Bool
takes id d = is_id id (taken_by d)

-- the tuples put, in order
abbrev pub outs_of : List Deed → List Tuple
outs_of ds = filter_map put_by ds

-- whether some deed takes the tuple of this id
abbrev pub is_taken : ℕ → List Deed → Bool
is_taken id ds = list_any (takes id) ds

-- a client's last deed in `d ∷ ds`, given that in `ds`
abbrev pub last_with : ℕ → Deed → Option (List Deed × Deed) → Option (List Deed × Deed)
last_with c d (Some found) = Some (d ∷ found.0, found.1)
last_with c d None = if client_of d == c then Some ([], d) else None

-- the last deed of a client, with the deeds before it
abbrev pub last_of : ℕ → List Deed → Option (List Deed × Deed)
last_of c [] = None
last_of c (d ∷ ds) = last_with c d (last_of c ds)
