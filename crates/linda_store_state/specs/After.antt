-- The state after a list of deeds: a set of pairs and a last deed by client, no matter what was
-- done to get there.
use Rattle.std.specs.Prelude.{◌≡◌, ℕ, ◌+◌, ◌-◌, nat_lt, if◌then◌else◌}
use Rattle.std.specs.Prelude.{List, length, Option, Some, None}
use Rattle.std.specs.List.{slice_get}
use Rattle.std.specs.FinMap as map
use Rattle.linda_tuple.specs.Tuple.{Tuple}
use Rattle.linda_book.specs.declared.kept_reply.KeptReply.{KeptReply}
use Rattle.linda_book.specs.declared.kept_reply.KeptReply.TheVariants as kept
use Rattle.linda_book.specs.Entries.{Entry}
use Rattle.linda_store_state.specs.declared.deed.Deed.{Deed}
use Rattle.linda_store_state.specs.declared.deed.Deed.TheVariants.{Out, Take, Pass, Leave}
use Rattle.linda_store_state.specs.Deed.{outs_of, is_taken, last_of, number_of}
use Rattle.linda_store_state.specs.State.{State}

-- The bag: the old tuples and those put, the k-th of them under the next id plus k, less what is
-- taken.
abbrev pub bag_after : State → List Deed → ℕ → Option Tuple
bag_after st ds id =
    if is_taken id ds then None
    else (if nat_lt id st.next then map.get st.bag id
    else slice_get (outs_of ds) (id - st.next))

-- the reply to a Take: the tuple that it took
abbrev pub taken_reply : ℕ → Option Tuple → KeptReply
taken_reply id (Some tuple) = kept.Taken id tuple
taken_reply id None = kept.Gone

-- the reply to a deed, given the deeds before it
abbrev pub reply_of_deed : State → List Deed → Deed → KeptReply
reply_of_deed st before (Out client n tuple) = kept.Stored (st.next + length (outs_of before))
reply_of_deed st before (Take client n id) = taken_reply id (bag_after st before id)
reply_of_deed st before (Pass client n id) = kept.Gone
reply_of_deed st before (Leave client n) = kept.Left

-- a client's entry, given its last deed, if there is one, with the deeds before it
abbrev pub entry_after : State → ℕ → Option (List Deed × Deed) → Option Entry
entry_after st c None = map.get st.book c
entry_after st c (Some last) = Some (number_of last.1, reply_of_deed st last.0 last.1)

-- The book: a client's last deed with its reply; without one, the old entry.
abbrev pub book_after : State → List Deed → ℕ → Option Entry
book_after st ds c = entry_after st c (last_of c ds)

-- The new state is the old one after these deeds.
pub record IsAfter (st : State) (ds : List Deed) (new : State) : Type 0 where
  pub bag : (id : ℕ) → map.get new.bag id ≡ bag_after st ds id
  pub book : (c : ℕ) → map.get new.book c ≡ book_after st ds c
  pub next : new.next ≡ st.next + length (outs_of ds)
