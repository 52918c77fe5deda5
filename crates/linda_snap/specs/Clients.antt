-- The clients of a snapshot that is written in steps: what is written of them, and what is still to
-- come.
use Rattle.std.specs.Prelude.{◌≡◌, ◌++◌, ℕ, List, []}
use Rattle.std.specs.List.{flat_map, AllByRecursion}
use Rattle.std.specs.FinMap.{entries}
use Rattle.linda_codec.specs.Formats.{number}
use Rattle.linda_store_state.specs.DeedFormat.{written}
use Rattle.linda_store_state.specs.State.{State}
use Rattle.linda_snap.specs.declared.clients.Clients.{Clients}
use Rattle.linda_snap.specs.Rising.{entries_from, first_after}
use Rattle.linda_snap.specs.Snapshot.{listed, placed, kept, spell_state}

-- The next id of the state and all its tuples are written, and have a spelling.
pub record HasTuples (begun : State) (bytes : List ℕ) : Type 0 where
  pub parts : bytes ≡ number.spell begun.next ++ (listed (placed written)).spell (entries begun.bag)
  pub fits : number.Fits begun.next × (listed (placed written)).Fits (entries begun.bag)

-- A snapshot of the state `begun` is written up to these bytes; the clients after the last one are
-- still to come:
pub record OwesClients (begun : State) (clients : Clients) (bytes : List ℕ) : Type 0 where
  -- they are those of the state;
  pub same : clients.book ≡ begun.book
  -- what is written, and they, are the whole snapshot;
  pub parts : bytes ++ flat_map (kept written).spell
      (entries_from (first_after clients.last) begun.book)
      ≡ spell_state written begun
  -- and if all that is still to come has a spelling, so has all.
  pub fits : AllByRecursion (kept written).Fits (entries_from (first_after clients.last) begun.book)
      → AllByRecursion (kept written).Fits (entries begun.book)
  pub tuples : number.Fits begun.next × (listed (placed written)).Fits (entries begun.bag)

-- None is still to come.
abbrev pub AreThrough : Clients → Type 0
AreThrough clients = entries_from (first_after clients.last) clients.book ≡ []
