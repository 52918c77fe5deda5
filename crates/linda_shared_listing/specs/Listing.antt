-- A piece of the tuples of a server.
use Rattle.std.specs.Prelude.{◌≡◌, ◌≤◌, ◌<◌, ℕ, Bool, true, false, [], Option, None, Some}
use Rattle.std.specs.Prelude.{All, IfSome, length, map}
use Rattle.std.specs.Ordering.{nat_cmp}
use Rattle.std.specs.FinMap as fin
use Rattle.linda_tuple.specs.declared.atom.Atom.{Atom}
use Rattle.linda_tuple.specs.Tuple.{Tuple}
use Rattle.linda_tuple.specs.Sameness.{same_atom}
use Rattle.linda_hold.specs.Holds.{HeldFor}
use Rattle.linda_shared_listing.specs.Firsts.{AreFirst}
use Rattle.linda_shared_listing.specs.declared.limits.TheConstants.{MOST_AT_ONCE}
use Rattle.linda_shared_listing.specs.declared.listed.ListedTuple.{ListedTuple}
use Rattle.linda_shared_listing.specs.declared.listed.TupleQuery.{TupleQuery}
use Rattle.linda_shared_listing.specs.declared.listed.TuplePage.{TuplePage}

-- Whether a tuple is asked for by this tag: each is if there is none.
abbrev pub is_asked : Option Atom → Tuple → Bool
is_asked None tuple = true
is_asked (Some tag) tuple = same_atom tag tuple.tag

-- whether there is a tuple, and it is asked for
abbrev pub is_asked_in : Option Atom → Option Tuple → Bool
is_asked_in tag None = false
is_asked_in tag (Some tuple) = is_asked tag tuple

-- Whether there is a tuple of this id that is asked for.
abbrev pub is_wanted : fin.FinMap nat_cmp Tuple → Option Atom → ℕ → Bool
is_wanted bag tag id = is_asked_in tag (fin.get bag id)

-- The row has the tuple of its id, and the request that it is held for, if it is.
abbrev pub IsRow : fin.FinMap nat_cmp Tuple → HeldFor → ListedTuple → Type 0
IsRow bag holds row = (fin.get bag row.id ≡ Some row.tuple) × (row.held ≡ fin.get holds row.id)

-- The page has the first tuples from the id on that are asked for, in rising order of ids, each
-- once and none left out, and says which one is the next. It has none only if there is none.
pub record IsPage (bag : fin.FinMap nat_cmp Tuple) (holds : HeldFor) (query : TupleQuery)
    (page : TuplePage) : Type 0 where
  pub first : AreFirst (is_wanted bag query.tag) query.from
      (map (λ row. row.id) page.rows.items) page.next
  pub rows : All (IsRow bag holds) page.rows.items
  pub few : length page.rows.items ≤ MOST_AT_ONCE
  pub within : length page.rows.items ≤ query.limit
  pub some : page.rows.items ≡ [] → page.next ≡ None
  pub onward : IfSome page.next (λ id. query.from < id)
