-- Requests whose templates begin with a value, and those whose templates begin with none.
use Rattle.std.proofs.Common.{◌≡◌, ℕ, Bool, true, false, cond, Option, None, Some, is_some, refl, ◌∙◌, nat_cmp}
use Rattle.std.specs.Ordering.{is_eq}
use Rattle.std.specs.FinMap.{contains_key}
use Rattle.linda_tuple.specs.declared.atom.Atom.{Atom}
use Rattle.linda_bag.specs.Filing.{Rows, with_row}
use Rattle.linda_bag.specs.Ids.{Many, SetsId}
use Rattle.linda_bag.specs.FirstFieldIndex.{if_keyed, keyed_in}
use Rattle.linda_bag.proofs.NotedLaws.{noted_with}
use Rattle.linda_hold.specs.declared.asked.Asked.{Asked}
use Rattle.linda_hold.specs.FirstValue.{first_of}
use Rattle.linda_hold.specs.Group.{if_unkeyed, unkeyed_at, unkeyed_of, HasNumbers}

-- There is no request if there is none that begins with a value and none that begins with no value.
pub no_request : (o : Option Asked) → keyed_in first_of o ≡ None → unkeyed_at o ≡ None → o ≡ None
no_request None keyed unkeyed = refl
no_request (Some asked) keyed unkeyed = by (first_of asked) keyed unkeyed
  where
    by : (first : Option Atom) → if_keyed first asked ≡ None → if_unkeyed first asked ≡ None → Some asked ≡ None
    by None keyed unkeyed = unkeyed
    by (Some v) keyed unkeyed = keyed

-- A set of the requests that begin with no value, after one row changed.
pub unkeyed_with : (old new : Many) (asked : Rows Asked) (id : ℕ) (o : Option Asked) (b : Bool) → HasNumbers old (unkeyed_of asked)
    → SetsId old new id b → b ≡ is_some (unkeyed_at o) → HasNumbers new (unkeyed_of (with_row asked id o))
unkeyed_with old new asked id o b has changed same q =
    noted_with (contains_key old) (contains_key new) (unkeyed_of asked) id has b (unkeyed_at o) changed same q
    ∙ elim (is_eq (nat_cmp id q)) as (λ t. is_some (cond t (unkeyed_at o) (unkeyed_at (asked q)))
    ≡ is_some (unkeyed_at (cond t o (asked q)))) [ true ↦ refl | false ↦ refl ]
