-- Where a row is filed in an index, as the index's code finds it.
use Rattle.std.proofs.Common.{◌≡◌, Option, None, Some, ap}
use Rattle.linda_tuple.specs.declared.atom.Atom.{Atom}
use Rattle.linda_tuple.specs.contracts.atom.AtomOrd.TheImpl as atom_ord
use Rattle.linda_tuple.specs.Tuple.{Tuple}
use Rattle.linda_bag.specs.Filing.{Rows, IsBare, row_at, placed}
use Rattle.linda_bag.specs.declared.tag_index.TagIndex.{TagIndex}
use Rattle.linda_bag.specs.declared.index.Group.{Group}
use Rattle.linda_bag.specs.contracts.index.GroupIdIndexTuple.TheImpl as group
use Rattle.linda_bag.specs.TagIndex.{HasTags}
use Rattle.linda_bag.specs.Candidates.{tag_of, count_of, first_of, with_first}

-- The index has the tuples under these ids.
abbrev pub HasIndex : TagIndex Group → Rows Tuple → Type 0
HasIndex index rows = HasTags tag_of count_of group.ghosts.has index rows

-- A row is filed under the key that was read from it.
pub key_placed : {K T : Type 0} (key_of : T → K) (row : T) (key : K) → key ≡ key_of row → Some (key, row) ≡ placed (λ r. Some (key_of r)) (Some row)
key_placed key_of row key same = ap (λ k. Some (k, row)) same

-- If there are no rows, none has the value first.
pub bare_first : (first : Option Atom) (rows : Rows Tuple) → IsBare rows → IsBare (with_first first rows)
bare_first None rows bare = bare
bare_first (Some v) rows bare = λ id. ap (λ o. row_at atom_ord.ghosts.cmp v (placed first_of o)) (bare id)
