-- A set of ids that has a place for a single one.
use Rattle.std.specs.Prelude.{◌≡◌, ℕ, Bool, false, cond, ◌||◌, List, Option, None, Some, length}
use Rattle.std.specs.List.{list_any}
use Rattle.std.specs.List.Sorted.{IsStrictlySortedBy}
use Rattle.std.specs.Ordering.{is_eq, nat_cmp}
use Rattle.std.specs.Option.{is_some}
use Rattle.std.specs.FinMap.{FinMap, contains_key}
use Rattle.linda_bag.specs.declared.ids.Ids.{Ids}
use Rattle.linda_bag.specs.declared.ids.Ids.TheVariants as ids
use Rattle.linda_bag.specs.Filing.{Rows}

-- several ids: a map from them to nothing
abbrev pub Many : Type 0
Many = FinMap nat_cmp (Unit {0})

-- The set has what the old one has, but for the id: whether that is in it, is said here.
abbrev pub SetsId : Many → Many → ℕ → Bool → Type 0
SetsId old new id there =
    (q : ℕ) → contains_key new q ≡ cond (is_eq (nat_cmp id q)) there (contains_key old q)

-- whether the id is one of the set
abbrev pub has_id : Ids → ℕ → Bool
has_id ids.Nothing id = false
has_id (ids.One only) id = is_eq (nat_cmp id only)
has_id (ids.Many many) id = contains_key many.value id

-- The set has the ids of the rows, and no others.
abbrev pub IsOf : {T : Type 0} → Ids → Rows T → Type 0
IsOf set rows = (id : ℕ) → has_id set id ≡ is_some (rows id)

-- The set has these two ids, and no others.
abbrev pub HasPair : ℕ → ℕ → Many → Type 0
HasPair one other both =
    (id : ℕ) → contains_key both id ≡ (is_eq (nat_cmp id one) || is_eq (nat_cmp id other))

-- whether the id is one of the set, if there is a set
abbrev pub has_any : Option Ids → ℕ → Bool
has_any None id = false
has_any (Some set) id = has_id set id

-- As many rows there are: so long is the list of their ids, which has each once.
pub record IsCount {T : Type 0} (rows : Rows T) (n : ℕ) : Type 0 where
  pub ids : List ℕ
  pub ascending : IsStrictlySortedBy nat_cmp ids
  pub each : (id : ℕ) → list_any (λ k. is_eq (nat_cmp id k)) ids ≡ is_some (rows id)
  pub long : length ids ≡ n
