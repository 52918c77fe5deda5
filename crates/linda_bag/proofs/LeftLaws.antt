-- A search through the entries of a map in ascending order of keys: what is known of the entries that are left, and what follows if one is found and
-- if all are passed.
use Rattle.std.proofs.Common.{◌≡◌, ℕ, suc, ◌<◌, ◌↔◌, inl, inr, arith, ◌==◌, Bool, true, false, cond, List, [], ◌∷◌, All}
use Rattle.std.proofs.Common.{Option, Some, IsSome, IsTrue, refl, sym, ap, subst, ◌∙◌, nat_cmp, BTreeMap, true≢false}
use Rattle.std.specs.Ordering.{eq_by_cmp}
use Rattle.std.specs.Cmp.{unsigned_ties, unsigned_Decides}
use Rattle.std.specs.Map.{keys_of, lookup}
use Rattle.std.specs.BTreeMap as tree
use Rattle.std.specs.FinMap.{FinMap, get, from_entries}
use Rattle.linda_tuple.specs.Tuple.{Tuple}
use Rattle.linda_tuple.specs.Template.{Template}
use Rattle.linda_tuple.specs.Matching.{Matches}
use Rattle.linda_bag.specs.FreeMatch.{IsFreeMatch}
use Rattle.linda_map_laws.proofs.MapLaws.{get_is_lookup}
use Rattle.linda_bag.proofs.AheadLaws.{IsAhead, IsKey, fewer_ahead, none_before, none_ahead}
use Rattle.linda_bag.proofs.FreeMatchLaws.{free_there}

-- One of the entries has the key k.
abbrev pub HasKey : {X : Type 0} → ℕ → List (ℕ × X) → Type 0
HasKey k es = IsKey k (keys_of es)

-- The keys of what is left are those that are ahead, and what is left is of the map m.
pub record IsLeft {X : Type 0} (m : FinMap nat_cmp X) (Wanted : ℕ → Type 0) (left : List (ℕ × X)) : Type 0 where
  pub ahead : IsAhead Wanted (keys_of left)
  pub stored : All (λ e. get m e.0 ≡ Some e.1) left

entry_key : {X : Type 0} (k : ℕ) (es : List (ℕ × X)) → IsSome (lookup (eq_by_cmp nat_cmp k) es) → HasKey k es
entry_key k [] found = absurd (true≢false (sym found))
entry_key k (e ∷ es) found =
    elim (k == e.0) as (λ b. (k == e.0) ≡ b → HasKey k (e ∷ es)) [
      | true ↦ λ is. inl ((unsigned_Decides k e.0).0 is)
      | false ↦ λ is. inr (entry_key k es (subst (λ b. IsSome (cond b (Some e.1) (lookup (eq_by_cmp nat_cmp k) es))) (sym (unsigned_ties k e.0) ∙ is) found))
    ] refl

-- At the start all entries of a tree are left.
pub all_left : {X : Type 0} (t : BTreeMap ℕ X) (Wanted : ℕ → Type 0) (left : List (ℕ × X)) → left ≡ t.entries → tree.IsOrdered nat_cmp t
    → All (λ e. tree.get nat_cmp t e.0 ≡ Some e.1) t.entries → ((k : ℕ) → Wanted k → IsSome (get (from_entries {R = nat_cmp} t.entries) k))
    → IsLeft (from_entries t.entries) Wanted left
all_left {X} t Wanted left hint ordered found there = subst (IsLeft (from_entries t.entries) Wanted) (sym hint) record {
  ahead = record {
    sorted = ordered;
    each = λ k wanted. entry_key k t.entries (subst (λ (o : Option X). IsSome o) (get_is_lookup t k) (there k wanted));
  };
  stored = λ k d lt. get_is_lookup t _ ∙ found k d lt;
}

module _ {X : Type 0} (m : FinMap nat_cmp X) (Wanted : ℕ → Type 0) (left : List (ℕ × X)) where
  module _ (e : ℕ × X) (rest : List (ℕ × X)) (is_left : IsLeft m Wanted left) (starts : left ≡ e ∷ rest) where
    known : IsLeft m Wanted (e ∷ rest)
    known = subst (IsLeft m Wanted) starts is_left

    -- The first entry that is left is of the map.
    pub first_stored : get m e.0 ≡ Some e.1
    first_stored = known.stored 0 e (omega arith)

    -- If the key of the first entry is not wanted, only the others are left.
    pub fewer_left : (Wanted e.0 → ⊥) → IsLeft m Wanted rest
    fewer_left unwanted = record {
      ahead = fewer_ahead Wanted (keys_of left) e.0 (keys_of rest) is_left.ahead (ap keys_of starts) unwanted;
      stored = λ k d lt. known.stored (suc k) d (omega arith);
    }

    -- No key below that of the first entry that is left is wanted.
    pub none_below : (k : ℕ) → k < e.0 → Wanted k → ⊥
    none_below = none_before Wanted (keys_of left) e.0 (keys_of rest) is_left.ahead (ap keys_of starts)

  -- If nothing is left, no key is wanted.
  pub none_wanted : IsLeft m Wanted left → left ≡ [] → (k : ℕ) → Wanted k → ⊥
  none_wanted is_left ended = none_ahead Wanted (keys_of left) is_left.ahead (ap keys_of ended)

-- An entry that fails the test is no free match.
pub not_free : (m : FinMap nat_cmp Tuple) (shape : Template) (passed : ℕ → Bool) (e : ℕ × Tuple) (test : Bool) → get m e.0 ≡ Some e.1
    → (IsTrue test ↔ (Matches shape e.1 × (passed e.0 ≡ false))) → test ≡ false → IsFreeMatch m shape passed e.0 → ⊥
not_free m shape passed e test stored decides fails match =
    true≢false (sym ((free_there m shape passed e.0 e.1 test stored decides).1 match) ∙ fails)
