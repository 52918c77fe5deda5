-- Finite maps whose keys are numbers: what a look-up gives after a change, which maps are equal, how
-- many entries there are, and that a `BTreeMap` changes as the map of its entries does. The values
-- are of any type, so that one fact serves tuples, kept replies and whatever else has a number.
use Rattle.std.proofs.Common.{◌≡◌, ◌≢◌, ℕ, ◌+◌, Bool, true, false, cond, ◌&&◌, ◌==◌, T, List, [], ◌∷◌, Option, Some}
use Rattle.std.proofs.Common.{None, IsSome, is_some, length, refl, sym, ap, subst, ◌∙◌, nat_cmp, is_lt, Less}
use Rattle.std.proofs.Common.{btree_map_len, BTreeMap, eq-eqb, ne_eqb, true≢false}
use Rattle.std.specs.Ordering.{eq_by_cmp}
use Rattle.std.specs.Cmp.{nat_cmp_total, eq_by_cmp_equiv, unsigned_ties, unsigned_Decides}
use Rattle.std.specs.Map.{lookup, keys_of}
use Rattle.std.specs.List.{AllByRecursion}
use Rattle.std.specs.List.Sorted.{IsStrictlySortedBy}
use Rattle.std.specs.BTreeMap as tree
use Rattle.std.specs.FinMap.{FinMap, empty, get, insert, remove, len, entries, find, from_entries, from_sorted}
use Rattle.std.specs.FinMap.{is_sorted, nat_cmp-IsAntisymmetric, get-empty, get-insert, get-remove, get-from_entries}
use Rattle.std.specs.FinMap.{get-from_sorted, entries-from_sorted, len-entries, len-insert}
use Rattle.std.specs.FinMap.Entries.{below_all}
use Rattle.std.specs.FinMap as map

both_hold : (a b : Bool) → T a → T b → T (a && b)
both_hold true b p q = q
both_hold false b p q = p

module _ {X : Type 0} where
  -- What a look-up gives after a change, by a test of the keys.
  pub get_inserted : (m : FinMap nat_cmp X) (k : ℕ) (v : X) (q : ℕ) → get (insert m k v) q ≡ cond (q == k) (Some v) (get m q)
  get_inserted m k v q = get-insert nat_cmp_total m k v q ∙ ap (λ b. cond b (Some v) (get m q)) (sym (unsigned_ties q k))

  pub get_removed : (m : FinMap nat_cmp X) (k q : ℕ) → get (remove m k) q ≡ cond (q == k) None (get m q)
  get_removed m k q = get-remove nat_cmp_total m k q ∙ ap (λ b. cond b None (get m q)) (sym (unsigned_ties q k))

  -- What a look-up gives after a change, at the key itself and at another.
  pub get_same : (m : FinMap nat_cmp X) (k : ℕ) (v : X) → get (insert m k v) k ≡ Some v
  get_same m k v = get_inserted m k v k ∙ ap (λ b. cond b (Some v) (get m k)) (eq-eqb k k refl)

  pub get_other : (m : FinMap nat_cmp X) (k : ℕ) (v : X) (q : ℕ) → q ≢ k → get (insert m k v) q ≡ get m q
  get_other m k v q apart = get_inserted m k v q ∙ ap (λ b. cond b (Some v) (get m q)) (ne_eqb q k apart)

  pub get_removed_same : (m : FinMap nat_cmp X) (k : ℕ) → get (remove m k) k ≡ None
  get_removed_same m k = get_removed m k k ∙ ap (λ b. cond b None (get m k)) (eq-eqb k k refl)

  pub get_removed_other : (m : FinMap nat_cmp X) (k q : ℕ) → q ≢ k → get (remove m k) q ≡ get m q
  get_removed_other m k q apart = get_removed m k q ∙ ap (λ b. cond b None (get m q)) (ne_eqb q k apart)

  pub get_empty : (k : ℕ) → get (empty {X = X} {R = nat_cmp}) k ≡ None
  get_empty k = get-empty nat_cmp k

  -- Maps that answer alike at each key are equal.
  pub same_map : (m n : FinMap nat_cmp X) → ((q : ℕ) → get m q ≡ get n q) → m ≡ n
  same_map m n alike = map.same_map nat_cmp_total nat_cmp-IsAntisymmetric m n alike

  -- It is enough to look at one key and at all others.
  pub same_map_by_key : (m n : FinMap nat_cmp X) (k : ℕ) → get m k ≡ get n k → ((q : ℕ) → q ≢ k → get m q ≡ get n q) → m ≡ n
  same_map_by_key m n k here apart = same_map m n at
    where
      at : (q : ℕ) → get m q ≡ get n q
      at q =
          elim (q == k) as (λ b. (q == k) ≡ b → get m q ≡ get n q) [
            | true ↦ λ e. subst (λ x. get m x ≡ get n x) (sym ((unsigned_Decides q k).0 e)) here
            | false ↦ λ e. apart q (λ is. true≢false (sym ((unsigned_Decides q k).1 is) ∙ e))
          ] refl

  -- An insertion under a new key is undone by its removal.
  pub undone : (m : FinMap nat_cmp X) (k : ℕ) (v : X) → get m k ≡ None → remove (insert m k v) k ≡ m
  undone m k v none =
      same_map_by_key _ _ k
      (get_removed_same (insert m k v) k ∙ sym none)
      (λ q apart. get_removed_other (insert m k v) k q apart ∙ get_other m k v q apart)

  -- How many entries there are after an insertion.
  pub len_new : (m : FinMap nat_cmp X) (k : ℕ) (v : X) → get m k ≡ None → len (insert m k v) ≡ len m + 1
  len_new m k v none = len-insert nat_cmp_total m k v ∙ ap (λ o. cond (is_some o) (len m) (len m + 1)) none

  pub len_old : (m : FinMap nat_cmp X) (k : ℕ) (v : X) → IsSome (get m k) → len (insert m k v) ≡ len m
  len_old m k v some = len-insert nat_cmp_total m k v ∙ ap (λ b. cond b (len m) (len m + 1)) some

  below_tested : (k : ℕ) (es : List (ℕ × X)) → AllByRecursion (λ y. nat_cmp k y ≡ Less) (keys_of es) → T (below_all nat_cmp k es)
  below_tested k [] below = tt
  below_tested k (e ∷ es) below = both_hold _ _ (subst (λ o. T (is_lt o)) (sym below.0) tt) (below_tested k es below.1)

  sorted_tested : (es : List (ℕ × X)) → IsStrictlySortedBy nat_cmp (keys_of es) → T (is_sorted nat_cmp es)
  unfolding IsStrictlySortedBy
  sorted_tested [] sorted = tt
  sorted_tested (e ∷ es) sorted = both_hold _ _ (below_tested e.0 es sorted.0) (sorted_tested es sorted.1)

  -- The map of a tree's entries has those entries, in their order, and so as many as the tree.
  sorted_entries : (es : List (ℕ × X)) → IsStrictlySortedBy nat_cmp (keys_of es) → entries (from_entries {R = nat_cmp} es) ≡ es
  sorted_entries es ordered =
      let sorted = sorted_tested es ordered in
      let same : from_entries {R = nat_cmp} es ≡ from_sorted es =
      same_map _ _ (λ q. get-from_entries nat_cmp_total es q ∙ sym (get-from_sorted nat_cmp es q sorted)) in
      ap entries same ∙ entries-from_sorted nat_cmp es sorted

  pub len_sorted : (es : List (ℕ × X)) → IsStrictlySortedBy nat_cmp (keys_of es) → len (from_entries {R = nat_cmp} es) ≡ length es
  len_sorted es ordered = len-entries _ ∙ ap length (sorted_entries es ordered)

  pub same_entries : (t : BTreeMap ℕ X) → tree.IsOrdered nat_cmp t → entries (from_entries {R = nat_cmp} t.entries) ≡ t.entries
  same_entries t ordered = sorted_entries t.entries ordered

  pub len_entries : (t : BTreeMap ℕ X) → tree.IsOrdered nat_cmp t → len (from_entries {R = nat_cmp} t.entries) ≡ btree_map_len t
  len_entries t ordered = len_sorted t.entries ordered

  pub find_is_lookup : (k : ℕ) (es : List (ℕ × X)) → find nat_cmp k es ≡ lookup (eq_by_cmp nat_cmp k) es
  find_is_lookup k [] = refl
  find_is_lookup k (e ∷ es) = ap (cond (eq_by_cmp nat_cmp k e.0) (Some e.1)) (find_is_lookup k es)

  -- A look-up in the map of a tree's entries gives what a look-up in the tree does.
  pub get_is_lookup : (t : BTreeMap ℕ X) (k : ℕ) → get (from_entries {R = nat_cmp} t.entries) k ≡ tree.get nat_cmp t k
  get_is_lookup t k = get-from_entries nat_cmp_total t.entries k ∙ find_is_lookup k t.entries

  updated : (old new : BTreeMap ℕ X) (k : ℕ) (w : Option X) → tree.Updates nat_cmp old new k w → (q : ℕ)
      → get (from_entries {R = nat_cmp} new.entries) q ≡ cond (q == k) w (get (from_entries {R = nat_cmp} old.entries) q)
  updated old new k w updates q =
      get_is_lookup new q
      ∙ updates.0 q
      ∙ ap (λ b. cond b w (tree.get nat_cmp old q)) ((eq_by_cmp_equiv nat_cmp_total).symm k q ∙ sym (unsigned_ties q k))
      ∙ ap (cond (q == k) w) (sym (get_is_lookup old q))

  -- If one key of a tree was set, the map has it inserted.
  pub one_set : (old new : BTreeMap ℕ X) (k : ℕ) (v : X) → tree.Updates nat_cmp old new k (Some v)
      → from_entries {R = nat_cmp} new.entries ≡ insert (from_entries old.entries) k v
  one_set old new k v updates = same_map _ _ (λ q. updated old new k (Some v) updates q ∙ sym (get_inserted (from_entries old.entries) k v q))

  -- If one key was taken from a tree, the map has it removed.
  pub one_gone : (old new : BTreeMap ℕ X) (k : ℕ) → tree.Updates nat_cmp old new k None
      → from_entries {R = nat_cmp} new.entries ≡ remove (from_entries old.entries) k
  one_gone old new k updates = same_map _ _ (λ q. updated old new k None updates q ∙ sym (get_removed (from_entries old.entries) k q))

  -- A look-up in the map that a tree represents gives what one in the tree does.
  pub viewed : (t : BTreeMap ℕ X) (m : FinMap nat_cmp X) → from_entries {R = nat_cmp} t.entries ≡ m → (k : ℕ) → tree.get nat_cmp t k ≡ get m k
  viewed t m same k = sym (get_is_lookup t k) ∙ ap (λ x. get x k) same
