-- The sum of what a number is read from, over the values of a finite map: how an insertion changes it.
use Rattle.std.proofs.Common.{◌≡◌, ℕ, ◌+◌, Bool, true, false, ◌&&◌, T, List, [], ◌∷◌, refl, sym, ◌∙◌, subst, nat_cmp, is_lt, Less, Equal, Greater, Ordering}
use Rattle.std.specs.Cmp.{nat_cmp_total}
use Rattle.std.specs.Option.{unwrap_or, option_map}
use Rattle.std.specs.Map.{lookup, keys_of, values_of}
use Rattle.std.specs.List.{AllByRecursion, sum_by}
use Rattle.std.specs.List.Sorted.{IsStrictlySortedBy}
use Rattle.std.specs.BTreeMap.{is_at, insert_entry}
use Rattle.std.specs.FinMap.{FinMap, get, insert, entries, entries_sorted, entries-insert, get-entries, is_sorted}
use Rattle.std.specs.FinMap.Entries.{below_all, put}
use Rattle.std.proofs.lemmas.Map.Entries.{sum_by-insert_entry}
use Rattle.linda_map_laws.proofs.MapLaws.{find_is_lookup}

first_of : (a b : Bool) → T (a && b) → T a
first_of true b p = tt
first_of false b p = p

second_of : (a b : Bool) → T (a && b) → T b
second_of true b p = p
second_of false b p = absurd p

is_less : (o : Ordering) → T (is_lt o) → o ≡ Less
is_less Less p = refl
is_less Equal p = absurd p
is_less Greater p = absurd p

module _ {X : Type 0} where
  -- The entries of a finite map are in order of rising keys, as those of a `BTreeMap` are.
  below_keys : (k : ℕ) (es : List (ℕ × X)) → T (below_all nat_cmp k es) → AllByRecursion (λ y. nat_cmp k y ≡ Less) (keys_of es)
  below_keys k [] below = tt
  below_keys k (e ∷ es) below =
      let here : T (is_lt (nat_cmp k e.0)) = first_of (is_lt (nat_cmp k e.0)) (below_all nat_cmp k es) below in
      let rest : T (below_all nat_cmp k es) = second_of (is_lt (nat_cmp k e.0)) (below_all nat_cmp k es) below in
      (is_less (nat_cmp k e.0) here, below_keys k es rest)

  sorted_keys : (es : List (ℕ × X)) → T (is_sorted nat_cmp es) → IsStrictlySortedBy nat_cmp (keys_of es)
  unfolding IsStrictlySortedBy
  sorted_keys [] sorted = tt
  sorted_keys (e ∷ es) sorted =
      let here : T (below_all nat_cmp e.0 es) = first_of (below_all nat_cmp e.0 es) (is_sorted nat_cmp es) sorted in
      let rest : T (is_sorted nat_cmp es) = second_of (below_all nat_cmp e.0 es) (is_sorted nat_cmp es) sorted in
      (below_keys e.0 es here, sorted_keys es rest)

  -- An entry is put where that of a `BTreeMap` is.
  put_is : (k : ℕ) (v : X) (es : List (ℕ × X)) → put nat_cmp k v es ≡ insert_entry nat_cmp es k v
  put_is k v [] = refl
  put_is k v (e ∷ es) = by (nat_cmp k e.0) refl (put_is k v es)
    where
      by : (o : Ordering) → nat_cmp k e.0 ≡ o → put nat_cmp k v es ≡ insert_entry nat_cmp es k v → put nat_cmp k v (e ∷ es) ≡ insert_entry nat_cmp (e ∷ es) k v
      by Less is rest = rw is
      by Equal is rest = rw is
      by Greater is rest = rw (is, rest)

  -- With an insertion the sum gains what the new value counts, and loses what the value of before did, if there was one.
  pub sum_inserted : (f : X → ℕ) (m : FinMap nat_cmp X) (k : ℕ) (v : X)
      → sum_by f (values_of (entries (insert m k v))) + unwrap_or (option_map f (get m k)) 0 ≡ sum_by f (values_of (entries m)) + f v
  sum_inserted f m k v =
      let old : List (ℕ × X) = entries m in
      let whole = sum_by-insert_entry f nat_cmp_total old k v (sorted_keys old (entries_sorted m)) in
      let there : entries (insert m k v) ≡ insert_entry nat_cmp old k v = entries-insert nat_cmp_total m k v ∙ put_is k v old in
      let found : get m k ≡ lookup (is_at (nat_cmp k)) old = get-entries m k ∙ find_is_lookup k old in
      subst (λ es. sum_by f (values_of es) + unwrap_or (option_map f (get m k)) 0 ≡ sum_by f (values_of old) + f v) (sym there)
      (subst (λ o. sum_by f (values_of (insert_entry nat_cmp old k v)) + unwrap_or (option_map f o) 0 ≡ sum_by f (values_of old) + f v) (sym found) whole)
