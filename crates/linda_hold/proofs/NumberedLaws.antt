-- Waits under their numbers, in order: a look-up finds there what it finds in the map that keeps them.
use Rattle.std.proofs.Common.{◌≡◌, ℕ, arith, Bool, true, false, ◌&&◌, T, cond, List, [], ◌∷◌, None, Some, length, refl}
use Rattle.std.proofs.Common.{sym, ap, subst, ◌∙◌, nat_cmp, nat_eq, is_lt, Less}
use Rattle.std.specs.declared.cmp.Ordering.{Ordering}
use Rattle.std.specs.declared.cmp.Ordering.TheVariants as orderings
use Rattle.std.specs.Ordering.{is_eq, eq_by_cmp, ordering_reverse}
use Rattle.std.specs.Cmp.{nat_cmp_total, unsigned_ties}
use Rattle.std.specs.List.{AllByRecursion, IsDistinct}
use Rattle.std.specs.List.Sorted.{IsStrictlySortedBy}
use Rattle.std.specs.Map.{lookup, keys_of}
use Rattle.std.specs.BTreeMap.{is_at}
use Rattle.std.specs.FinMap.{len-empty, find, from_entries, is_sorted, entries_sorted, get-entries, get-from_entries, len-entries, nat_cmp-IsAntisymmetric}
use Rattle.std.specs.FinMap.Entries.{below_all}
use Rattle.std.specs.FinMap.Entries as ordering
use Rattle.linda_map_laws.proofs.MapLaws.{find_is_lookup, len_new}
use Rattle.linda_bag.proofs.OrderLaws.{number_itself}
use Rattle.linda_hold.specs.Waits.{Wait}
use Rattle.linda_hold.specs.Numbered.{in_order, wait_at}

first : (a b : Bool) → T (a && b) → T a
first true b both = tt
first false b both = both

second : (a b : Bool) → T (a && b) → T b
second true b both = both
second false b both = absurd both

and : (a b : Bool) → T a → T b → T (a && b)
and true b one two = two
and false b one two = one

less : (o : Ordering) → T (is_lt o) → o ≡ Less
less orderings.Less is = refl
less orderings.Equal is = absurd is
less orderings.Greater is = absurd is

below_told : {X : Type 0} (k : ℕ) (es : List (ℕ × X)) → T (below_all nat_cmp k es) → AllByRecursion (λ y. nat_cmp k y ≡ Less) (keys_of es)
below_told k [] below = tt
below_told k (e ∷ es) below = (less (nat_cmp k e.0) (first _ _ below), below_told k es (second _ _ below))

pub sorted_told : {X : Type 0} (es : List (ℕ × X)) → T (is_sorted nat_cmp es) → IsStrictlySortedBy nat_cmp (keys_of es)
unfolding IsStrictlySortedBy
sorted_told [] sorted = tt
sorted_told (e ∷ es) sorted = (below_told e.0 es (first _ _ sorted), sorted_told es (second _ _ sorted))

below_tested : (k : ℕ) (es : List (ℕ × Wait)) → AllByRecursion (λ y. nat_cmp k y ≡ Less) (keys_of es) → T (below_all nat_cmp k es)
below_tested k [] below = tt
below_tested k (e ∷ es) below = and _ _ (subst (λ o. T (is_lt o)) (sym below.0) tt) (below_tested k es below.1)

sorted_tested : (es : List (ℕ × Wait)) → IsStrictlySortedBy nat_cmp (keys_of es) → T (is_sorted nat_cmp es)
unfolding IsStrictlySortedBy
sorted_tested [] sorted = tt
sorted_tested (e ∷ es) sorted = and _ _ (below_tested e.0 es sorted.0) (sorted_tested es sorted.1)

-- Each wait is found under its number.
past : (e : ℕ × Wait) (all es : List (ℕ × Wait)) → AllByRecursion (λ y. nat_cmp e.0 y ≡ Less) (keys_of es)
    → AllByRecursion (λ f. lookup (is_at (nat_cmp f.0)) all ≡ Some f.1) es → AllByRecursion (λ f. lookup (is_at (nat_cmp f.0)) (e ∷ all) ≡ Some f.1) es
past e all [] above there = tt
past e all (f ∷ fs) above there = (
  ap (λ o. cond (is_eq o) (Some e.1) (lookup (is_at (nat_cmp f.0)) all)) (nat_cmp_total.antisymm f.0 e.0 ∙ ap ordering_reverse above.0)
      ∙ there.0,
  past e all fs above.1 there.1,
)

pub each_found : (es : List (ℕ × Wait)) → IsStrictlySortedBy nat_cmp (keys_of es) → AllByRecursion (λ e. lookup (is_at (nat_cmp e.0)) es ≡ Some e.1) es
unfolding IsStrictlySortedBy
each_found [] sorted = tt
each_found (e ∷ es) sorted =
    (ap (λ b. cond b (Some e.1) (lookup (is_at (nat_cmp e.0)) es)) (number_itself e.0), past e es es sorted.0 (each_found es sorted.1))

-- Lists in order in which look-ups find the same are the same.
pub same_list : (es fs : List (ℕ × Wait)) → IsStrictlySortedBy nat_cmp (keys_of es) → IsStrictlySortedBy nat_cmp (keys_of fs)
    → ((q : ℕ) → lookup (is_at (nat_cmp q)) es ≡ lookup (is_at (nat_cmp q)) fs) → es ≡ fs
same_list es fs first second alike =
    ordering.same_entries nat_cmp nat_cmp_total nat_cmp-IsAntisymmetric es fs (sorted_tested es first)
    (sorted_tested fs second) (λ q. find_is_lookup q es ∙ alike q ∙ sym (find_is_lookup q fs))

-- A look-up of the map is one of a finite map.
pub alike : (es : List (ℕ × Wait)) (q : ℕ) → wait_at es q ≡ find nat_cmp q es
alike [] q = refl
alike (e ∷ es) q =
    ap (λ b. cond b (Some e.1) (wait_at es q)) (unsigned_ties q e.0)
    ∙ ap (cond (eq_by_cmp nat_cmp q e.0) (Some e.1)) (alike es q)

module _ (es : List (ℕ × Wait)) where
  pub ordered : IsStrictlySortedBy nat_cmp (keys_of (in_order es))
  ordered = sorted_told (in_order es) (entries_sorted (from_entries es))

  pub found : (q : ℕ) → wait_at es q ≡ lookup (is_at (nat_cmp q)) (in_order es)
  found q = alike es q ∙ sym (get-from_entries nat_cmp_total es q) ∙ get-entries (from_entries es) q ∙ find_is_lookup q (in_order es)

-- No two of them have one number, so there are as many of them in order.
missed : (k : ℕ) (es : List (ℕ × Wait)) → AllByRecursion (λ y. nat_eq k y ≡ false) (keys_of es) → wait_at es k ≡ None
missed k [] apart = refl
missed k (e ∷ es) apart = ap (λ b. cond b (Some e.1) (wait_at es k)) apart.0 ∙ missed k es apart.1

pub as_many : (es : List (ℕ × Wait)) → IsDistinct nat_eq (keys_of es) → length (in_order es) ≡ length es
unfolding IsDistinct
as_many [] distinct = sym (len-entries _) ∙ len-empty nat_cmp Wait
as_many (e ∷ es) distinct =
    let none = get-from_entries nat_cmp_total es e.0 ∙ sym (alike es e.0) ∙ missed e.0 es distinct.0 in
    let more = len_new (from_entries es) e.0 e.1 none in
    let same = as_many es distinct.1 in
    let whole = len-entries (from_entries {R = nat_cmp} (e ∷ es)) in
    let rest = len-entries (from_entries {R = nat_cmp} es) in
    omega (arith, more, same, whole, rest)

no_length : (es : List (ℕ × Wait)) → length es ≡ 0 → es ≡ []
no_length [] none = refl
no_length (e ∷ es) none = absurd (omega (arith, none))

pub none_in_order : in_order [] ≡ []
none_in_order = no_length (in_order []) (sym (len-entries (from_entries {R = nat_cmp} [])) ∙ len-empty nat_cmp Wait)
