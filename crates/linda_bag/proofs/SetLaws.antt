-- Sets of ids that are maps from them to nothing: what is in one after a change, and how many ids there are.
use Rattle.std.proofs.Common.{◌≡◌, ℕ, Bool, true, false, cond, ◌||◌, ◌&&◌, ◌==◌, T, List, [], ◌∷◌, Option, Some, None}
use Rattle.std.proofs.Common.{is_some, is_lt, ◌↔◌, refl, sym, ap, ◌∙◌, nat_cmp, true≢false}
use Rattle.std.specs.declared.cmp.Ordering.{Ordering}
use Rattle.std.specs.declared.cmp.Ordering.TheVariants as order
use Rattle.std.specs.Ordering.{is_eq}
use Rattle.std.specs.Cmp.{unsigned_ties}
use Rattle.std.specs.Map.{keys_of}
use Rattle.std.specs.List.{AllByRecursion}
use Rattle.std.specs.List.Sorted.{IsStrictlySortedBy}
use Rattle.std.specs.FinMap.{empty, get, insert, remove, len, entries, contains_key, contains_key-keys, is_sorted}
use Rattle.std.specs.FinMap.{entries_sorted, len-entries, len-empty, empty_of_len}
use Rattle.std.specs.FinMap.Entries.{below_all}
use Rattle.std.proofs.lemmas.Map.Entries.{length-keys_of}
use Rattle.linda_map_laws.proofs.MapLaws.{same_map, get_inserted, get_removed, get_empty}
use Rattle.linda_bag.specs.Filing.{Rows, IsBare}
use Rattle.linda_bag.specs.Ids.{Many, SetsId, HasPair, IsCount}
use Rattle.linda_bag.proofs.TuplesLaws.{told}
use Rattle.linda_bag.proofs.BareLaws.{no_such}

pub set_added : (ids new : Many) (id : ℕ) → new ≡ insert ids id tt → SetsId ids new id true
set_added ids new id is q =
    ap (λ m. contains_key m q) is
    ∙ ap is_some (get_inserted ids id tt q)
    ∙ pushed (q == id)
    ∙ ap (λ b. cond b true (contains_key ids q)) (sym (told id q))
  where
    pushed : (b : Bool) → is_some (cond b (Some tt) (get ids q)) ≡ cond b true (contains_key ids q)
    pushed true = refl
    pushed false = refl

pub set_taken : (ids new : Many) (id : ℕ) → new ≡ remove ids id → SetsId ids new id false
set_taken ids new id is q =
    ap (λ m. contains_key m q) is
    ∙ ap is_some (get_removed ids id q)
    ∙ pushed (q == id)
    ∙ ap (λ b. cond b false (contains_key ids q)) (sym (told id q))
  where
    pushed : (b : Bool) → is_some (cond b None (get ids q)) ≡ cond b false (contains_key ids q)
    pushed true = refl
    pushed false = refl

pub pair_has : (one other : ℕ) → HasPair one other (insert (insert empty one tt) other tt)
pair_has one other id =
    ap is_some (get_inserted (insert (empty {X = Unit {0}} {R = nat_cmp}) one tt) other tt id)
    ∙ ap (λ o. is_some (cond (id == other) (Some tt) o)) (get_inserted (empty {X = Unit {0}} {R = nat_cmp}) one tt id
    ∙ ap (cond (id == one) (Some tt)) (get_empty id))
    ∙ by (id == one) (id == other)
    ∙ ap (λ b. b || (id == other)) (unsigned_ties id one)
    ∙ ap (λ b. is_eq (nat_cmp id one) || b) (unsigned_ties id other)
  where
    by : (a b : Bool) → is_some (cond b (Some (tt {0})) (cond a (Some (tt {0})) None)) ≡ (a || b)
    by true true = refl
    by true false = refl
    by false true = refl
    by false false = refl

-- ---- how many

first : (a b : Bool) → T (a && b) → T a
first true b p = tt
first false b p = p

second : (a b : Bool) → T (a && b) → T b
second true b p = p
second false b p = absurd p

less : (o : Ordering) → T (is_lt o) → o ≡ order.Less
less order.Less p = refl
less order.Equal p = absurd p
less order.Greater p = absurd p

below_each : (k : ℕ) (es : List (ℕ × Unit {0})) → T (below_all nat_cmp k es) → AllByRecursion (λ y. nat_cmp k y ≡ order.Less) (keys_of es)
below_each k [] below = tt
below_each k (e ∷ es) below = (less (nat_cmp k e.0) (first _ _ below), below_each k es (second _ _ below))

ascending : (es : List (ℕ × Unit {0})) → T (is_sorted nat_cmp es) → IsStrictlySortedBy nat_cmp (keys_of es)
unfolding IsStrictlySortedBy
ascending [] sorted = tt
ascending (e ∷ es) sorted = (below_each e.0 es (first _ _ sorted), ascending es (second _ _ sorted))

pub set_counted : {X : Type 0} (ids : Many) (rows : Rows X) → ((q : ℕ) → contains_key ids q ≡ is_some (rows q)) → IsCount rows (len ids)
set_counted ids rows same = record {
  ids = keys_of (entries ids);
  ascending = ascending (entries ids) (entries_sorted ids);
  each = λ q. sym (contains_key-keys ids q) ∙ same q;
  long = length-keys_of (entries ids) ∙ sym (len-entries ids);
}

-- A set of no ids.
pub set_bare : {X : Type 0} (ids : Many) (rows : Rows X) → ((q : ℕ) → contains_key ids q ≡ is_some (rows q)) → (len ids ≡ 0) ↔ IsBare rows
set_bare ids rows same = (
  (λ none q. no_such (rows q) (sym (same q) ∙ ap is_some (ap (λ m. get m q) (empty_of_len ids none) ∙ get_empty q))),
  (λ bare. ap len (same_map ids empty (λ q. nothing (get ids q) (same q ∙ ap is_some (bare q)) ∙ sym (get_empty q))) ∙ len-empty nat_cmp _),
)
  where
    nothing : (o : Option (Unit {0})) → is_some o ≡ false → o ≡ None
    nothing None e = refl
    nothing (Some x) e = absurd (true≢false e)
