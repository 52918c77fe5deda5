-- A look-up among boxed tuples returns what is in the box.
use Rattle.std.proofs.Common.{◌≡◌, ℕ, suc, ◌==◌, ◌&&◌, Bool, true, false, cond, T, List, [], ◌∷◌, Option, Some, None}
use Rattle.std.proofs.Common.{IsSome, is_some, Box, length, refl, sym, ap, subst, ◌∙◌, nat_cmp, is_lt}
use Rattle.std.specs.declared.alloc.Global.{Global}
use Rattle.std.specs.Ordering.{eq_by_cmp, is_eq}
use Rattle.std.specs.Option.{option_map}
use Rattle.std.specs.Cmp.{nat_cmp_total, eq_by_cmp_equiv, unsigned_ties}
use Rattle.std.specs.FinMap.{FinMap, empty, get, insert, remove, len, entries, find, from_entries, from_sorted}
use Rattle.std.specs.FinMap.{is_sorted, get-from_entries, get-entries, get-from_sorted, entries_sorted}
use Rattle.std.specs.FinMap.{entries-from_sorted, len-entries}
use Rattle.std.specs.FinMap.Entries.{below_all}
use Rattle.linda_tuple.specs.Tuple.{Tuple}
use Rattle.linda_bag.specs.TuplesById.{unboxed}
use Rattle.linda_map_laws.proofs.MapLaws.{same_map, get_inserted, get_removed, get_empty}

-- what is in the box
abbrev pub behind : Option (Box Tuple Global) → Option Tuple
behind o = option_map (λ b. b.value) o

-- the map of what is in the boxes
abbrev pub all_behind : FinMap nat_cmp (Box Tuple Global) → FinMap nat_cmp Tuple
all_behind m = from_entries (unboxed (entries m))

module _ (k : ℕ) where
  found : (es : List (ℕ × Box Tuple Global)) → find nat_cmp k (unboxed es) ≡ behind (find nat_cmp k es)
  found [] = refl
  found (e ∷ es) =
      elim (eq_by_cmp nat_cmp k e.0) as (λ b. cond b (Some e.1.value) (find nat_cmp k (unboxed es)) ≡ behind (cond b (Some e.1) (find nat_cmp k es))) [
        | true ↦ refl
        | false ↦ found es
      ]

pub get_behind : (m : FinMap nat_cmp (Box Tuple Global)) (k : ℕ) → get (all_behind m) k ≡ behind (get m k)
get_behind m k = get-from_entries nat_cmp_total (unboxed (entries m)) k ∙ found k (entries m) ∙ ap behind (sym (get-entries m k))

-- The test of the keys, either way round.
pub told : (k q : ℕ) → is_eq (nat_cmp k q) ≡ (q == k)
told k q = (eq_by_cmp_equiv nat_cmp_total).symm k q ∙ sym (unsigned_ties q k)

updated : (old new : FinMap nat_cmp (Box Tuple Global)) (k q : ℕ) (w : Option (Box Tuple Global))
    → get new q ≡ cond (q == k) w (get old q) → get (all_behind new) q ≡ cond (q == k) (behind w) (get (all_behind old) q)
updated old new k q w is =
    get_behind new q
    ∙ ap behind is
    ∙ pushed (q == k)
    ∙ ap (cond (q == k) (behind w)) (sym (get_behind old q))
  where
    pushed : (b : Bool) → behind (cond b w (get old q)) ≡ cond b (behind w) (behind (get old q))
    pushed true = refl
    pushed false = refl

-- If one box is put, the map has what is in it.
pub put_behind : (m : FinMap nat_cmp (Box Tuple Global)) (k : ℕ) (b : Box Tuple Global) → all_behind (insert m k b) ≡ insert (all_behind m) k b.value
put_behind m k b = same_map _ _ (λ q. updated m (insert m k b) k q (Some b) (get_inserted m k b q) ∙ sym (get_inserted (all_behind m) k b.value q))

-- If one is taken out, the map has it removed.
pub gone_behind : (m : FinMap nat_cmp (Box Tuple Global)) (k : ℕ) → all_behind (remove m k) ≡ remove (all_behind m) k
gone_behind m k = same_map _ _ (λ q. updated m (remove m k) k q None (get_removed m k q) ∙ sym (get_removed (all_behind m) k q))

same_below : (k : ℕ) (es : List (ℕ × Box Tuple Global)) → below_all nat_cmp k (unboxed es) ≡ below_all nat_cmp k es
same_below k [] = refl
same_below k (e ∷ es) = ap (λ b. is_lt (nat_cmp k e.0) && b) (same_below k es)

same_order : (es : List (ℕ × Box Tuple Global)) → is_sorted nat_cmp (unboxed es) ≡ is_sorted nat_cmp es
same_order [] = refl
same_order (e ∷ es) = ap (λ b. b && is_sorted nat_cmp (unboxed es)) (same_below e.0 es) ∙ ap (λ b. below_all nat_cmp e.0 es && b) (same_order es)

same_length : (es : List (ℕ × Box Tuple Global)) → length (unboxed es) ≡ length es
same_length [] = refl
same_length (e ∷ es) = ap (λ n. suc n) (same_length es)

pub len_behind : (m : FinMap nat_cmp (Box Tuple Global)) → len (all_behind m) ≡ len m
len_behind m =
    let es = unboxed (entries m) in
    let sorted : T (is_sorted nat_cmp es) = subst T (sym (same_order (entries m))) (entries_sorted m) in
    let same : all_behind m ≡ from_sorted es = same_map _ _ (λ q. get-from_entries nat_cmp_total es q ∙ sym (get-from_sorted nat_cmp es q sorted)) in
    ap len same ∙ len-entries _ ∙ ap length (entries-from_sorted nat_cmp es sorted) ∙ same_length (entries m) ∙ sym (len-entries m)

-- What a map of tuples has is what is in the boxes.
module _ (m : FinMap nat_cmp (Box Tuple Global)) (t : FinMap nat_cmp Tuple) (same : all_behind m ≡ t) (k : ℕ) where
  pub seen_behind : behind (get m k) ≡ get t k
  seen_behind = sym (get_behind m k) ∙ ap (λ x. get x k) same

  pub none_behind : get m k ≡ None → get t k ≡ None
  none_behind none = sym seen_behind ∙ ap behind none

  pub got_behind : (v : Box Tuple Global) → get m k ≡ Some v → get t k ≡ Some v.value
  got_behind v there = sym seen_behind ∙ ap behind there

  pub some_behind : IsSome (get m k) → IsSome (get t k)
  some_behind some = ap is_some (sym seen_behind) ∙ is_there (get m k) ∙ some
    where
      is_there : (o : Option (Box Tuple Global)) → is_some (behind o) ≡ is_some o
      is_there None = refl
      is_there (Some b) = refl

pub none_at_all : all_behind (empty {R = nat_cmp}) ≡ empty
none_at_all = same_map _ _ (λ q. get_behind empty q ∙ ap behind (get_empty q) ∙ sym (get_empty q))
