-- What has no keys has no rows, and the other way round.
use Rattle.std.proofs.Common.{◌≡◌, arith, true, false, cond, List, [], ◌∷◌, Option, Some, None, is_some, length, ◌↔◌, refl, sym, ap, subst, ◌∙◌, true≢false}
use Rattle.std.specs.declared.cmp.Ordering.{Ordering}
use Rattle.std.specs.Ordering.{is_eq}
use Rattle.std.specs.Map.{lookup}
use Rattle.std.specs.BTreeMap as tree
use Rattle.std.specs.BTreeMap.{BTreeMap, is_at}
use Rattle.linda_bag.specs.Filing.{Rows, IsBare, IsIndexed, row_at, placed, IsFiled}

pub no_such : {T : Type 0} (o : Option T) → is_some o ≡ false → o ≡ None
no_such None e = refl
no_such (Some row) e = absurd (true≢false e)

-- Of indexes under keys, if each row has a key.
module _ {K S T : Type 0} (cmp : K → K → Ordering) (itself : (k : K) → is_eq (cmp k k) ≡ true) (Has : S → Rows T → Type 0) where
  none_under : (m : BTreeMap K S) → length m.entries ≡ 0 → (q : K) → tree.get cmp m q ≡ None
  none_under m none q = lookup_none m.entries none
    where
      lookup_none : (es : List (K × S)) → length es ≡ 0 → lookup (is_at (cmp q)) es ≡ None
      lookup_none [] none = refl
      lookup_none (e ∷ es) none = absurd (omega arith)

  no_entries : (es : List (K × S)) → ((q : K) → lookup (is_at (cmp q)) es ≡ None) → length es ≡ 0
  no_entries [] none = refl
  no_entries (e ∷ es) none =
      let found : lookup (is_at (cmp e.0)) (e ∷ es) ≡ Some e.1 = ap (λ b. cond b (Some e.1) (lookup (is_at (cmp e.0)) es)) (itself e.0) in
      absurd (true≢false (ap is_some (sym found ∙ none e.0)))

  id_index_none : (o : Option S) (rows : Rows T) → IsBare rows → IsIndexed Has o rows → o ≡ None
  id_index_none None rows bare known = refl
  id_index_none (Some id_index) rows bare known = absurd (known.1 bare)

  none_id_index : (o : Option S) (rows : Rows T) → o ≡ None → IsIndexed Has o rows → IsBare rows
  none_id_index o rows none known = subst (λ s. IsIndexed Has s rows) none known

  module _ (key_of : T → K) where
    pub own_key : (o : Option T) → ((q : K) → row_at cmp q (placed (λ row. Some (key_of row)) o) ≡ None) → o ≡ None
    own_key None none = refl
    own_key (Some row) none = absurd (true≢false (ap is_some (sym (ap (λ b. cond b (Some row) None) (itself (key_of row))) ∙ none (key_of row))))

    at_none : (o : Option T) (q : K) → o ≡ None → row_at cmp q (placed (λ row. Some (key_of row)) o) ≡ None
    at_none o q none = ap (λ p. row_at cmp q (placed (λ row. Some (key_of row)) p)) none

    pub map_bare : (m : BTreeMap K S) (rows : Rows T) → IsFiled cmp Has (λ row. Some (key_of row)) m rows → (length m.entries ≡ 0) ↔ IsBare rows
    map_bare m rows filed = (
      (λ none id. own_key (rows id) (λ q. none_id_index (tree.get cmp m q) _ (none_under m none q) (filed q) id)),
      (λ bare. no_entries m.entries (λ q. id_index_none (tree.get cmp m q) _ (λ id. at_none (rows id) q (bare id)) (filed q))),
    )
