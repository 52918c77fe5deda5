-- What a right column has, and that it stays right when it is continued and when the bag changes.
use Rattle.std.proofs.Common.{◌≡◌, ℕ, zero, suc, ◌+◌, ◌≤◌, ◌<◌, ◌⊎◌, inl, inr, Bool, true, false, cond, ◌&&◌, List, []}
use Rattle.std.proofs.Common.{◌∷◌, length, Option, None, Some, is_some, IfSome, IfNone, unwrap_or, refl, sym, ap, subst}
use Rattle.std.proofs.Common.{◌∙◌, nat_cmp, true≢false, arith, slice_get, All}
use Rattle.std.specs.Ordering.{is_eq}
use Rattle.std.specs.FinMap as map
use Rattle.std.specs.BTreeMap as tree
use Rattle.std.specs.BTreeMap.{BTreeMap}
use Rattle.std.specs.List.{AllZip}
use Rattle.std.proofs.lemmas.Bool.{cases_eq, cases_lt}
use Rattle.std.proofs.lemmas.Slice.Zip.{AllZip-long}
use Rattle.std.proofs.lemmas.List.Elements.{All-weaker, All-head, All-tail}
use Rattle.linda_tuple.specs.declared.atom.Atom.{Atom}
use Rattle.linda_tuple.specs.declared.pattern.Pattern.{Pattern}
use Rattle.linda_tuple.specs.declared.pattern.Pattern.TheVariants as patterns
use Rattle.linda_tuple.specs.contracts.atom.AtomOrd.TheImpl as atom_ord
use Rattle.linda_tuple.specs.Tuple.{Tuple}
use Rattle.linda_tuple.specs.Template.{Template}
use Rattle.linda_tuple.specs.Sameness.{same_atom, same_atom-decides}
use Rattle.linda_tuple.specs.Matching.{Matches, is_match, are_fit}
use Rattle.linda_tuple.proofs.MatchingLaws.{Fits, fits_itself, matched}
use Rattle.linda_bag.specs.FreeMatch.{Bagged, IsFreeMatch}
use Rattle.linda_bag.specs.Filing.{Rows, with_row, IsFiled, IsIndexed, Refiles, row_at, placed, rows_at}
use Rattle.linda_bag.specs.declared.ids.Ids.{Ids}
use Rattle.linda_bag.specs.Ids.{has_any, IsOf}
use Rattle.linda_bag.specs.declared.column.Column.{Column}
use Rattle.linda_bag.specs.Columns.{AsksNoValue, IsColumn, AreColumns}
use Rattle.linda_bag.specs.declared.columns.Columns.{Columns}
use Rattle.linda_bag.specs.declared.search_hints.SearchHints.{SearchHints}
use Rattle.linda_bag.specs.SearchHints.{AreRight}
use Rattle.linda_bag.proofs.OrderLaws.{atom_itself}
use Rattle.linda_bag.proofs.FilingLaws.{id_told}
use Rattle.linda_bag.proofs.HintLaws.{exact_atoms, stay_begun}

some_same : {A : Type 0} {x y : A} → Some x ≡ Some y → x ≡ y
some_same {x = x} e = ap (λ o. unwrap_or o x) e

-- A value that is among the patterns is at the same position among the atoms that they fit.
value_there : (ps : List Pattern) (xs : List Atom) (at : ℕ) (v : Atom) → AllZip Fits ps xs
    → slice_get ps at ≡ Some (patterns.Value v) → slice_get xs at ≡ Some v
value_there [] xs at v fit is = absurd (true≢false (sym (ap is_some is)))
value_there (p ∷ ps) [] at v fit is = absurd fit
value_there (p ∷ ps) (x ∷ xs) zero v fit is =
    ap Some (sym (fits_itself v x (subst (λ q. Fits q x) (some_same is) fit.0)))
value_there (p ∷ ps) (x ∷ xs) (suc at) v fit is = value_there ps xs at v fit.1 is

-- Patterns that ask for nothing fit all that is as long.
fits_all : (ps : List Pattern) (xs : List Atom) → All (λ (p : Pattern). p ≡ patterns.Any) ps → length ps ≡ length xs → are_fit ps xs ≡ true
fits_all [] [] any long = refl
fits_all [] (x ∷ xs) any long = absurd (omega arith)
fits_all (p ∷ ps) [] any long = absurd (omega arith)
fits_all (p ∷ ps) (x ∷ xs) any long =
    subst (λ q. are_fit (q ∷ ps) (x ∷ xs) ≡ true) (sym (All-head (λ (q : Pattern). q ≡ patterns.Any) p ps any))
    (fits_all ps xs (All-tail (λ (q : Pattern). q ≡ patterns.Any) p ps any) (omega arith))

kind_fits : (kind template : Template) (row : Tuple) → AsksNoValue kind → kind.tag ≡ template.tag
    → length kind.fields ≡ length template.fields → Matches template row → Matches kind row
unfolding is_match
kind_fits kind template row any tag long match =
    let is = matched template row match in
    let same : same_atom kind.tag row.tag ≡ true = (same_atom-decides kind.tag row.tag).1 (tag ∙ is.tag) in
    let fit : are_fit kind.fields row.fields ≡ true =
    fits_all kind.fields row.fields any (long ∙ sym (AllZip-long Fits template.fields row.fields is.fields)) in
    ap (λ b. b && are_fit kind.fields row.fields) same ∙ fit

-- What is filed under a value has that value, and the other way round.
module _ (ids : BTreeMap Atom Ids) (values : Rows Atom) (filed : IsFiled atom_ord.ghosts.cmp IsOf (λ v. Some v) ids values) (k : ℕ) (v : Atom) where
  abbrev under : Option Atom → Option Atom
  under o = row_at atom_ord.ghosts.cmp v (placed (λ w. Some w) o)

  id_index_has : (o : Option Ids) (part : Rows Atom) → IsIndexed IsOf o part → has_any o k ≡ is_some (part k)
  id_index_has None part bare = ap is_some (sym (bare k))
  id_index_has (Some set) part known = known.0 k

  has_part : has_any (tree.get atom_ord.ghosts.cmp ids v) k ≡ is_some (under (values k))
  has_part = id_index_has (tree.get atom_ord.ghosts.cmp ids v) (rows_at atom_ord.ghosts.cmp (λ w. Some w) v values) (filed v)

  pub has_value : values k ≡ Some v → has_any (tree.get atom_ord.ghosts.cmp ids v) k ≡ true
  has_value is = has_part ∙ ap (λ o. is_some (under o)) is ∙ ap (λ b. is_some (cond b (Some v) None)) (atom_itself v)

  value_of : (o : Option Atom) → is_some (under o) ≡ true → o ≡ Some v
  value_of None there = absurd (true≢false (sym there))
  value_of (Some w) there =
      elim (is_eq (atom_ord.ghosts.cmp w v)) as (λ b. is_eq (atom_ord.ghosts.cmp w v) ≡ b → Some w ≡ Some v) [
        | true ↦ λ tie. ap Some (exact_atoms w v tie)
        | false ↦ λ off. absurd (true≢false (sym there ∙ ap (λ b. is_some (cond b (Some w) None)) off))
      ] refl

  pub value_had : has_any (tree.get atom_ord.ghosts.cmp ids v) k ≡ true → values k ≡ Some v
  value_had has = value_of (values k) (sym has_part ∙ has)

-- Each free match below `upto` is filed under the value.
pub is_filed : (bag : Bagged) (next : ℕ) (column : Column) (template : Template) (v : Atom) (passed : ℕ → Bool) → column.kind.tag ≡ template.tag
    → length column.kind.fields ≡ length template.fields → slice_get template.fields column.position ≡ Some (patterns.Value v) → IsColumn bag next column
    → (k : ℕ) → k < column.upto → IsFreeMatch bag template passed k → has_any (tree.get atom_ord.ghosts.cmp column.ids v) k ≡ true
is_filed bag next column template v passed tag long at is k below free =
    has_value column.ids is.values is.filed k v
    (is.each k free.row v free.stored
    (kind_fits column.kind template free.row is.kind tag long free.matches)
    (value_there template.fields free.row.fields column.position v (matched template free.row free.matches).fields at)
    below)

row_here : (values : Rows Atom) (id : ℕ) (value : Option Atom) (k : ℕ) → k ≡ id → with_row values id value k ≡ value
row_here values id value k is = ap (λ b. cond b value (values k)) ((id_told id k).1 (sym is))

row_apart : (values : Rows Atom) (id : ℕ) (value : Option Atom) (k : ℕ) → (k ≡ id → ⊥) → with_row values id value k ≡ values k
row_apart values id value k off =
    elim (is_eq (nat_cmp id k)) as (λ b. is_eq (nat_cmp id k) ≡ b → cond b value (values k) ≡ values k) [
      | true ↦ λ is. absurd (off (sym ((id_told id k).0 is)))
      | false ↦ λ is. refl
    ] refl

-- A column goes on past the next tuple of its kind, which is filed.
pub filed_next : (bag : Bagged) (next : ℕ) (old new : Column) (id : ℕ) (value : Option Atom) (passed : ℕ → Bool) → new.kind ≡ old.kind
    → new.position ≡ old.position → new.upto ≡ id + 1 → old.upto ≤ id → id < next → ((k : ℕ) → passed k ≡ false)
    → ((k : ℕ) → old.upto ≤ k → k < id → IsFreeMatch bag old.kind passed k → ⊥)
    → ((row : Tuple) → map.get bag id ≡ Some row → value ≡ slice_get row.fields old.position)
    → Refiles (IsFiled atom_ord.ghosts.cmp IsOf (λ v. Some v) old.ids) (IsFiled atom_ord.ghosts.cmp IsOf (λ v. Some v) new.ids) id None value
    → IsColumn bag next old → IsColumn bag next new
filed_next bag next old new id value passed kind position upto above below free none read refiled is = record {
  values = with_row is.values id value;
  kind = subst AsksNoValue (sym kind) is.kind;
  below = omega arith;
  filed = refiled is.values (is.above id above) is.filed;
  each = λ k row v stored fits at under.
      let field : slice_get row.fields old.position ≡ Some v = subst (λ n. slice_get row.fields n ≡ Some v) position at in
      let match : Matches old.kind row = subst (λ t. Matches t row) kind fits in
      elim (cases_eq k id) [
        | inl same ↦ row_here is.values id value k same ∙ read row (subst (λ n. map.get bag n ≡ Some row) same stored) ∙ field
        | inr apart ↦ row_apart is.values id value k apart ∙ elim (cases_lt k old.upto) [
          | inl low ↦ is.each k row v stored match field low
          | inr high ↦ absurd (none k high (omega arith) (record { row = row; stored = stored; matches = match; free = free k }))
        ]
      ];
  above = λ k over. row_apart is.values id value k (λ same. omega arith) ∙ is.above k (omega arith);
}

-- It has gone on past all of them.
pub filed_all : (bag : Bagged) (next : ℕ) (old new : Column) (passed : ℕ → Bool) → new.kind ≡ old.kind → new.position ≡ old.position → new.ids ≡ old.ids
    → new.upto ≡ next → ((k : ℕ) → passed k ≡ false) → ((k : ℕ) → old.upto ≤ k → IsFreeMatch bag old.kind passed k → ⊥)
    → IsColumn bag next old → IsColumn bag next new
filed_all bag next old new passed kind position ids upto free none is =
    let low = is.below in record {
      values = is.values;
      kind = subst AsksNoValue (sym kind) is.kind;
      below = omega arith;
      filed = subst (λ m. IsFiled atom_ord.ghosts.cmp IsOf (λ v. Some v) m is.values) (sym ids) is.filed;
      each = λ k row v stored fits at under.
          let field : slice_get row.fields old.position ≡ Some v = subst (λ n. slice_get row.fields n ≡ Some v) position at in
          let match : Matches old.kind row = subst (λ t. Matches t row) kind fits in
          elim (cases_lt k old.upto) [
            | inl less ↦ is.each k row v stored match field less
            | inr high ↦ absurd (none k high (record { row = row; stored = stored; matches = match; free = free k }))
          ];
      above = λ k over. is.above k (omega arith);
    }

-- An id that the bag does not have is taken out.
pub without_gone : (bag : Bagged) (next : ℕ) (old new : Column) (id : ℕ) (v : Atom) → new.kind ≡ old.kind → new.position ≡ old.position
    → new.upto ≡ old.upto → has_any (tree.get atom_ord.ghosts.cmp old.ids v) id ≡ true → map.get bag id ≡ None
    → Refiles (IsFiled atom_ord.ghosts.cmp IsOf (λ v. Some v) old.ids) (IsFiled atom_ord.ghosts.cmp IsOf (λ v. Some v) new.ids) id (Some v) None
    → IsColumn bag next old → IsColumn bag next new
without_gone bag next old new id v kind position upto has gone refiled is = record {
  values = with_row is.values id None;
  kind = subst AsksNoValue (sym kind) is.kind;
  below = subst (λ n. n ≤ next) (sym upto) is.below;
  filed = refiled is.values (value_had old.ids is.values is.filed id v has) is.filed;
  each = λ k row w stored fits at under.
      row_apart is.values id None k (λ same. true≢false (ap is_some (sym stored ∙ ap (map.get bag) same ∙ gone)))
      ∙ is.each k row w stored (subst (λ t. Matches t row) kind fits) (subst (λ n. slice_get row.fields n ≡ Some w) position at)
      (subst (λ n. k < n) upto under);
  above = λ k over.
      elim (cases_eq k id) [
        | inl same ↦ row_here is.values id None k same
        | inr apart ↦ row_apart is.values id None k apart ∙ is.above k (subst (λ n. n ≤ k) upto over)
      ];
}

-- Right columns stay right if tuples are removed, and if tuples are added from the next id on.
pub stay_column : (bag new : Bagged) (next later : ℕ) (column : Column) → next ≤ later
    → ((k : ℕ) (row : Tuple) → map.get new k ≡ Some row → (next ≤ k) ⊎ (map.get bag k ≡ Some row)) → IsColumn bag next column → IsColumn new later column
stay_column bag new next later column grows kept is =
    let low = is.below in record {
      values = is.values;
      kind = is.kind;
      below = omega arith;
      filed = is.filed;
      each = λ k row v stored fits at under.
          elim (kept k row stored) [
            | inl above ↦ absurd (omega arith)
            | inr same ↦ is.each k row v same fits at under
          ];
      above = is.above;
    }

-- A new column is right beside everything.
pub empty_column : (column : Column) → AsksNoValue column.kind → column.upto ≡ 0
    → ((v : Atom) → tree.get atom_ord.ghosts.cmp column.ids v ≡ None) → (bag : Bagged) (next : ℕ) → IsColumn bag next column
empty_column column kind first none bag next = record {
  values = λ k. None;
  kind = kind;
  below = omega arith;
  filed = λ v. subst (λ o. IsIndexed IsOf o (rows_at atom_ord.ghosts.cmp (λ w. Some w) v (λ k. None))) (sym (none v)) (λ k. refl);
  each = λ k row v stored fits at under. absurd (omega arith);
  above = λ k over. refl;
}

pub stay_columns : (bag new : Bagged) (next later : ℕ) (columns : Columns) → next ≤ later
    → ((k : ℕ) (row : Tuple) → map.get new k ≡ Some row → (next ≤ k) ⊎ (map.get bag k ≡ Some row)) → AreColumns bag next columns → AreColumns new later columns
stay_columns bag new next later columns grows kept are =
    All-weaker (IsColumn bag next) (IsColumn new later) (λ c is. stay_column bag new next later c grows kept is) _ are

-- Right hints and columns stay right if tuples are added only from the next id on and no tuple below it becomes free.
pub stay_right : (bag new : Bagged) (passed after : ℕ → Bool) (next later : ℕ) (hints : SearchHints) → next ≤ later
    → ((k : ℕ) (row : Tuple) → map.get new k ≡ Some row → (next ≤ k) ⊎ (map.get bag k ≡ Some row))
    → ((k : ℕ) (row : Tuple) → map.get new k ≡ Some row → after k ≡ false → (next ≤ k) ⊎ ((map.get bag k ≡ Some row) × (passed k ≡ false)))
    → AreRight bag passed next hints → AreRight new after later hints
stay_right bag new passed after next later hints grows kept known rights = (
  stay_begun bag new passed after next later hints.tags grows known rights.0,
  stay_columns bag new next later hints.columns grows kept rights.1,
)

-- What a search among the filed ids, and from `upto` on, says of all.
module _ (Free Has : ℕ → Type 0) (upto from : ℕ) (filed : Option ℕ) (has : (k : ℕ) → k < upto → Free k
    → Has k) (least : IfSome filed (λ id. (k : ℕ) → from ≤ k → k < id → Has k → Free k → ⊥)) where
  pub found_below : IfSome filed (λ i. i < upto) → IfSome filed (λ id. (k : ℕ) → from ≤ k → k < id → Free k → ⊥)
  found_below low = by filed least low
    where
      by : (o : Option ℕ) → IfSome o (λ id. (k : ℕ) → from ≤ k → k < id → Has k → Free k → ⊥)
          → IfSome o (λ i. i < upto) → IfSome o (λ id. (k : ℕ) → from ≤ k → k < id → Free k → ⊥)
      by None least low = tt
      by (Some i) least low = λ k on below free. least k on below (has k (omega arith) free) free

  pub none_below : IfSome filed (λ i. upto ≤ i) → IfNone filed ((k : ℕ) → from ≤ k → Has k → Free k → ⊥) → (k : ℕ) → from ≤ k → k < upto → Free k → ⊥
  none_below high none = by filed least high none
    where
      by : (o : Option ℕ) → IfSome o (λ id. (k : ℕ) → from ≤ k → k < id → Has k → Free k → ⊥) → IfSome o (λ i. upto ≤ i)
          → IfNone o ((k : ℕ) → from ≤ k → Has k → Free k → ⊥) → (k : ℕ) → from ≤ k → k < upto → Free k → ⊥
      by None least high none k on low free = none k on (has k low free) free
      by (Some i) least high none k on low free = least k on (omega arith) (has k low free) free

pub if_none : {X P : Type 0} (o : Option X) → IfNone o P → o ≡ None → P
if_none None then is = then
if_none (Some x) then is = absurd (true≢false (ap is_some is))

pub if_some : {X : Type 0} (P : X → Type 0) (o : Option X) (x : X) → IfSome o P → o ≡ Some x → P x
if_some P o x then is = subst (λ o. IfSome o P) is then
