-- Rows by the values that they begin with, and those that begin with none.
use Rattle.std.proofs.Common.{◌≡◌, ℕ, ℤ, arith, Bool, true, false, cond, ◌↔◌, List, [], ◌∷◌, Option, None, Some}
use Rattle.std.proofs.Common.{is_some, length, refl, sym, ap, subst, ◌∙◌, nat_cmp, true≢false, BTreeMap}
use Rattle.std.specs.declared.cmp.Ordering.{Ordering}
use Rattle.std.specs.Ordering.{is_eq, int_cmp}
use Rattle.std.specs.Cmp.{int_cmp_total}
use Rattle.std.specs.Map.{lookup}
use Rattle.std.specs.BTreeMap as tree
use Rattle.std.specs.BTreeMap.{is_at}
use Rattle.linda_tuple.specs.declared.atom.Atom.{Atom}
use Rattle.linda_tuple.specs.declared.atom.Atom.TheVariants as atoms
use Rattle.linda_tuple.specs.contracts.atom.AtomOrd.TheImpl as atom_ord
use Rattle.linda_bag.specs.Filing.{Rows, with_row, IsBare, IsIndexed, IsFound, IsFiled, row_at, placed, keyed}
use Rattle.linda_bag.specs.Ids.{IsOf}
use Rattle.linda_bag.specs.Ints.{ids_at}
use Rattle.linda_bag.specs.declared.first_field_index.FirstFieldIndex.{FirstFieldIndex}
use Rattle.linda_bag.specs.FirstFieldIndex.{HasFirstFields, int_in, int_of, other_in, other_of, if_keyed, keyed_in, keyed_of}
use Rattle.linda_bag.proofs.FilingLaws.{key_itself}
use Rattle.linda_bag.proofs.OrderLaws.{atom_itself}

-- What begins with an integer begins with nothing else.
no_other_in : {R : Type 0} (first : Option Atom) (asked : R) (int : ℤ × R) → Some int ≡ keyed (int_in first) asked → None ≡ keyed (other_in first) asked
no_other_in None asked int is = refl
no_other_in (Some (atoms.Int n)) asked int is = refl
no_other_in (Some (atoms.Text t)) asked int is = absurd (true≢false (ap is_some is))
no_other_in (Some (atoms.Bool b)) asked int is = absurd (true≢false (ap is_some is))

pub no_other : {R : Type 0} (first_of : R → Option Atom) (asked : R) (int : ℤ × R)
    → Some int ≡ placed (int_of first_of) (Some asked) → None ≡ placed (other_of first_of) (Some asked)
no_other first_of asked = no_other_in (first_of asked) asked

-- If nothing is found, no row has a key, and the other way round.
module _ {K S T : Type 0} (cmp : K → K → Ordering) (itself : (k : K) → is_eq (cmp k k) ≡ true) (Has : S → Rows T
    → Type 0) (key_of : T → Option K) (id_index_at : K → Option S) (rows : Rows T) (filed : IsFound cmp Has key_of id_index_at rows) where
  none_placed : ((q : K) → id_index_at q ≡ None) → (id : ℕ) → placed key_of (rows id) ≡ None
  none_placed none id = by (placed key_of (rows id)) refl
    where
      by : (o : Option (K × T)) → placed key_of (rows id) ≡ o → o ≡ None
      by None is = refl
      by (Some place) is =
          let gone : row_at cmp place.0 (placed key_of (rows id)) ≡ None =
          subst (λ o. IsIndexed Has o (λ x. row_at cmp place.0 (placed key_of (rows x)))) (none place.0) (filed place.0) id in
          let here : row_at cmp place.0 (placed key_of (rows id)) ≡ Some place.1 = ap (row_at cmp place.0) is
          ∙ ap (λ b. cond b (Some place.1) None) (itself place.0) in
          absurd (true≢false (ap is_some (sym here ∙ gone)))

  id_index_none : (o : Option S) (part : Rows T) → IsBare part → IsIndexed Has o part → o ≡ None
  id_index_none None part bare known = refl
  id_index_none (Some id_index) part bare known = absurd (known.1 bare)

  none_found : ((id : ℕ) → placed key_of (rows id) ≡ None) → (q : K) → id_index_at q ≡ None
  none_found bare q = id_index_none (id_index_at q) _ (λ id. ap (row_at cmp q) (bare id)) (filed q)

-- So it is with a map without keys.
module _ {K S T : Type 0} (cmp : K → K → Ordering) (itself : (k : K) → is_eq (cmp k k) ≡ true) (Has : S → Rows T
    → Type 0) (key_of : T → Option K) (m : BTreeMap K S) (rows : Rows T) (filed : IsFiled cmp Has key_of m rows) where
  none_under : (es : List (K × S)) → length es ≡ 0 → (q : K) → lookup (is_at (cmp q)) es ≡ None
  none_under [] none q = refl
  none_under (e ∷ es) none q = absurd (omega arith)

  no_entries : (es : List (K × S)) → ((q : K) → lookup (is_at (cmp q)) es ≡ None) → length es ≡ 0
  no_entries [] none = refl
  no_entries (e ∷ es) none =
      let found : lookup (is_at (cmp e.0)) (e ∷ es) ≡ Some e.1 = ap (λ b. cond b (Some e.1) (lookup (is_at (cmp e.0)) es)) (itself e.0) in
      absurd (true≢false (ap is_some (sym found ∙ none e.0)))

  pub unplaced : length m.entries ≡ 0 → (id : ℕ) → placed key_of (rows id) ≡ None
  unplaced none = none_placed cmp itself Has key_of (tree.get cmp m) rows filed (none_under m.entries none)

  pub no_keys : ((id : ℕ) → placed key_of (rows id) ≡ None) → length m.entries ≡ 0
  no_keys bare = no_entries m.entries (none_found cmp itself Has key_of (tree.get cmp m) rows filed bare)

unplaced_either : {R : Type 0} (first_of : R → Option Atom) (o : Option R) → placed (int_of first_of) o ≡ None
    → placed (other_of first_of) o ≡ None → keyed_in first_of o ≡ None
unplaced_either first_of None int other = refl
unplaced_either first_of (Some asked) int other = by (first_of asked) int other
  where
    by : (first : Option Atom) → keyed (int_in first) asked ≡ None → keyed (other_in first) asked ≡ None → if_keyed first asked ≡ None
    by None int other = refl
    by (Some (atoms.Int n)) int other = absurd (true≢false (ap is_some int))
    by (Some (atoms.Text t)) int other = absurd (true≢false (ap is_some other))
    by (Some (atoms.Bool b)) int other = absurd (true≢false (ap is_some other))

neither : {R : Type 0} (first_of : R → Option Atom) (o : Option R) → keyed_in first_of o ≡ None
    → (placed (int_of first_of) o ≡ None) × (placed (other_of first_of) o ≡ None)
neither first_of None none = (refl, refl)
neither first_of (Some asked) none = by (first_of asked) none
  where
    by : (first : Option Atom) → if_keyed first asked ≡ None → (keyed (int_in first) asked ≡ None) × (keyed (other_in first) asked ≡ None)
    by None none = (refl, refl)
    by (Some v) none = absurd (true≢false (ap is_some none))

-- There are no keys exactly if no row begins with a value.
pub first_fields_bare : {R : Type 0} (first_of : R → Option Atom) (first_fields : FirstFieldIndex) (asked : Rows R)
    → HasFirstFields first_of first_fields asked
    → (((q : ℤ) → ids_at first_fields.ints q ≡ None) × (length first_fields.others.entries ≡ 0)) ↔ IsBare (keyed_of first_of asked)
first_fields_bare first_of first_fields asked has = (
  (λ none id. unplaced_either first_of (asked id) (none_placed int_cmp (key_itself int_cmp_total) IsOf (int_of first_of)
      (ids_at first_fields.ints) asked has.0 none.0 id)
      (unplaced atom_ord.ghosts.cmp atom_itself IsOf (other_of first_of) first_fields.others asked has.1 none.1 id)),
  (λ bare. (
    none_found int_cmp (key_itself int_cmp_total) IsOf (int_of first_of) (ids_at first_fields.ints) asked has.0
        (λ id. (neither first_of (asked id) (bare id)).0),
    no_keys atom_ord.ghosts.cmp atom_itself IsOf (other_of first_of) first_fields.others asked has.1 (λ id. (neither first_of (asked id) (bare id)).1),
  )),
)

-- A row that begins with no value is filed under none.
pub unfiled : {R : Type 0} (first_of : R → Option Atom) (first_fields : FirstFieldIndex) (asked : Rows R) (id : ℕ) (new : R) → first_of new ≡ None
    → HasFirstFields first_of first_fields (with_row asked id None) → HasFirstFields first_of first_fields (with_row asked id (Some new))
unfiled {R} first_of first_fields asked id new none has = (
  (λ q. subst (IsIndexed IsOf (ids_at first_fields.ints q)) (λ j. λ x. same int_cmp (int_of first_of) (ap (λ f. keyed (int_in f) new) none) q x j) (has.0 q)),
  (λ q. subst (IsIndexed IsOf (tree.get atom_ord.ghosts.cmp first_fields.others q))
      (λ j. λ x. same atom_ord.ghosts.cmp (other_of first_of) (ap (λ f. keyed (other_in f) new) none) q x j) (has.1 q)),
)
  where
    same : {K : Type 0} (cmp : K → K → Ordering) (key_of : R → Option K) → placed key_of (Some new) ≡ None → (q : K) (x : ℕ)
        → row_at cmp q (placed key_of (with_row asked id None x)) ≡ row_at cmp q (placed key_of (with_row asked id (Some new) x))
    same cmp key_of off q x =
        elim (is_eq (nat_cmp id x)) as (λ t. row_at cmp q (placed key_of (cond t None (asked x)))
        ≡ row_at cmp q (placed key_of (cond t (Some new) (asked x)))) [
          | true ↦ ap (row_at cmp q) (sym off)
          | false ↦ refl
        ]

-- A truth value in the first place is no integer.
pub bool_first : {R : Type 0} (first_of : R → Option Atom) (b : Bool) (o : Option R)
    → row_at atom_ord.ghosts.cmp (atoms.Bool b) (placed (other_of first_of) o) ≡ row_at atom_ord.ghosts.cmp (atoms.Bool b) (placed first_of o)
bool_first first_of b None = refl
bool_first first_of b (Some asked) = by (first_of asked)
  where
    by : (first : Option Atom) → row_at atom_ord.ghosts.cmp (atoms.Bool b) (keyed (other_in first) asked)
        ≡ row_at atom_ord.ghosts.cmp (atoms.Bool b) (keyed first asked)
    by None = refl
    by (Some (atoms.Int n)) = refl
    by (Some (atoms.Text t)) = refl
    by (Some (atoms.Bool c)) = refl

-- Nor is a text.
pub text_first : {R : Type 0} (first_of : R → Option Atom) (t : List ℕ) (o : Option R)
    → row_at atom_ord.ghosts.cmp (atoms.Text t) (placed (other_of first_of) o) ≡ row_at atom_ord.ghosts.cmp (atoms.Text t) (placed first_of o)
text_first first_of t None = refl
text_first first_of t (Some asked) = by (first_of asked)
  where
    by : (first : Option Atom) → row_at atom_ord.ghosts.cmp (atoms.Text t) (keyed (other_in first) asked)
        ≡ row_at atom_ord.ghosts.cmp (atoms.Text t) (keyed first asked)
    by None = refl
    by (Some (atoms.Int n)) = refl
    by (Some (atoms.Text u)) = refl
    by (Some (atoms.Bool b)) = refl

-- An integer in the first place is found as itself.
pub int_first : {R : Type 0} (first_of : R → Option Atom) (n : ℤ) (o : Option R)
    → row_at int_cmp n (placed (int_of first_of) o) ≡ row_at atom_ord.ghosts.cmp (atoms.Int n) (placed first_of o)
int_first first_of n None = refl
int_first first_of n (Some asked) = by (first_of asked)
  where
    by : (first : Option Atom) → row_at int_cmp n (keyed (int_in first) asked) ≡ row_at atom_ord.ghosts.cmp (atoms.Int n) (keyed first asked)
    by None = refl
    by (Some (atoms.Int m)) = refl
    by (Some (atoms.Text t)) = refl
    by (Some (atoms.Bool b)) = refl
