-- Templates of a tag, one for each number of fields, match the tuples of the tag.
use Rattle.std.proofs.Common.{◌≡◌, ◌≤◌, ◌<◌, ◌++◌, ◌&&◌, ◌||◌, ℕ, Bool, true, false, cond, List, [], ◌∷◌, Option, Some}
use Rattle.std.proofs.Common.{None, length, replicate, inl, inr, refl, sym, ap, subst, ◌∙◌, nat_cmp, true≢false, arith}
use Rattle.std.proofs.lemmas.Bool.{cases_lt}
use Rattle.std.proofs.lemmas.List.Folds.{list_any-append}
use Rattle.std.specs.Option.{is_some}
use Rattle.std.specs.Ordering.{is_eq}
use Rattle.std.specs.Prelude.{◌⊎◌}
use Rattle.std.specs.declared.cmp.Ordering.TheVariants.{Less}
use Rattle.std.specs.FinMap.{FinMap, get}
use Rattle.linda_tuple.specs.declared.atom.Atom.{Atom}
use Rattle.linda_tuple.specs.declared.pattern.Pattern.TheVariants as patterns
use Rattle.linda_tuple.specs.contracts.atom.AtomOrd.TheImpl as atom_ord
use Rattle.linda_tuple.specs.Tuple.{Tuple}
use Rattle.linda_tuple.specs.Template.{Template}
use Rattle.linda_tuple.specs.Sameness.{same_atom, same_atom-decides}
use Rattle.linda_tuple.specs.Matching.{are_fit, is_match}
use Rattle.linda_bag.specs.Candidates.{tag_of, count_of}
use Rattle.linda_bag.specs.Filing.{row_at, placed}
use Rattle.linda_bag.specs.FreeMatch.{IsFreeMatch}
use Rattle.linda_bag.specs.TagIndex.{IsBefore, with_head}
use Rattle.linda_bag.proofs.OrderLaws.{atom_itself, number_itself, atoms_turn}
use Rattle.linda_shared_listing.specs.Kinds.{HasNone}
use Rattle.linda_shared_listing.specs.Listing.{is_asked_in, is_wanted}
use Rattle.linda_shared_listing.specs.Shapes.{is_matched_in, is_matched, shape_of}

-- ---- what one template matches

all_fit : (fields : List Atom) → are_fit (replicate (length fields) patterns.Any) fields ≡ true
all_fit [] = refl
all_fit (field ∷ fields) = all_fit fields

both_true : (a b : Bool) → a ≡ true → b ≡ true → (a && b) ≡ true
both_true a b one other = ap (λ c. c && b) one ∙ other

first_true : (a b : Bool) → (a && b) ≡ true → a ≡ true
first_true true b both = refl
first_true false b both = both

either_true : (a b : Bool) → (a || b) ≡ true → (a ≡ true) ⊎ (b ≡ true)
either_true true b either = inl refl
either_true false b either = inr either

or_left : (a b : Bool) → a ≡ true → (a || b) ≡ true
or_left a b one = ap (λ c. c || b) one

or_right : (a b : Bool) → b ≡ true → (a || b) ≡ true
or_right true b other = refl
or_right false b other = other

shape_matches : (tag : Atom) (tuple : Tuple) → same_atom tag tuple.tag ≡ true → is_match (shape_of tag (length tuple.fields)) tuple ≡ true
unfolding is_match
shape_matches tag tuple same =
    both_true (same_atom tag tuple.tag) (are_fit (replicate (length tuple.fields) patterns.Any) tuple.fields) same (all_fit tuple.fields)

shape_only : (tag : Atom) (n : ℕ) (tuple : Tuple) → is_match (shape_of tag n) tuple ≡ true → same_atom tag tuple.tag ≡ true
unfolding is_match
shape_only tag n tuple matches = first_true (same_atom tag tuple.tag) (are_fit (replicate n patterns.Any) tuple.fields) matches

-- ---- what one more template matches

pub none_matched : (o : Option Tuple) → is_matched_in [] o ≡ false
none_matched None = refl
none_matched (Some tuple) = refl

pub more_matched : (shapes : List Template) (shape : Template) (o : Option Tuple)
    → (is_matched_in shapes o || is_matched_in (shape ∷ []) o) ≡ is_matched_in (shapes ++ shape ∷ []) o
more_matched shapes shape None = refl
more_matched shapes shape (Some tuple) = sym (list_any-append (λ (s : Template). is_match s tuple) shapes (shape ∷ []))

or_false : (b : Bool) → (b || false) ≡ b
or_false true = refl
or_false false = refl

-- ---- what a search for a template finds

module _ (bag : FinMap nat_cmp Tuple) (shape : Template) where
  abbrev pub free : ℕ → Type 0
  free id = IsFreeMatch bag shape (λ q. false) id

  pub free_matched : (id : ℕ) → free id → is_matched bag (shape ∷ []) id ≡ true
  free_matched id found = ap (is_matched_in (shape ∷ [])) found.stored ∙ or_false (is_match shape found.row) ∙ found.matches

  pub not_matched : (id : ℕ) → (free id → ⊥) → is_matched bag (shape ∷ []) id ≡ false
  not_matched id none = by (get bag id) refl
    where
      by_match : (tuple : Tuple) → get bag id ≡ Some tuple → (b : Bool) → is_match shape tuple ≡ b → (b || false) ≡ false
      by_match tuple there true is = absurd (none (record { row = tuple; stored = there; matches = is; free = refl }))
      by_match tuple there false is = refl

      by : (o : Option Tuple) → get bag id ≡ o → is_matched_in (shape ∷ []) o ≡ false
      by None there = refl
      by (Some tuple) there = by_match tuple there (is_match shape tuple) refl

-- ---- the templates of a tag

some_not_none : {X : Type 0} (x : X) → Some x ≡ None → ⊥
some_not_none x e = cc

module _ (bag : FinMap nat_cmp Tuple) (tag : Atom) where
  -- If the bag has no tuple of the tag with so many fields, no id has such a tuple.
  no_head : (n id : ℕ) (tuple : Tuple) → HasNone bag tag n → get bag id ≡ Some tuple → same_atom tag tuple.tag ≡ true → length tuple.fields ≡ n → ⊥
  no_head n id tuple none there same long =
      let own : tag ≡ tuple.tag = (same_atom-decides tag tuple.tag).0 same in
      let tied : is_eq (atom_ord.ghosts.cmp tuple.tag tag) ≡ true =
      subst (λ t. is_eq (atom_ord.ghosts.cmp tuple.tag t) ≡ true) (sym own) (atom_itself tuple.tag) in
      let counted : is_eq (nat_cmp (length tuple.fields) n) ≡ true =
      subst (λ m. is_eq (nat_cmp (length tuple.fields) m) ≡ true) long (number_itself (length tuple.fields)) in
      let found : with_head tag_of count_of tag n (get bag) id ≡ Some tuple =
      ap (λ o. row_at nat_cmp n
      (placed (λ (row : Tuple). Some (count_of row)) (row_at atom_ord.ghosts.cmp tag (placed (λ (row : Tuple). Some (tag_of row)) o)))) there
      ∙ ap (λ b. row_at nat_cmp n (placed (λ (row : Tuple). Some (count_of row)) (cond b (Some tuple) None))) tied
      ∙ ap (λ b. cond b (Some tuple) None) counted in
      some_not_none tuple (sym found ∙ none id)

  -- The templates match tuples of the tag only, and those of them that have no more than `last` fields.
  pub record AreShapes (last : ℕ) (shapes : List Template) : Type 0 where
    pub only : (id : ℕ) → is_matched bag shapes id ≡ true → is_wanted bag (Some tag) id ≡ true
    pub all : (id : ℕ) (tuple : Tuple) → get bag id ≡ Some tuple → same_atom tag tuple.tag ≡ true → length tuple.fields ≤ last → is_matched bag shapes id ≡ true

  one_only : (n : ℕ) (o : Option Tuple) → is_matched_in (shape_of tag n ∷ []) o ≡ true → is_asked_in (Some tag) o ≡ true
  one_only n None is = is
  one_only n (Some tuple) is = shape_only tag n tuple (sym (or_false (is_match (shape_of tag n) tuple)) ∙ is)

  one_all : (n id : ℕ) (tuple : Tuple) → get bag id ≡ Some tuple → same_atom tag tuple.tag ≡ true
      → length tuple.fields ≡ n → is_matched bag (shape_of tag n ∷ []) id ≡ true
  one_all n id tuple there same long =
      ap (is_matched_in (shape_of tag n ∷ [])) there
      ∙ or_left (is_match (shape_of tag n) tuple) false (subst (λ m. is_match (shape_of tag m) tuple ≡ true) long (shape_matches tag tuple same))

  pub first_shape : (shapes : List Template) → shapes ≡ shape_of tag 0 ∷ [] → AreShapes 0 shapes
  first_shape shapes is =
      subst (AreShapes 0) (sym is) (record {
        only = λ id matched. one_only 0 (get bag id) matched;
        all = λ id tuple there same few. one_all 0 id tuple there same (omega (arith, few));
      })

  pub next_shape : (last n : ℕ) (shapes new : List Template) → AreShapes last shapes
      → new ≡ shapes ++ shape_of tag n ∷ [] → last < n → ((m : ℕ) → last < m → m < n → HasNone bag tag m) → AreShapes n new
  next_shape last n shapes new far is above none = subst (AreShapes n) (sym is) (record { only = only; all = all })
    where
      joined : (id : ℕ) → (is_matched bag shapes id || is_matched bag (shape_of tag n ∷ []) id) ≡ is_matched bag (shapes ++ shape_of tag n ∷ []) id
      joined id = more_matched shapes (shape_of tag n) (get bag id)

      only : (id : ℕ) → is_matched bag (shapes ++ shape_of tag n ∷ []) id ≡ true → is_wanted bag (Some tag) id ≡ true
      only id matched =
          elim (either_true (is_matched bag shapes id) (is_matched bag (shape_of tag n ∷ []) id) (joined id ∙ matched)) [
            | inl before ↦ far.only id before
            | inr now ↦ one_only n (get bag id) now
          ]

      all : (id : ℕ) (tuple : Tuple) → get bag id ≡ Some tuple → same_atom tag tuple.tag ≡ true
          → length tuple.fields ≤ n → is_matched bag (shapes ++ shape_of tag n ∷ []) id ≡ true
      all id tuple there same few =
          elim (cases_lt last (length tuple.fields)) [
            | inr le ↦ sym (joined id) ∙ or_left (is_matched bag shapes id) _ (far.all id tuple there same le)
            | inl lt ↦ elim (cases_lt (length tuple.fields) n) [
              | inl between ↦ absurd (no_head (length tuple.fields) id tuple (none (length tuple.fields) lt between) there same refl)
              | inr ge ↦ sym (joined id) ∙ or_right (is_matched bag shapes id) _ (one_all n id tuple there same (omega (arith, few, ge)))
            ]
          ]

  -- If no tuple of the tag has more fields, they match all of them, and no others.
  pub all_shapes : (last : ℕ) (shapes : List Template) → AreShapes last shapes → ((m : ℕ) → last < m → HasNone bag tag m)
      → (id : ℕ) → is_matched bag shapes id ≡ is_wanted bag (Some tag) id
  all_shapes last shapes far none id = same_bool (is_matched bag shapes id) (is_wanted bag (Some tag) id) (far.only id) (by (get bag id) refl)
    where
      same_bool : (a b : Bool) → (a ≡ true → b ≡ true) → (b ≡ true → a ≡ true) → a ≡ b
      same_bool true b to back = sym (to refl)
      same_bool false true to back = back refl
      same_bool false false to back = refl

      by : (o : Option Tuple) → get bag id ≡ o → is_asked_in (Some tag) o ≡ true → is_matched bag shapes id ≡ true
      by None there wanted = absurd (true≢false (sym wanted))
      by (Some tuple) there wanted =
          elim (cases_lt last (length tuple.fields)) [
            | inr le ↦ far.all id tuple there wanted le
            | inl lt ↦ absurd (no_head (length tuple.fields) id tuple (none (length tuple.fields) lt) there wanted refl)
          ]

-- Without a tag each tuple is asked for.
pub all_asked : (o : Option Tuple) → is_some o ≡ is_asked_in None o
all_asked None = refl
all_asked (Some tuple) = refl

-- ---- the kinds of the tag

module _ (bag : FinMap nat_cmp Tuple) (own : Atom) (last : ℕ) where
  -- After the last number of fields comes that of the next kind, if that is of the tag.
  pub kind_above : (found : Atom) (n : ℕ) → found ≡ own → IsBefore own last found n → last < n
  kind_above found n same (inl less) =
      absurd (atoms_turn own own (subst (λ t. atom_ord.ghosts.cmp own t ≡ Less) same less) (subst (λ t. atom_ord.ghosts.cmp own t ≡ Less) same less))
  kind_above found n same (inr is) = is.1

  pub kind_least : (found : Atom) (n : ℕ) → found ≡ own
      → ((tag : Atom) (fields : ℕ) → IsBefore own last tag fields → IsBefore tag fields found n → HasNone bag tag fields)
      → (m : ℕ) → last < m → m < n → HasNone bag own m
  kind_least found n same least m above below = least own m (inr (refl, above)) (inr (sym same, below))

  -- If it is of a later tag, the tag has no more.
  pub kind_past : (found : Atom) (n : ℕ) → (found ≡ own → ⊥) → IsBefore own last found n
      → ((tag : Atom) (fields : ℕ) → IsBefore own last tag fields → IsBefore tag fields found n → HasNone bag tag fields)
      → (m : ℕ) → last < m → HasNone bag own m
  kind_past found n other (inl less) least m above = least own m (inr (refl, above)) (inl less)
  kind_past found n other (inr is) least m above = absurd (other (sym is.0))

  pub kind_none : ((tag : Atom) (fields : ℕ) → IsBefore own last tag fields → HasNone bag tag fields) → (m : ℕ) → last < m → HasNone bag own m
  kind_none none m above = none own m (inr (refl, above))
