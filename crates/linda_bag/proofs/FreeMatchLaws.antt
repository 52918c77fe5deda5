-- What is said of a tuple in a bag, said of the bag; and that each tuple that a template matches is one of its candidates.
use Rattle.std.proofs.Common.{◌≡◌, ℕ, Bool, true, false, cond, ◌↔◌, IsTrue, List, [], ◌∷◌, Option, Some, None, is_some}
use Rattle.std.proofs.Common.{length, unwrap_or, refl, sym, ap, subst, ◌∙◌, nat_cmp, true≢false}
use Rattle.std.specs.declared.cmp.Ordering.{Ordering}
use Rattle.std.specs.Ordering.{is_eq}
use Rattle.std.specs.List.{AllZip}
use Rattle.std.proofs.lemmas.Slice.Zip.{AllZip-long}
use Rattle.std.specs.FinMap.{FinMap, get}
use Rattle.linda_tuple.specs.declared.atom.Atom.{Atom}
use Rattle.linda_tuple.specs.declared.pattern.Pattern.{Pattern}
use Rattle.linda_tuple.specs.declared.pattern.Pattern.TheVariants as patterns
use Rattle.linda_tuple.specs.contracts.atom.AtomOrd.TheImpl as atom_ord
use Rattle.linda_tuple.specs.Tuple.{Tuple}
use Rattle.linda_tuple.specs.Template.{Template}
use Rattle.linda_tuple.specs.Matching.{Matches}
use Rattle.linda_tuple.proofs.MatchingLaws.{Fits, fits_itself, matched}
use Rattle.linda_bag.specs.FreeMatch.{IsFreeMatch}
use Rattle.linda_bag.specs.Filing.{Rows, IsBare, IsIndexed, row_at, placed, keyed, rows_at}
use Rattle.linda_bag.specs.TagIndex.{with_head}
use Rattle.linda_bag.specs.declared.ids.Ids.{Ids}
use Rattle.linda_bag.specs.declared.ids.Ids.TheVariants as ids
use Rattle.linda_bag.specs.Ids.{has_id, has_any, IsOf}
use Rattle.linda_bag.specs.Candidates.{tag_of, count_of, first_of, first_among, first_value, with_first, candidates}
use Rattle.linda_bag.proofs.OrderLaws.{atom_itself, number_itself}
use Rattle.linda_bag.proofs.FilingLaws.{id_told}

some_same : {A : Type 0} {x y : A} → Some x ≡ Some y → x ≡ y
some_same {x = x} e = ap (λ o. unwrap_or o x) e

module _ (m : FinMap nat_cmp Tuple) (shape : Template) (passed : ℕ → Bool) (id : ℕ) where
  -- The tuple under the id passes the test, or there is none.
  pub free_there : (row : Tuple) (test : Bool) → get m id ≡ Some row → (IsTrue test ↔ (Matches shape row × (passed id ≡ false)))
      → IsTrue test ↔ IsFreeMatch m shape passed id
  free_there row test stored decides = (
    (λ passes. let fits = decides.0 passes in record { row = row; stored = stored; matches = fits.0; free = fits.1 }),
    (λ match. decides.1 (subst (Matches shape) (some_same (sym match.stored ∙ stored)) match.matches, match.free)),
  )

  pub none_there : get m id ≡ None → IsTrue false ↔ IsFreeMatch m shape passed id
  none_there none = (
    (λ passes. absurd (true≢false (sym passes))),
    (λ match. absurd (true≢false (ap is_some (sym match.stored ∙ none)))),
  )

-- A row is found under its own key.
at_own : {K : Type 0} (cmp : K → K → Ordering) (key_of : Tuple → Option K) (rows : Rows Tuple) (id : ℕ) (row : Tuple) (key q : K)
    → rows id ≡ Some row → key_of row ≡ Some key → is_eq (cmp key q) ≡ true → rows_at cmp key_of q rows id ≡ Some row
at_own cmp key_of rows id row key q there own tie =
    ap (λ o. row_at cmp q (placed key_of o)) there
    ∙ ap (λ k. row_at cmp q (keyed k row)) own
    ∙ ap (λ b. cond b (Some row) None) tie

atom_tie : (a b : Atom) → a ≡ b → is_eq (atom_ord.ghosts.cmp b a) ≡ true
atom_tie a b same = subst (λ x. is_eq (atom_ord.ghosts.cmp x a) ≡ true) same (atom_itself a)

-- The value that the first pattern asks for is the first field of what the patterns fit.
first_there : (fields : List Pattern) (rows : Rows Tuple) (id : ℕ) (row : Tuple) (atoms : List Atom) → atoms ≡ row.fields
    → AllZip Fits fields atoms → rows id ≡ Some row → with_first (first_value fields) rows id ≡ Some row
first_there [] rows id row atoms same fit there = there
first_there (patterns.Value v ∷ rest) rows id row [] same fit there = absurd fit
first_there (patterns.Value v ∷ rest) rows id row (atom ∷ atoms) same fit there =
    at_own atom_ord.ghosts.cmp first_of rows id row atom v there (sym (ap first_among same)) (atom_tie v atom (fits_itself v atom fit.0))
first_there (patterns.IntFormal ∷ rest) rows id row atoms same fit there = there
first_there (patterns.TextFormal ∷ rest) rows id row atoms same fit there = there
first_there (patterns.BoolFormal ∷ rest) rows id row atoms same fit there = there
first_there (patterns.Any ∷ rest) rows id row atoms same fit there = there

pub candidate_there : (shape : Template) (rows : Rows Tuple) (id : ℕ) (row : Tuple) → Matches shape row
    → rows id ≡ Some row → candidates shape rows id ≡ Some row
candidate_there shape rows id row match there =
    let is = matched shape row match in
    let tagged = at_own atom_ord.ghosts.cmp (λ r. Some (tag_of r)) rows id row row.tag shape.tag there refl (atom_tie shape.tag row.tag is.tag) in
    let long = AllZip-long Fits shape.fields row.fields is.fields in
    let counted = at_own nat_cmp (λ r. Some (count_of r)) (rows_at atom_ord.ghosts.cmp (λ r. Some (tag_of r)) shape.tag rows) id row (length row.fields)
    (length shape.fields) tagged refl (subst (λ n. is_eq (nat_cmp (length row.fields) n) ≡ true) long (number_itself (length row.fields))) in
    first_there shape.fields (with_head tag_of count_of shape.tag (length shape.fields) rows) id row row.fields refl is.fields counted

-- So if there is no candidate, there is no match.
pub no_candidate : (shape : Template) (rows : Rows Tuple) (id : ℕ) (row : Tuple) → IsBare (candidates shape rows) → Matches shape row → rows id ≡ Some row → ⊥
no_candidate shape rows id row bare match there = true≢false (ap is_some (sym (candidate_there shape rows id row match there) ∙ bare id))

-- Of what is found for a template: each tuple that it may be answered with has its id in it.
module _ (shape : Template) (rows : Rows Tuple) (m : FinMap nat_cmp Tuple) (passed : ℕ → Bool) (kept : (k : ℕ) → rows k ≡ get m k) where
  pub none_found : IsBare (candidates shape rows) → (k : ℕ) → IsFreeMatch m shape passed k → ⊥
  none_found bare k free = no_candidate shape rows k free.row bare free.matches (kept k ∙ free.stored)

  module _ (found : Ids) (listed : IsOf found (candidates shape rows)) where
    has_free : (k : ℕ) → IsFreeMatch m shape passed k → has_id found k ≡ true
    has_free k free = listed k ∙ ap is_some (candidate_there shape rows k free.row free.matches (kept k ∙ free.stored))

    pub nothing_free : found ≡ ids.Nothing → (k : ℕ) → IsFreeMatch m shape passed k → ⊥
    nothing_free is k free = true≢false (sym (has_free k free) ∙ ap (λ s. has_id s k) is)

    pub one_free : (only : ℕ) → found ≡ ids.One only → (k : ℕ) → IsFreeMatch m shape passed k → k ≡ only
    one_free only is k free = (id_told k only).0 (sym (ap (λ s. has_id s k) is) ∙ has_free k free)

-- What is found for a template has each id that it may be answered with.
pub among_found : (shape : Template) (rows : Rows Tuple) (m : FinMap nat_cmp Tuple) (passed : ℕ → Bool) → ((k : ℕ) → rows k ≡ get m k)
    → (found : Option Ids) → IsIndexed IsOf found (candidates shape rows) → (k : ℕ) → IsFreeMatch m shape passed k → has_any found k ≡ true
among_found shape rows m passed kept None bare k free = absurd (none_found shape rows m passed kept bare k free)
among_found shape rows m passed kept (Some set) known k free = has_free shape rows m passed kept set known.0 k free
