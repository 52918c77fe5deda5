-- The waits of a client, and those that a tuple may answer: the numbers that are filed under these are those of the waits that
-- contracts speak of.
use Rattle.std.proofs.Common.{◌≡◌, ℕ, ◌+◌, ◌<◌, arith, zero, suc, nat_lt, slice_get, Bool, true, false, ◌||◌, ◌&&◌}
use Rattle.std.proofs.Common.{◌==◌, cond, List, [], ◌∷◌, Option, None, Some, length, filter, refl, sym, ap, subst, ◌∙◌}
use Rattle.std.proofs.Common.{nat_cmp}
use Rattle.std.specs.BTreeMap.{is_at}
use Rattle.std.specs.Ordering.{is_eq}
use Rattle.std.specs.Option.{is_some, option_map}
use Rattle.std.specs.List.{AllZip}
use Rattle.std.proofs.lemmas.Bool.{or_right}
use Rattle.std.proofs.lemmas.Bool.Decides.{nat_tests}
use Rattle.std.specs.List.Sorted.{IsStrictlySortedBy}
use Rattle.std.specs.Map.{lookup, keys_of, values_of}
use Rattle.std.specs.Cmp.{nat_cmp_total, eq_by_cmp_equiv, unsigned_tied}
use Rattle.std.proofs.lemmas.Map.Entries.{option_filter, length-keys_of, length-values_of}
use Rattle.std.proofs.lemmas.Slice.Zip.{AllZip-long}
use Rattle.linda_tuple.specs.declared.atom.Atom.{Atom}
use Rattle.linda_tuple.specs.declared.pattern.Pattern.{Pattern}
use Rattle.linda_tuple.specs.declared.pattern.Pattern.TheVariants as patterns
use Rattle.linda_tuple.specs.contracts.atom.AtomOrd.TheImpl as atom_ord
use Rattle.linda_tuple.specs.Tuple.{Tuple}
use Rattle.linda_tuple.specs.Matching.{is_match}
use Rattle.linda_tuple.proofs.MatchingLaws.{Fits, fits_itself, matched}
use Rattle.linda_bag.specs.Filing.{row_at, rows_at, placed, keyed}
use Rattle.linda_bag.specs.Candidates.{first_among}
use Rattle.linda_bag.proofs.OrderLaws.{atom_itself, number_itself}
use Rattle.linda_hold.specs.declared.asked.Asked.{Asked}
use Rattle.linda_hold.specs.Waits.{Wait, waits_of}
use Rattle.linda_hold.specs.Arrivals.{may_meet}
use Rattle.linda_hold.specs.FirstValue.{first_of, if_later, value_from}
use Rattle.linda_hold.specs.Group.{if_unkeyed, is_reached, keyed_at}
use Rattle.linda_hold.specs.FirstValueIndex.{is_met, is_met_by}
use Rattle.linda_hold.specs.TicketIndex.{Requests, IsCount, client_of}
use Rattle.linda_hold.specs.TagIndex.{Waiting, count_of, alike}
use Rattle.linda_hold.specs.Index.{requests_of}
use Rattle.linda_hold.proofs.PartLaws.{part, counted_part}

pub part_values : (p : Wait → Bool) (es : List (ℕ × Wait)) → values_of (part p es) ≡ filter p (values_of es)
part_values p [] = refl
part_values p (e ∷ es) = by (p e.1) (part_values p es)
  where
    by : (b : Bool) → values_of (part p es) ≡ filter p (values_of es)
        → values_of (cond b (e ∷ part p es) (part p es)) ≡ cond b (e.1 ∷ filter p (values_of es)) (filter p (values_of es))
    by true rest = ap (λ l. e.1 ∷ l) rest
    by false rest = rest

part_length : (p : Wait → Bool) (es : List (ℕ × Wait)) → length (keys_of (part p es)) ≡ length (filter p (values_of es))
part_length p es = length-keys_of (part p es) ∙ sym (length-values_of (part p es)) ∙ ap length (part_values p es)

told : {A : Type 0} (b : Bool) (x : A) → is_some (cond b (Some x) None) ≡ b
told true x = refl
told false x = refl

-- A request is filed where a tuple of its tag and its number of fields is looked for.
same_head : (row : Tuple) (asked : Asked) → is_eq (atom_ord.ghosts.cmp asked.template.tag row.tag) ≡ true
    → is_eq (nat_cmp (length asked.template.fields) (length row.fields)) ≡ true → alike row (λ _. Some asked) 0 ≡ Some asked
same_head row asked tag count =
    ap (λ b. row_at nat_cmp (length row.fields) (placed (λ r. Some (count_of r)) (cond b (Some asked) None))) tag
    ∙ ap (λ b. cond b (Some asked) None) count

own_reached : (a : Atom) (asked : Asked) → first_of asked ≡ Some a → is_reached (Some a) (Some asked) ≡ true
own_reached a asked is =
    ap (λ f. is_some (row_at atom_ord.ghosts.cmp a (keyed f asked)) || is_some (if_unkeyed f asked)) is
    ∙ ap (λ b. is_some (cond b (Some asked) None) || false) (atom_itself a)

unkeyed_reached : (field : Option Atom) (asked : Asked) → first_of asked ≡ None → is_reached field (Some asked) ≡ true
unkeyed_reached field asked is = or_right (is_some (keyed_at field (Some asked))) _ (ap (λ f. is_some (if_unkeyed f asked)) is)

-- If the patterns fit the fields, the field at the position of the first value is that value.
module _ (whole : List Atom) where
  value_there : (before : ℕ) (patterns : List Pattern) (fields : List Atom) (p : ℕ × Atom) → ((i : ℕ) → slice_get whole (before + i) ≡ slice_get fields i)
      → AllZip Fits patterns fields → value_from before patterns ≡ Some p → slice_get whole p.0 ≡ Some p.1
  value_there before [] fields p same fits is = absurd (none is)
    where
      none : None ≡ Some p → ⊥
      none e = cc
  value_there before (q ∷ qs) [] p same fits is = absurd fits
  value_there before (q ∷ qs) (x ∷ xs) p same fits is = at q fits.0 is (value_there (before + 1) qs xs p later fits.1)
    where
      next : (i : ℕ) → (before + 1) + i ≡ before + suc i
      next i = omega arith

      later : (i : ℕ) → slice_get whole ((before + 1) + i) ≡ slice_get xs i
      later i = ap (slice_get whole) (next i) ∙ same (suc i)

      here : before ≡ before + 0
      here = omega arith

      at : (q : Pattern) → Fits q x → value_from before (q ∷ qs) ≡ Some p
          → (value_from (before + 1) qs ≡ Some p → slice_get whole p.0 ≡ Some p.1) → slice_get whole p.0 ≡ Some p.1
      at (patterns.Value v) fit is rest =
          subst (λ (r : ℕ × Atom). slice_get whole r.0 ≡ Some r.1) (own is)
          (ap (slice_get whole) here ∙ same 0 ∙ ap (λ (a : Atom). Some a) (sym (fits_itself v x fit)))
        where
          own : Some (before, v) ≡ Some p → (before, v) ≡ p
          own e = cc
      at patterns.IntFormal fit is rest = rest is
      at patterns.TextFormal fit is rest = rest is
      at patterns.BoolFormal fit is rest = rest is
      at patterns.Any fit is rest = rest is

got_within : (fields : List Atom) (k : ℕ) (a : Atom) → slice_get fields k ≡ Some a → k < length fields
got_within [] k a got = absurd (none got)
  where
    none : None ≡ Some a → ⊥
    none e = cc
got_within (x ∷ xs) zero a got = omega arith
got_within (x ∷ xs) (suc k) a got = let less = got_within xs k a got in omega arith

first_got : (fields : List Atom) → slice_get fields 0 ≡ first_among fields
first_got [] = refl
first_got (x ∷ xs) = refl

from_none : (i : ℕ) → 0 + i ≡ i
from_none i = omega arith

-- So a tuple with these fields may answer the request.
reached : (fields : List Atom) (asked : Asked) → AllZip Fits asked.template.fields fields → is_met fields (Some asked) ≡ true
reached fields asked fits = by (value_from 0 asked.template.fields) refl
  where
    by : (value : Option (ℕ × Atom)) → value_from 0 asked.template.fields ≡ value → is_met fields (Some asked) ≡ true
    by None is =
        ap (λ v. is_met_by (length fields) fields (if_later v) asked) is
        ∙ unkeyed_reached (first_among fields) asked (ap (option_map (λ p. p.1)) is)
    by (Some p) is =
        ap (λ v. is_met_by (length fields) fields (if_later v) asked) is
        ∙ at (p.0 == 0) refl
      where
        there : slice_get fields p.0 ≡ Some p.1
        there = value_there fields 0 asked.template.fields fields p (λ i. ap (slice_get fields) (from_none i)) fits is

        own : is_reached (Some p.1) (Some asked) ≡ true
        own = own_reached p.1 asked (ap (option_map (λ r. r.1)) is)

        within : p.0 < length fields → nat_lt p.0 (length fields) ≡ true
        within less = grind (arith, nat_tests)

        zero_told : (p.0 == 0) ≡ true → p.0 ≡ 0
        zero_told e = grind (arith, nat_tests)

        at : (b : Bool) → (p.0 == 0) ≡ b → is_met_by (length fields) fields (cond b None (Some p.0)) asked ≡ true
        at true none =
            ap (λ f. is_reached f (Some asked)) (sym (first_got fields) ∙ ap (slice_get fields) (sym (zero_told none)) ∙ there) ∙ own
        at false off =
            ap (λ b. b && is_reached (slice_get fields p.0) (Some asked)) (within (got_within fields p.0 p.1 there))
            ∙ ap (λ f. is_reached f (Some asked)) there
            ∙ own

-- A tuple that a template matches may answer it.
pub met_where_matched : (row : Tuple) (w : Wait) → is_match w.1.template row ≡ true → may_meet row w ≡ true
met_where_matched row w is =
    let match = matched w.1.template row is in
    let long = AllZip-long Fits w.1.template.fields row.fields match.fields in
    ap (is_met row.fields)
    (same_head row w.1
    (subst (λ x. is_eq (atom_ord.ghosts.cmp x row.tag) ≡ true) (sym match.tag) (atom_itself row.tag))
    (subst (λ n. is_eq (nat_cmp n (length row.fields)) ≡ true) long (number_itself (length row.fields))))
    ∙ reached row.fields w.1 match.fields

-- The waits es in order, and the wait under each number.
module _ (es : List (ℕ × Wait)) (ordered : IsStrictlySortedBy nat_cmp (keys_of es)) (waiting : Waiting)
    (found : (q : ℕ) → waiting q ≡ lookup (is_at (nat_cmp q)) es) where
  module _ (client : ℕ) where
    abbrev pub own : Requests
    own = rows_at nat_cmp client_of client (requests_of waiting)

    own_at : (o : Option Wait) → is_some (row_at nat_cmp client (placed client_of (option_map (λ w. w.0) o)))
        ≡ is_some (option_filter (λ w. client == w.0.client) o)
    own_at None = refl
    own_at (Some w) =
        told (is_eq (nat_cmp w.0.client client)) w.0
        ∙ (eq_by_cmp_equiv nat_cmp_total).symm w.0.client client
        ∙ unsigned_tied client w.0.client
        ∙ sym (told (client == w.0.client) w)

    -- The client has as many requests as waits.
    pub own_count : (count : ℕ) → IsCount client (requests_of waiting) count → count ≡ length (waits_of client (values_of es))
    own_count count counts =
        counted_part (λ w. client == w.0.client) es ordered own (λ q. own_at (waiting q)
        ∙ ap (λ o. is_some (option_filter (λ w. client == w.0.client) o)) (found q)) count counts
        ∙ part_length (λ w. client == w.0.client) es
