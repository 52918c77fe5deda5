-- Lists of deeds, one after the other: what they put and take, and who did the last.
use Rattle.std.proofs.Common.{◌≡◌, ℕ, zero, suc, ◌+◌, ◌<◌, true, ◌||◌, List, [], ◌∷◌, ◌++◌, length, Option, Some, None}
use Rattle.std.proofs.Common.{slice_get, refl, ap, sym, ◌∙◌, arith, eqb-true}
use Rattle.std.proofs.lemmas.Bool.{true≢false}
use Rattle.std.proofs.lemmas.List.Elements.{filter_map-append}
use Rattle.std.proofs.lemmas.List.Folds.{list_any-append}
use Rattle.linda_store_state.specs.declared.deed.Deed.{Deed}
use Rattle.linda_store_state.specs.Deed.{put_by, is_id, takes, outs_of, is_taken, last_with, last_of}

-- Tuples are put by the first list, then by the second.
pub outs_of-joined : (ds es : List Deed) → outs_of (ds ++ es) ≡ outs_of ds ++ outs_of es
outs_of-joined ds es = filter_map-append put_by ds es

-- A tuple is taken by one of the lists.
pub is_taken-joined : (id : ℕ) (ds es : List Deed) → is_taken id (ds ++ es) ≡ (is_taken id ds || is_taken id es)
is_taken-joined id ds es = list_any-append (takes id) ds es

-- What a deed takes is the tuple that it names.
pub taken_is : (id : ℕ) (o : Option ℕ) → is_id id o ≡ true → o ≡ Some id
taken_is id None never = absurd (true≢false (sym never))
taken_is id (Some other) same = ap Some (eqb-true other id same)

-- the last deed of a client in `ds` and then more, given its last deed in what comes later
abbrev pub last_later : ℕ → List Deed → Option (List Deed × Deed) → Option (List Deed × Deed)
last_later c ds (Some found) = Some (ds ++ found.0, found.1)
last_later c ds None = last_of c ds

last_with_later : (c : ℕ) (d : Deed) (ds : List Deed) (later : Option (List Deed × Deed)) → last_with c d (last_later c ds later) ≡ last_later c (d ∷ ds) later
last_with_later c d ds (Some found) = refl
last_with_later c d ds None = refl

-- A client's last deed is in the second list, if it has one there.
pub last_of-joined : (c : ℕ) (ds es : List Deed) → last_of c (ds ++ es) ≡ last_later c ds (last_of c es)
last_of-joined c [] es = none_before (last_of c es)
  where
    none_before : (last : Option (List Deed × Deed)) → last ≡ last_later c [] last
    none_before (Some found) = refl
    none_before None = refl
last_of-joined c (d ∷ ds) es = ap (last_with c d) (last_of-joined c ds es) ∙ last_with_later c d ds (last_of c es)

-- An element of two lists in turn is in the first or in the second.
pub slice_get-front : {X : Type 0} (xs ys : List X) (i : ℕ) → i < length xs → slice_get (xs ++ ys) i ≡ slice_get xs i
slice_get-front [] ys i within = absurd (omega arith)
slice_get-front (x ∷ xs) ys zero within = refl
slice_get-front (x ∷ xs) ys (suc i) within = slice_get-front xs ys i (omega arith)

pub slice_get-back : {X : Type 0} (xs ys : List X) (i k : ℕ) → i ≡ length xs + k → slice_get (xs ++ ys) i ≡ slice_get ys k
slice_get-back [] ys i k place = ap (slice_get ys) (omega arith)
slice_get-back (x ∷ xs) ys zero k place = absurd (omega arith)
slice_get-back (x ∷ xs) ys (suc i) k place = slice_get-back xs ys i k (omega arith)
