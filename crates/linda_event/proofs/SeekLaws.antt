-- Where the element of a number is, in two lists one after the other; and counts of them.
use Rattle.std.proofs.Common.{◌≡◌, ℕ, zero, suc, ◌+◌, ◌<◌, ◌≤◌, min, Bool, true, false, ◌||◌, List, [], ◌∷◌, ◌++◌}
use Rattle.std.proofs.Common.{length, map, Option, Some, None, option_map, zero-add, suc-add, refl, sym, ap, ◌∙◌}
use Rattle.std.proofs.Common.{append_assoc, arith, length-append, true≢false}
use Rattle.std.specs.Prelude.{slice_get, ltb, is_some}
use Rattle.linda_event.specs.declared.limits.TheConstants.{MAX_DEPTH}
use Rattle.linda_event.specs.Limits.{is_too_deep}
use Rattle.std.specs.List.{list_any}
use Rattle.std.proofs.lemmas.Bool.Decides.{nat_tests}
use Rattle.std.proofs.lemmas.Option.{slice_get-map}
use Rattle.std.proofs.lemmas.List.Folds.{list_any-append}
use Rattle.linda_event.specs.Trees.{Kind, Tree}
use Rattle.linda_event.specs.Paths.{Place, leaves}
use Rattle.linda_event.specs.Ways.{leaf_under, IsFound}

slice_get_back : {A : Type 0} (xs ys : List A) (i : ℕ) → slice_get (xs ++ ys) (length xs + i) ≡ slice_get ys i
slice_get_back [] ys i = rw zero-add
slice_get_back (x ∷ xs) ys i = rw suc-add (slice_get_back xs ys i)

-- not among the first, but so many after them
pub found_later : {A : Type 0} (next here rest : List A) (left more : ℕ) → next ≡ here ++ rest
    → left ≡ length here + more → slice_get next left ≡ slice_get rest more
found_later next here rest left more split passed = ap (λ xs. slice_get xs left) split ∙ ap (slice_get (here ++ rest)) passed ∙ slice_get_back here rest more

pub passed_more : {A : Type 0} (next here rest : List A) (start left more all : ℕ) → next ≡ here ++ rest
    → left ≡ length here + more → start + length next ≡ left + all
    → start + length rest ≡ more + all
passed_more next here rest start left more all split passed before = omega (arith, ap length split, length-append here rest)

pub passed_all : {A : Type 0} (next : List A) (start left all : ℕ) → next ≡ [] → start + length next ≡ left + all → start ≡ all + left
passed_all next start left all none before = omega (arith, ap length none)

option_map_front : {A B : Type 0} (f : A → B) (xs ys : List A) (i : ℕ) (b : B) → option_map f (slice_get xs i) ≡ Some b
    → option_map f (slice_get (xs ++ ys) i) ≡ Some b
option_map_front f [] ys i b e = cc
option_map_front f (x ∷ xs) ys zero b e = e
option_map_front f (x ∷ xs) ys (suc i) b e = option_map_front f xs ys i b e

-- the place of a leaf found among the first
pub placed_here : (before : Place) (next here rest : List (Place × Kind)) (left : ℕ) (place : Place) → next ≡ here ++ rest
    → option_map (λ leaf. before ++ leaf.0) (slice_get here left) ≡ Some place → option_map (λ leaf. before ++ leaf.0) (slice_get next left) ≡ Some place
placed_here before next here rest left place split found =
    ap (λ xs. option_map (λ leaf. before ++ leaf.0) (slice_get xs left)) split ∙ option_map_front (λ leaf. before ++ leaf.0) here rest left place found

placed_at : (before : Place) (m : ℕ) (found : Option (Place × Kind))
    → option_map (λ leaf. before ++ leaf.0) (option_map (leaf_under m) found) ≡ option_map (λ leaf. (before ++ m ∷ []) ++ leaf.0) found
placed_at before m None = refl
placed_at before m (Some leaf) = ap Some (sym (append_assoc before (m ∷ []) leaf.0))

-- the place of a leaf found in a member
pub placed_under : (before : Place) (m : ℕ) (ls : List (Place × Kind)) (left : ℕ)
    → option_map (λ leaf. before ++ leaf.0) (slice_get (map (leaf_under m) ls) left) ≡ option_map (λ leaf. (before ++ m ∷ []) ++ leaf.0) (slice_get ls left)
placed_under before m ls left = ap (option_map (λ leaf. before ++ leaf.0)) (slice_get-map (leaf_under m) ls left) ∙ placed_at before m (slice_get ls left)

-- a sum that stops at a limit, one part more and at the end
pub sum_more : (limit count got sum here rest next all : ℕ) → next ≡ here + rest → got ≡ min here limit → sum ≡ min (count + got) limit
    → min (count + next) limit ≡ min all limit → min (sum + rest) limit ≡ min all limit
sum_more limit count got sum here rest next all split part is before = omega arith

pub sum_end : (limit count rest all : ℕ) → rest ≡ 0 → count ≤ limit → min (count + rest) limit ≡ min all limit → count ≡ min all limit
sum_end limit count rest all none fits before = omega arith

pub sum_fits : (limit count got sum : ℕ) → sum ≡ min (count + got) limit → sum ≤ limit
sum_fits limit count got sum is = omega arith

-- one node deeper
same_depth : (top above deep : ℕ) → MAX_DEPTH < top → ltb MAX_DEPTH (min (above + 1) top + deep) ≡ ltb MAX_DEPTH (above + suc deep)
same_depth top above deep high = grind (arith, nat_tests)

pub deep_under : (top above m : ℕ) (ls : List (Place × Kind)) → MAX_DEPTH < top
    → list_any (λ leaf. ltb MAX_DEPTH (min (above + 1) top + length leaf.0)) ls
    ≡ list_any (λ leaf. ltb MAX_DEPTH (above + length leaf.0)) (map (leaf_under m) ls)
deep_under top above m [] high = refl
deep_under top above m (l ∷ ls) high = rw (same_depth top above (length l.0) high, deep_under top above m ls high)

-- what is asked of a member is asked of its leaves, one node deeper
pub deep_below : (top above above' m : ℕ) (ls : List (Place × Kind)) (deep : Bool) → MAX_DEPTH < top → above' ≡ min (above + 1) top
    → deep ≡ list_any (λ leaf. ltb MAX_DEPTH (above' + length leaf.0)) ls
    → deep ≡ list_any (λ leaf. ltb MAX_DEPTH (above + length leaf.0)) (map (leaf_under m) ls)
deep_below top above above' m ls deep high is asked = asked ∙ ap (λ a. list_any (λ leaf. ltb MAX_DEPTH (a + length leaf.0)) ls) is
    ∙ deep_under top above m ls high

pub any_more : {A : Type 0} (p : A → Bool) (next here rest : List A) → next ≡ here ++ rest → list_any p next ≡ (list_any p here || list_any p rest)
any_more p next here rest split = ap (list_any p) split ∙ list_any-append p here rest

pub deep_in : (top above above' m : ℕ) (next ls rest : List (Place × Kind)) (deep : Bool) → MAX_DEPTH < top
    → next ≡ map (leaf_under m) ls ++ rest → above' ≡ min (above + 1) top
    → deep ≡ list_any (λ leaf. ltb MAX_DEPTH (above' + length leaf.0)) ls → deep ≡ true → true ≡ list_any (λ leaf. ltb MAX_DEPTH (above + length leaf.0)) next
deep_in top above above' m next ls rest deep high split is asked e =
    sym (any_more (λ leaf. ltb MAX_DEPTH (above + length leaf.0)) next (map (leaf_under m) ls) rest split
    ∙ ap (λ b. b || list_any (λ leaf. ltb MAX_DEPTH (above + length leaf.0)) rest) (sym (deep_below top above above' m ls deep high is asked) ∙ e))

pub deep_not_in : (top above above' m : ℕ) (next ls rest : List (Place × Kind)) (deep : Bool)
    → MAX_DEPTH < top → next ≡ map (leaf_under m) ls ++ rest → above' ≡ min (above + 1) top
    → deep ≡ list_any (λ leaf. ltb MAX_DEPTH (above' + length leaf.0)) ls → deep ≡ false
    → list_any (λ leaf. ltb MAX_DEPTH (above + length leaf.0)) rest ≡ list_any (λ leaf. ltb MAX_DEPTH (above + length leaf.0)) next
deep_not_in top above above' m next ls rest deep high split is asked e =
    sym (any_more (λ leaf. ltb MAX_DEPTH (above + length leaf.0)) next (map (leaf_under m) ls) rest split
    ∙ ap (λ b. b || list_any (λ leaf. ltb MAX_DEPTH (above + length leaf.0)) rest) (sym (deep_below top above above' m ls deep high is asked) ∙ e))

pub any_end : {A : Type 0} (p : A → Bool) (next : List A) → next ≡ [] → false ≡ list_any p next
any_end p next none = sym (ap (list_any p) none)

-- at the root no node is above
at_root : (ls : List (Place × Kind)) → list_any (λ leaf. ltb MAX_DEPTH (0 + length leaf.0)) ls ≡ list_any (λ leaf. ltb MAX_DEPTH (length leaf.0)) ls
at_root ls = simp zero-add

pub not_too_deep : (event : Tree) → false ≡ list_any (λ leaf. ltb MAX_DEPTH (0 + length leaf.0)) (leaves event) → is_too_deep event ≡ true → ⊥
not_too_deep event asked deep = true≢false (sym deep ∙ sym (at_root (leaves event)) ∙ sym asked)

-- the place of a leaf that was found in a member, after the member's number was appended
pub found_under : (before pushed after : List ℕ) (m left : ℕ) (ls : List (Place × Kind)) (answer : Option ℕ)
    → is_some answer ≡ false → pushed ≡ before ++ m ∷ []
    → IsFound ls left pushed after answer → IsFound (map (leaf_under m) ls) left before after answer
found_under before pushed after m left ls None none first found =
    placed_under before m ls left ∙ ap (λ way. option_map (λ leaf. way ++ leaf.0) (slice_get ls left)) (sym first) ∙ found
found_under before pushed after m left ls (Some rest) none first found = absurd (true≢false none)
