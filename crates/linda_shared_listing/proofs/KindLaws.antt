-- The kinds that were listed so far, and the page that ends there.
use Rattle.std.proofs.Common.{◌≡◌, ◌≤◌, ◌+◌, ◌++◌, ℕ, true, false, List, [], ◌∷◌, Option, Some, None, length, min}
use Rattle.std.proofs.Common.{length-append, refl, sym, ap, subst, ◌∙◌, true≢false, arith}
use Rattle.std.specs.Borrow.{Bor}
use Rattle.std.specs.Ordering.{nat_cmp}
use Rattle.std.specs.Prelude.{IfSome, IfNone}
use Rattle.std.specs.FinMap.{FinMap, get}
use Rattle.linda_tuple.specs.declared.atom.Atom.{Atom}
use Rattle.linda_tuple.specs.Tuple.{Tuple}
use Rattle.linda_bag.specs.Candidates.{tag_of, count_of}
use Rattle.linda_bag.specs.TagIndex.{IsPast, IsBefore, with_head}
use Rattle.linda_bag.specs.Ids.{IsCount}
use Rattle.linda_bag.specs.declared.index_bag.kind.Kind.{Kind}
use Rattle.linda_shared_listing.specs.declared.limits.TheConstants.{MOST_AT_ONCE}
use Rattle.linda_shared_listing.specs.declared.kinds.ListedKind.{ListedKind}
use Rattle.linda_shared_listing.specs.declared.kinds.KindPage.{KindPage}
use Rattle.linda_shared_listing.specs.Kinds.{IsLater, head_in, row_in, HasNone, IsNextKind, IsLastHead, AreNextKinds, last_head, IsKindPage}

-- What is after a kind that a reference names is after that kind, and the other way round.
pub later_of : (last : Option (Bor Atom × ℕ)) (tag : Atom) (fields : ℕ) → IsPast last tag fields → IsLater (head_in last) tag fields
later_of None tag fields past = past
later_of (Some head) tag fields past = past

pub past_of : (last : Option (Bor Atom × ℕ)) (tag : Atom) (fields : ℕ) → IsLater (head_in last) tag fields → IsPast last tag fields
past_of None tag fields later = later
past_of (Some head) tag fields later = later

-- The last row is the one that was added.
pub last_added : (last : Option (Atom × ℕ)) (rows : List ListedKind) (row : ListedKind) → last_head last (rows ++ row ∷ []) ≡ Some (row.tag, row.fields)
last_added last [] row = refl
last_added last (r ∷ rows) row = last_added (Some (r.tag, r.fields)) rows row

module _ (bag : FinMap nat_cmp Tuple) where
  pub one_more : (last : Option (Atom × ℕ)) (rows : List ListedKind) (row : ListedKind) → AreNextKinds bag last rows
      → IsNextKind bag (last_head last rows) row → AreNextKinds bag last (rows ++ row ∷ [])
  one_more last [] row all next = (next, tt)
  one_more last (r ∷ rows) row all next = (all.0, one_more (Some (r.tag, r.fields)) rows row all.1 next)

  module _ (after : Option (Atom × ℕ)) where
    -- The rows so far, up to this kind, and how many they are.
    pub record AreKindsTo (last : Option (Atom × ℕ)) (many : ℕ) (rows : List ListedKind) : Type 0 where
      pub all : AreNextKinds bag after rows
      pub ends : last_head after rows ≡ last
      pub count : length rows ≡ many

    pub kinds_more : (last : Option (Atom × ℕ)) (count : ℕ) (rows new : List ListedKind) (row : ListedKind) → AreKindsTo last count rows
        → new ≡ rows ++ row ∷ [] → IsNextKind bag last row → AreKindsTo (Some (row.tag, row.fields)) (count + 1) new
    kinds_more last count rows new row far same next =
        let longer : length new ≡ length rows + 1 = ap length same ∙ length-append rows (row ∷ []) in
        record {
          all = subst (AreNextKinds bag after) (sym same) (one_more after rows row far.all (subst (λ l. IsNextKind bag l row) (sym far.ends) next));
          ends = ap (last_head after) same ∙ last_added after rows row;
          count = omega (arith, longer, far.count);
        }

    pub whole_page : (last : Option (Atom × ℕ)) (count limit : ℕ) (page : KindPage) → AreKindsTo last count page.rows.items
        → count ≤ limit → count ≤ MOST_AT_ONCE → page.is_whole ≡ true → IsLastHead bag last → IsKindPage bag after limit page
    whole_page last count limit page far below most is ends = record {
      rows = far.all;
      few = omega (arith, far.count, below);
      most = omega (arith, far.count, most);
      whole = λ yes. subst (IsLastHead bag) (sym far.ends) ends;
      full = λ no. absurd (true≢false (sym is ∙ no));
      more = λ no. absurd (true≢false (sym is ∙ no));
    }

    pub part_of_all : (last : Option (Atom × ℕ)) (row : ListedKind) (count limit : ℕ) (page : KindPage) → AreKindsTo last count page.rows.items
        → count ≡ min limit MOST_AT_ONCE → count ≤ limit → count ≤ MOST_AT_ONCE → page.is_whole ≡ false
        → IsNextKind bag last row → IsKindPage bag after limit page
    part_of_all last row count limit page far all below most is next = record {
      rows = far.all;
      few = omega (arith, far.count, below);
      most = omega (arith, far.count, most);
      whole = λ yes. absurd (true≢false (sym yes ∙ is));
      full = λ no. far.count ∙ all;
      more = λ no. λ ends. next.some (subst (IsLastHead bag) far.ends ends row.tag row.fields next.later);
    }

  -- What was found in the bag is the next kind; if nothing was, there is none.
  pub next_is : (last : Option (Bor Atom × ℕ)) (found : Option Kind) → IfSome found (λ kind. IsPast last kind.tag.now kind.fields)
      → IfSome found (λ kind. IsCount (with_head tag_of count_of kind.tag.now kind.fields (get bag)) kind.tuples)
      → IfSome found (λ kind. HasNone bag kind.tag.now kind.fields → ⊥) → IfSome found (λ kind. (tag : Atom) (fields : ℕ) → IsPast last tag fields
      → IsBefore tag fields kind.tag.now kind.fields → HasNone bag tag fields) → IfSome found (λ kind. IsNextKind bag (head_in last) (row_in kind))
  next_is last None past counted some least = tt
  next_is last (Some kind) past counted some least = record {
    later = later_of last kind.tag.now kind.fields past;
    counted = counted;
    some = some;
    least = λ tag fields later before. least tag fields (past_of last tag fields later) before;
  }

  pub none_is : (last : Option (Bor Atom × ℕ)) (found : Option Kind)
      → IfNone found ((tag : Atom) (fields : ℕ) → IsPast last tag fields → HasNone bag tag fields) → IfNone found (IsLastHead bag (head_in last))
  none_is last None none = λ tag fields later. none tag fields (past_of last tag fields later)
  none_is last (Some kind) none = tt
