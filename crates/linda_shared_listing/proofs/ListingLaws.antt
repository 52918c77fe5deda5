-- The tuples that were listed so far, and the page that ends there.
use Rattle.std.proofs.Common.{◌≡◌, ◌≤◌, ◌<◌, ◌+◌, ◌++◌, ℕ, suc, Bool, true, List, [], ◌∷◌, Option, Some, None, length}
use Rattle.std.proofs.Common.{length-append, map, is_some, refl, sym, ap, subst, ◌∙◌, true≢false, arith}
use Rattle.std.specs.Prelude.{IfSome, All, min}
use Rattle.std.specs.Ordering.{nat_cmp}
use Rattle.std.specs.FinMap.{FinMap, get}
use Rattle.std.proofs.lemmas.List.{length-map}
use Rattle.std.proofs.lemmas.List.Elements.{All-nil}
use Rattle.linda_tuple.specs.declared.atom.Atom.{Atom}
use Rattle.linda_tuple.specs.Tuple.{Tuple}
use Rattle.linda_hold.specs.Holds.{HeldFor}
use Rattle.linda_wire.specs.declared.limits.TheConstants.{NUMBER_LIMIT}
use Rattle.linda_store_state.specs.State.{State, IsState}
use Rattle.linda_shared_listing.specs.Firsts.{IsNext, AreFirst}
use Rattle.linda_shared_listing.specs.declared.limits.TheConstants.{MOST_AT_ONCE}
use Rattle.linda_shared_listing.specs.declared.listed.ListedTuple.{ListedTuple}
use Rattle.linda_shared_listing.specs.declared.listed.TupleQuery.{TupleQuery}
use Rattle.linda_shared_listing.specs.declared.listed.TuplePage.{TuplePage}
use Rattle.linda_shared_listing.specs.Listing.{is_asked_in, is_wanted, IsRow, IsPage}
use Rattle.linda_shared_listing.proofs.FirstLaws.{one_more, next_so, onward, same_next}

-- The ids of some rows.
abbrev pub ids : List ListedTuple → List ℕ
ids rows = map (λ (row : ListedTuple). row.id) rows

wanted_there : (tag : Option Atom) (o : Option Tuple) → is_asked_in tag o ≡ true → is_some o ≡ true
wanted_there tag None wanted = absurd (true≢false (sym wanted))
wanted_there tag (Some tuple) wanted = refl

-- The ids of a state are below the limit.
pub low : (st : State) → IsState st → (id : ℕ) → is_some (get st.bag id) ≡ true → id < NUMBER_LIMIT
low st is id there = by (get st.bag id) (is.ids id) there
  where
    by : (o : Option Tuple) → IfSome o (λ _. (1 ≤ id) × (id < st.next)) → is_some o ≡ true → id < NUMBER_LIMIT
    by None ids there = absurd (true≢false (sym there))
    by (Some tuple) ids there = omega (arith, ids.1, is.next_high)

module _ (bag : FinMap nat_cmp Tuple) (holds : HeldFor) (tag : Option Atom) where
  -- The rows have the tuples before `next`, as many as were counted.
  pub record AreListed (from : ℕ) (next : Option ℕ) (count : ℕ) (rows : List ListedTuple) : Type 0 where
    pub first : AreFirst (is_wanted bag tag) from (ids rows) next
    pub all : All (IsRow bag holds) rows
    pub many : length rows ≡ count

  pub none_listed : (found : ℕ → Bool) (from : ℕ) (next : Option ℕ) (rows : List ListedTuple) → rows ≡ []
      → ((id : ℕ) → found id ≡ is_wanted bag tag id) → IsNext found from next → AreListed from next 0 rows
  none_listed found from next rows none same is =
      subst (λ (rs : List ListedTuple). AreListed from next 0 rs) (sym none)
      (record { first = same_next found (is_wanted bag tag) same from next is; all = All-nil (IsRow bag holds); many = refl })

  -- The next one is there.
  pub next_there : (from id count : ℕ) (rows : List ListedTuple) → AreListed from (Some id) count rows → is_some (get bag id) ≡ true
  next_there from id count rows far = wanted_there tag (get bag id) (next_so (is_wanted bag tag) from (ids rows) id far.first)

  pub one_listed : (found : ℕ → Bool) (from id count : ℕ) (next : Option ℕ) (rows new : List ListedTuple) → ((k : ℕ) → found k ≡ is_wanted bag tag k)
      → AreListed from (Some id) count rows → ids new ≡ ids rows ++ id ∷ []
      → (All (IsRow bag holds) rows → All (IsRow bag holds) new) → IsNext found (id + 1) next → AreListed from next (count + 1) new
  one_listed found from id count next rows new same far put all is =
      let step : id + 1 ≡ suc id = omega arith in
      let later : IsNext (is_wanted bag tag) (suc id) next =
      subst (λ n. IsNext (is_wanted bag tag) n next) step (same_next found (is_wanted bag tag) same (id + 1) next is) in
      record {
        first = subst (λ ns. AreFirst (is_wanted bag tag) from ns next) (sym put) (one_more (is_wanted bag tag) from (ids rows) id next far.first later);
        all = all far.all;
        many = omega (
          arith,
          far.many,
          sym (length-map new (λ (row : ListedTuple). row.id)) ∙ ap length put
              ∙ length-append (ids rows) (id ∷ []),
          length-map rows (λ (row : ListedTuple). row.id),
        );
      }

some_rows : (next : Option ℕ) (rows : List ListedTuple) → IfSome next (λ n. 0 < length rows) → IfSome next (λ n. 0 < length (ids rows))
some_rows None rows some = tt
some_rows (Some n) rows some = omega (arith, some, length-map rows (λ (row : ListedTuple). row.id))

none_after : (next : Option ℕ) (rows : List ListedTuple) → IfSome next (λ n. 0 < length rows) → rows ≡ [] → next ≡ None
none_after None rows some none = refl
none_after (Some n) rows some none = absurd (omega (arith, some, ap length none))

pub page_listed : (bag : FinMap nat_cmp Tuple) (holds : HeldFor) (query : TupleQuery) (count : ℕ) (page : TuplePage)
    → AreListed bag holds query.tag query.from page.next count page.rows.items → count ≤ min query.limit MOST_AT_ONCE
    → IfSome page.next (λ n. 0 < count) → IsPage bag holds query page
page_listed bag holds query count page far few some =
    let shown : IfSome page.next (λ n. 0 < length page.rows.items) = subst (λ n. IfSome page.next (λ _. 0 < n)) (sym far.many) some in
    record {
      first = far.first;
      rows = far.all;
      few = omega (arith, far.many, few);
      within = omega (arith, far.many, few);
      some = none_after page.next page.rows.items shown;
      onward = onward (is_wanted bag query.tag) query.from (ids page.rows.items) page.next far.first (some_rows page.next page.rows.items shown);
    }
