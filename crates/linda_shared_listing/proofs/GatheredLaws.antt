-- Pieces that are listed one after the other.
use Rattle.std.proofs.Common.{◌≡◌, ◌≤◌, ◌<◌, ◌++◌, ℕ, suc, Bool, true, false, List, [], ◌∷◌, Option, None, Some, map}
use Rattle.std.proofs.Common.{inl, inr, refl, sym, ap, subst, ◌∙◌, true≢false, arith}
use Rattle.std.specs.Prelude.{IfSome, All, Contains}
use Rattle.std.proofs.lemmas.Bool.{cases_lt}
use Rattle.std.proofs.lemmas.List.{map-append}
use Rattle.std.proofs.lemmas.List.Elements.{All-pop, Contains-append_left, Contains-append_right}
use Rattle.linda_tuple.specs.declared.atom.Atom.{Atom}
use Rattle.linda_shared_listing.specs.Firsts.{AreFirst}
use Rattle.linda_hold.specs.Holds.{HeldFor}
use Rattle.linda_shared_listing.specs.declared.listed.ListedTuple.{ListedTuple}
use Rattle.linda_shared_listing.specs.declared.listed.TupleQuery.{TupleQuery}
use Rattle.linda_shared_listing.specs.declared.listed.TuplePage.{TuplePage}
use Rattle.linda_shared_listing.specs.Listing.{is_wanted, IsPage}
use Rattle.linda_shared_listing.specs.Gathered.{Tuples, AreRising, IsGathered}

module _ (is_so : ℕ → Bool) where
  -- The first numbers of which something is so rise,
  first_rise : (from : ℕ) (ids : List ℕ) (next : Option ℕ) → AreFirst is_so from ids next → AreRising from ids next
  first_rise from [] None first = tt
  first_rise from [] (Some n) first = first.above
  first_rise from (id ∷ ids) next first = (first.0.above, first_rise (suc id) ids next first.1)

  -- and below the next one there are no others.
  first_all : (from : ℕ) (ids : List ℕ) (next : Option ℕ) → AreFirst is_so from ids next → (id : ℕ)
      → from ≤ id → IfSome next (λ n. id < n) → is_so id ≡ true → Contains ids id
  first_all from [] None first id above below so = absurd (true≢false (sym so ∙ first id above))
  first_all from [] (Some n) first id above below so = absurd (true≢false (sym so ∙ first.least id above below))
  first_all from (k ∷ ids) next first id above below so =
      elim (cases_lt id k) [
        | inl lt ↦ absurd (true≢false (sym so ∙ first.0.least id above lt))
        | inr ge ↦ elim (cases_lt k id) [
          | inl gt ↦ Contains-append_right (k ∷ []) ids id (first_all (suc k) ids next first.1 id (omega (arith, gt)) below so)
          | inr le ↦ subst (λ m. Contains (m ∷ ids) id) (same_number id k ge le) (0, omega arith, refl)
        ]
      ]
    where
      same_number : (a b : ℕ) → b ≤ a → a ≤ b → a ≡ b
      same_number a b one other = omega (arith, one, other)

rising_lower : (from at : ℕ) (more : List ℕ) (next : Option ℕ) → from ≤ at → AreRising at more next → AreRising from more next
rising_lower from at [] None low on = tt
rising_lower from at [] (Some n) low on = omega (arith, low, on)
rising_lower from at (id ∷ ids) next low on = (omega (arith, low, on.0), on.1)

rising_on : (from : ℕ) (ids : List ℕ) (at : ℕ) (more : List ℕ) (next : Option ℕ) → AreRising from ids (Some at)
    → AreRising at more next → AreRising from (ids ++ more) next
rising_on from [] at more next rise on = rising_lower from at more next rise on
rising_on from (id ∷ ids) at more next rise on = (rise.0, rising_on (suc id) ids at more next rise.1 on)

module _ (tag : Option Atom) (from : ℕ) where
  pub none_gathered : IsGathered tag from [] [] (Some from)
  none_gathered = record {
    rising = omega arith;
    listed = λ id above below all. absurd (omega (arith, above, below));
  }

  -- One piece more.
  pub gathered_on : (moments : List Tuples) (ids : List ℕ) (at : ℕ) (bag : Tuples) (piece : List ℕ) (next : Option ℕ)
      → IsGathered tag from moments ids (Some at) → AreFirst (is_wanted bag tag) at piece next → IsGathered tag from (moments ++ bag ∷ []) (ids ++ piece) next
  gathered_on moments ids at bag piece next far first = record {
    rising = rising_on from ids at piece next far.rising (first_rise (is_wanted bag tag) at piece next first);
    listed = λ id above below all.
        let both = All-pop (λ (b : Tuples). is_wanted b tag id ≡ true) (moments ++ bag ∷ []) moments (Some bag) refl all in
        elim (cases_lt id at) [
          | inl lt ↦ Contains-append_left ids piece id (far.listed id above lt both.0)
          | inr ge ↦ Contains-append_right ids piece id (first_all (is_wanted bag tag) at piece next first id ge below both.1)
        ];
  }

-- A piece that was a page joins the rows.
pub page_joined : (query : TupleQuery) (from : ℕ) (moments : List Tuples) (bag : Tuples) (holds : HeldFor) (old new : List ListedTuple) (piece : TuplePage)
    → new ≡ old ++ piece.rows.items → IsGathered query.tag from moments (map (λ (row : ListedTuple). row.id) old) (Some query.from)
    → IsPage bag holds query piece → IsGathered query.tag from (moments ++ bag ∷ []) (map (λ (row : ListedTuple). row.id) new) piece.next
page_joined query from moments bag holds old new piece same far page =
    subst (λ (ids : List ℕ). IsGathered query.tag from (moments ++ bag ∷ []) ids piece.next)
    (sym (ap (map (λ (row : ListedTuple). row.id)) same ∙ map-append (λ (row : ListedTuple). row.id) old piece.rows.items))
    (gathered_on query.tag from moments (map (λ (row : ListedTuple). row.id) old) query.from bag
    (map (λ (row : ListedTuple). row.id) piece.rows.items) piece.next far page.first)
