-- What becomes of indexes under keys if one of them changes, or two.
use Rattle.std.proofs.Common.{◌≡◌, ℕ, true, false, cond, Option, Some, None, refl, sym, ap, subst, ◌∙◌, nat_cmp, true≢false}
use Rattle.std.specs.declared.cmp.Ordering.{Ordering}
use Rattle.std.specs.declared.cmp.Ordering.TheVariants.{Less, Equal, Greater}
use Rattle.std.specs.Ordering.{is_eq, ordering_reverse}
use Rattle.std.specs.Cmp.{IsTotalOrder, nat_cmp_total, unsigned_tied, unsigned_Decides}
use Rattle.std.specs.Bool.{Decides}
use Rattle.std.proofs.lemmas.Bool.Decides.{Decides-at}
use Rattle.std.specs.BTreeMap.{BTreeMap, UpdatesBy, get, get_by}
use Rattle.linda_bag.specs.Filing.{Rows, with_row, IsBare, Refiles, IsIndexed, row_at, placed, rows_at, IsFound}
use Rattle.linda_bag.specs.Filing.{IsFiled, RefilesFound, RefilesUnder, RefilesBy, RefilesAt}

-- An order that answers "equal", and one that does not.
pub tied : (o : Ordering) → is_eq o ≡ true → o ≡ Equal
tied Less e = absurd (true≢false (sym e))
tied Equal e = refl
tied Greater e = absurd (true≢false (sym e))

itself : (o : Ordering) → o ≡ ordering_reverse o → is_eq o ≡ true
itself Less e = cc
itself Equal e = refl
itself Greater e = cc

pub apart_from : (r o : Ordering) → r ≡ o → (r ≡ Equal → ⊥) → is_eq o ≡ false
apart_from r Less same not = refl
apart_from r Equal same not = absurd (not same)
apart_from r Greater same not = refl

pub id_told : (x y : ℕ) → Decides (is_eq (nat_cmp x y)) (x ≡ y)
id_told x y = Decides-at _ _ (unsigned_tied x y) (unsigned_Decides x y)

-- A row that is there already may be written again.
pub same_row : {T : Type 0} (rows : Rows T) (id : ℕ) (row : Option T) → rows id ≡ row → (q : ℕ) → with_row rows id row q ≡ rows q
same_row rows id row there q =
    elim (is_eq (nat_cmp id q)) as (λ b. is_eq (nat_cmp id q) ≡ b → cond b row (rows q) ≡ rows q) [
      | true ↦ λ is. sym there ∙ ap rows ((id_told id q).0 is)
      | false ↦ λ is. refl
    ] refl

pub same_rows : {T : Type 0} (rows : Rows T) (id : ℕ) (row : Option T) → rows id ≡ row → with_row rows id row ≡ rows
same_rows rows id row there = λ j. λ q. same_row rows id row there q j

-- So there are rows still.
pub still_some : {T : Type 0} (rows : Rows T) (id : ℕ) (row : Option T) → rows id ≡ row → (IsBare rows → ⊥) → IsBare (with_row rows id row) → ⊥
still_some rows id row there some bare = some (λ q. sym (same_row rows id row there q) ∙ bare q)

-- The row of a place, under its key and under another.
module _ {K T : Type 0} (cmp : K → K → Ordering) (k : K) (row : T) (q : K) where
  at_place : is_eq (cmp k q) ≡ true → row_at cmp q (Some (k, row)) ≡ Some row
  at_place tie = ap (λ b. cond b (Some row) None) tie

  past_place : is_eq (cmp k q) ≡ false → row_at cmp q (Some (k, row)) ≡ None
  past_place off = ap (λ b. cond b (Some row) None) off

module _ {K : Type 0} {cmp : K → K → Ordering} (order : IsTotalOrder cmp) where
  -- Keys that the order ties are one key.
  one_key : (k q : K) → is_eq (cmp k q) ≡ true → cmp k ≡ cmp q
  one_key k q tie = λ j. λ x. order.congr k q x (tied (cmp k q) tie) j

  tied_back : (k q : K) → is_eq (cmp k q) ≡ true → is_eq (cmp q k) ≡ true
  tied_back k q tie = ap is_eq (order.antisymm q k ∙ ap ordering_reverse (tied (cmp k q) tie))

  -- A key is tied to itself.
  pub key_itself : (k : K) → is_eq (cmp k k) ≡ true
  key_itself k = itself (cmp k k) (order.antisymm k k)

  tied_place : {T : Type 0} (i k : K) (row : T) (q : K) → is_eq (cmp i k) ≡ true → row_at cmp q (Some (i, row)) ≡ row_at cmp q (Some (k, row))
  tied_place i k row q tie = ap (λ (f : K → Ordering). cond (is_eq (f q)) (Some row) None) (one_key i k tie)

  -- Under keys that differ no third key is tied to both.
  one_of_two : (i k q : K) → is_eq (cmp i k) ≡ false → is_eq (cmp k q) ≡ true → is_eq (cmp i q) ≡ false
  one_of_two i k q differ tie =
      elim (is_eq (cmp i q)) as (λ b. is_eq (cmp i q) ≡ b → b ≡ false) [
        | true ↦ λ is. absurd (true≢false (sym (ap (λ (f : K → Ordering). is_eq (f k)) (one_key i q is) ∙ tied_back k q tie) ∙ differ))
        | false ↦ λ is. refl
      ] refl

module _ {S T : Type 0} (Has : S → Rows T → Type 0) where
  -- If rows already have this under the id, an index of them is also an index of the rows with it written again.
  again : (id_index : Option S) (rows : Rows T) (id : ℕ) (row : Option T) → rows id ≡ row
      → IsIndexed Has id_index rows → IsIndexed Has id_index (with_row rows id row)
  again id_index rows id row there = subst (IsIndexed Has id_index) (sym (same_rows rows id row there))

  -- An index that has rows still is no empty one.
  pub kept_id_index : (id_index new : S) (id : ℕ) (row : Option T) → Refiles (Has id_index) (Has new) id row row
      → Refiles (IsIndexed Has (Some id_index)) (IsIndexed Has (Some new)) id row row
  kept_id_index id_index new id row kept rows there known = (kept rows there known.0, still_some rows id row there known.1)

  -- An index that the id was filed on has rows.
  pub set_id_index : (id_index new : S) (id : ℕ) (before : Option T) (row : T) → Refiles (Has id_index) (Has new) id before (Some row)
      → Refiles (IsIndexed Has (Some id_index)) (IsIndexed Has (Some new)) id before (Some row)
  set_id_index id_index new id before row put rows there known = (
    put rows there known.0,
    λ bare. some_here (sym (ap (λ b. cond b (Some row) (rows id)) (itself (nat_cmp id id) (nat_cmp_total.antisymm id id))) ∙ bare id),
  )
    where
      some_here : Some row ≡ None → ⊥
      some_here e = cc

  -- An index was written through what a map lent of it.
  pub written : {K : Type 0} (cmp : K → K → Ordering) (old new : BTreeMap K S) (k : K) (id_index id_index' : S) (id : ℕ) (b a : Option T)
      → Some id_index ≡ get cmp old k → UpdatesBy cmp (cmp k) old new (Some id_index')
      → Refiles (IsIndexed Has (Some id_index)) (IsIndexed Has (Some id_index')) id b a → RefilesAt cmp Has old new k id b a
  written cmp old new k id_index id_index' id b a was updates refiles = record {
    here = subst (λ s. Refiles (IsIndexed Has s) (IsIndexed Has (get cmp new k)) id b a) was
        (subst (λ s. Refiles (IsIndexed Has (Some id_index)) (IsIndexed Has s) id b a) (sym updates.1) refiles);
    apart = updates.2;
  }

  -- No index changed.
  pub kept_at : {K : Type 0} (cmp : K → K → Ordering) (m : BTreeMap K S) (k : K) (id : ℕ) (b : Option T) → RefilesAt cmp Has m m k id b b
  kept_at cmp m k id b = record {
    here = λ rows there known. again (get cmp m k) rows id b there known;
    apart = λ q off. refl;
  }

  -- Nothing that is found changed, and the id was filed here by nothing.
  pub same_found : {K : Type 0} (cmp : K → K → Ordering) (id_index_at : K → Option S) (id : ℕ) → RefilesFound cmp Has id_index_at id_index_at id None None
  same_found cmp id_index_at id parts there filed q = again (id_index_at q) (parts q) id None (there q) (filed q)

  pub kept_under : {K : Type 0} (cmp : K → K → Ordering) (id_index_at : K → Option S) (k : K) (id : ℕ) (b : Option T)
      → RefilesUnder cmp Has id_index_at id_index_at k id b b
  kept_under cmp id_index_at k id b = record {
    here = λ q tie rows there known. again (id_index_at q) rows id b there known;
    apart = λ q off. refl;
  }

  pub no_id_index : {K : Type 0} (cmp : K → K → Ordering) (m : BTreeMap K S) (id : ℕ) → RefilesBy cmp Has m m id None None
  no_id_index cmp m id = same_found cmp (get cmp m) id

module _ {K S T : Type 0} {cmp : K → K → Ordering} (order : IsTotalOrder cmp) {Has : S → Rows T → Type 0} where
  -- The index that changed is under each key that the order ties to its own.
  pub one_id_index : {old new : BTreeMap K S} {k : K} {id : ℕ} {b a : Option T} → RefilesAt cmp Has old new k id b a
      → RefilesUnder cmp Has (get cmp old) (get cmp new) k id b a
  one_id_index {old} {new} {k} {id} {b} {a} change = record {
    here = λ q tie. subst (λ (f : K → Ordering). Refiles (IsIndexed Has (get_by f old)) (IsIndexed Has (get_by f new)) id b a)
        (one_key order k q tie) change.here;
    apart = change.apart;
  }

  past_key : {old new : K → Option S} {k : K} {id : ℕ} {b a : Option T} → RefilesUnder cmp Has old new k id b a
      → (q : K) → is_eq (cmp k q) ≡ false → (rows : Rows T) → IsIndexed Has (old q) rows → IsIndexed Has (new q) rows
  past_key change q apart rows = subst (λ s. IsIndexed Has s rows) (sym (change.apart q apart))

  -- One index changed: what it had under the id is `before`, what it has is `after`, and these say nothing of other keys.
  found_one : {old new : K → Option S} {k : K} {id : ℕ} {b a : Option T} → RefilesUnder cmp Has old new k id b a → (before after : Option (K × T))
      → ((q : K) → is_eq (cmp k q) ≡ true → (row_at cmp q before ≡ b) × (row_at cmp q after ≡ a))
      → ((q : K) → is_eq (cmp k q) ≡ false → row_at cmp q after ≡ row_at cmp q before) → RefilesFound cmp Has old new id before after
  found_one {old} {new} {k} {id} {b} {a} change before after at apart parts there filed q =
      elim (is_eq (cmp k q)) as (λ t. is_eq (cmp k q) ≡ t → IsIndexed Has (new q) (with_row (parts q) id (row_at cmp q after))) [
        | true ↦ λ tie.
            let known = at q tie in
            subst (λ row. IsIndexed Has (new q) (with_row (parts q) id row)) (sym known.1) (change.here q tie (parts q) (there q ∙ known.0) (filed q))
        | false ↦ λ off.
            again Has (new q) (parts q) id (row_at cmp q after) (there q ∙ sym (apart q off)) (past_key change q off (parts q) (filed q))
      ] refl

  -- The id was taken from an index; it was put on one, or was not, and was nowhere before.
  pub taken : {old new : K → Option S} {k : K} {id : ℕ} {row : T} → RefilesUnder cmp Has old new k id (Some row) None
      → RefilesFound cmp Has old new id (Some (k, row)) None
  taken {k = k} {row = row} change =
      found_one change (Some (k, row)) None (λ q tie. (at_place cmp k row q tie, refl)) (λ q off. sym (past_place cmp k row q off))

  pub put_first : {old new : K → Option S} {k : K} {id : ℕ} {row : T} → RefilesUnder cmp Has old new k id None (Some row)
      → RefilesFound cmp Has old new id None (Some (k, row))
  put_first {k = k} {row = row} change =
      found_one change None (Some (k, row)) (λ q tie. (refl, at_place cmp k row q tie)) (λ q off. past_place cmp k row q off)

  pub put_none : {old new : K → Option S} {k : K} {id : ℕ} → RefilesUnder cmp Has old new k id None None → RefilesFound cmp Has old new id None None
  put_none change = found_one change None None (λ q tie. (refl, refl)) (λ q off. refl)

  module _ {old new : K → Option S} (i k : K) {id : ℕ} (was : T) where
    -- The id was under a tied key, and was filed anew there, or was not.
    pub put_again : (row : T) → is_eq (cmp i k) ≡ true → RefilesUnder cmp Has old new k id (Some was) (Some row)
        → RefilesFound cmp Has old new id (Some (i, was)) (Some (k, row))
    put_again row same change =
        found_one change (Some (i, was)) (Some (k, row))
        (λ q tie. (tied_place order i k was q same ∙ at_place cmp k was q tie, at_place cmp k row q tie))
        (λ q off. past_place cmp k row q off ∙ sym (tied_place order i k was q same ∙ past_place cmp k was q off))

    pub kept_again : is_eq (cmp i k) ≡ true → RefilesUnder cmp Has old new k id (Some was) (Some was)
        → RefilesFound cmp Has old new id (Some (i, was)) (Some (i, was))
    kept_again same change =
        found_one change (Some (i, was)) (Some (i, was))
        (λ q tie. let there = tied_place order i k was q same ∙ at_place cmp k was q tie in (there, there))
        (λ q off. refl)

    -- The id was under a key that differs, and could not be filed under this one.
    pub kept_elsewhere : is_eq (cmp i k) ≡ false → RefilesUnder cmp Has old new k id None None → RefilesFound cmp Has old new id (Some (i, was)) (Some (i, was))
    kept_elsewhere differ change =
        found_one change (Some (i, was)) (Some (i, was))
        (λ q tie. let none = past_place cmp i was q (one_of_two order i k q differ tie) in (none, none))
        (λ q off. refl)

  -- Two indexes changed, under keys that differ: the id was put on one, and taken from the other.
  pub moved : {old mid new : K → Option S} (i k : K) {id : ℕ} (was row : T) → is_eq (cmp i k) ≡ false → RefilesUnder cmp Has old mid k id None (Some row)
      → RefilesUnder cmp Has mid new i id (Some was) None → RefilesFound cmp Has old new id (Some (i, was)) (Some (k, row))
  moved {old} {mid} {new} i k {id} was row differ put gone parts there filed q =
      elim (is_eq (cmp k q)) as (λ t. is_eq (cmp k q) ≡ t → IsIndexed Has (new q) (with_row (parts q) id (cond t (Some row) None))) [
        | true ↦ λ tie.
            let off = one_of_two order i k q differ tie in
            past_key gone q off _ (put.here q tie (parts q) (there q ∙ past_place cmp i was q off) (filed q))
        | false ↦ λ off.
            let same = past_key put q off (parts q) (filed q) in
            elim (is_eq (cmp i q)) as (λ t. is_eq (cmp i q) ≡ t → IsIndexed Has (new q) (with_row (parts q) id None)) [
              | true ↦ λ tie. gone.here q tie (parts q) (there q ∙ at_place cmp i was q tie) same
              | false ↦ λ past. again Has (new q) (parts q) id None (there q ∙ past_place cmp i was q past) (past_key gone q past (parts q) same)
            ] refl
      ] refl

-- If each row has the key that `key_of` gives it, the rows change as their places do.
module _ {K S T : Type 0} (cmp : K → K → Ordering) (Has : S → Rows T → Type 0) (key_of : T
    → Option K) (old new : K → Option S) (id : ℕ) (before after : Option T) where
  abbrev at : K → Option T → Option T
  at k row = row_at cmp k (placed key_of row)

  refiled : RefilesFound cmp Has old new id (placed key_of before) (placed key_of after)
      → Refiles (IsFound cmp Has key_of old) (IsFound cmp Has key_of new) id before after
  refiled change rows there filed q =
      subst (IsIndexed Has (new q)) (λ j. λ x. same x j)
      (change (λ k. rows_at cmp key_of k rows) (λ k. ap (at k) there) filed q)
    where
      same : (x : ℕ) → cond (is_eq (nat_cmp id x)) (at q after) (at q (rows x)) ≡ at q (cond (is_eq (nat_cmp id x)) after (rows x))
      same x =
          elim (is_eq (nat_cmp id x)) as (λ b. cond b (at q after) (at q (rows x)) ≡ at q (cond b after (rows x))) [
            | true ↦ refl
            | false ↦ refl
          ]

  -- The same if their places are given by other names.
  pub refound_as : (b a : Option (K × T)) → b ≡ placed key_of before → a ≡ placed key_of after
      → RefilesFound cmp Has old new id b a → Refiles (IsFound cmp Has key_of old) (IsFound cmp Has key_of new) id before after
  refound_as b a was is change =
      refiled (subst (λ x. RefilesFound cmp Has old new id (placed key_of before) x) is (subst (λ x. RefilesFound cmp Has old new id x a) was change))

pub refiled_as : {K S T : Type 0} (cmp : K → K → Ordering) (Has : S → Rows T → Type 0) (key_of : T → Option K) (old new : BTreeMap K S) (id : ℕ)
    (before after : Option T) (b a : Option (K × T)) → b ≡ placed key_of before → a ≡ placed key_of after
    → RefilesBy cmp Has old new id b a → Refiles (IsFiled cmp Has key_of old) (IsFiled cmp Has key_of new) id before after
refiled_as cmp Has key_of old new = refound_as cmp Has key_of (get cmp old) (get cmp new)
