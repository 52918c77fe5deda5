-- Sets under integers, by the codes of the integers.
use Rattle.std.proofs.Common.{◌≡◌, ℕ, ℤ, ◌^◌, ◌==◌, Bool, true, false, cond, ◌↔◌, Option, Some, None, is_some, refl, sym, ap, subst, ◌∙◌, nat_cmp, true≢false}
use Rattle.std.specs.Prelude.{pos, negsuc, ◌-ℤ◌, IsTrue}
use Rattle.std.proofs.Math.IntN.{+ℤ-neg_ℤ_cancel}
use Rattle.std.specs.Ordering.{is_eq, int_cmp}
use Rattle.std.specs.Cmp.{nat_cmp_total, int_cmp_total, eq_by_cmp_equiv}
use Rattle.std.proofs.lemmas.Map.Lookups.{exact_signed}
use Rattle.std.specs.FinMap.{FinMap, empty, get, insert, remove, len, empty_of_len, len-empty}
use Rattle.linda_map_laws.proofs.MapLaws.{same_map, get_inserted, get_removed, get_empty}
use Rattle.linda_bag.specs.declared.ids.Ids.{Ids}
use Rattle.linda_bag.specs.declared.ids.Ids.TheVariants as ids
use Rattle.linda_bag.specs.Filing.{Rows, with_row, IsBare, Refiles, IsIndexed, RefilesUnder}
use Rattle.linda_bag.specs.Ids.{IsOf, has_id}
use Rattle.linda_bag.specs.Ints.{counted, ids_in, ids_at}
use Rattle.linda_bag.proofs.BareLaws.{no_such}
use Rattle.linda_bag.proofs.FilingLaws.{tied, key_itself, id_told}
use Rattle.linda_bag.proofs.OrderLaws.{number_itself}
use Rattle.linda_bag.proofs.TuplesLaws.{told}

abbrev Sets : Type 0
Sets = FinMap nat_cmp Ids

one_int : (n q : ℤ) → is_eq (int_cmp n q) ≡ true → n ≡ q
one_int n q tie = exact_signed n q (tied (int_cmp n q) tie)

-- Integers that are counted alike are one.
same_int : (n q : ℤ) → counted n ≡ counted q → n ≡ q
same_int n q same = sym (+ℤ-neg_ℤ_cancel n (pos (2 ^ 63))) ∙ ap (λ z. z -ℤ pos (2 ^ 63)) same ∙ +ℤ-neg_ℤ_cancel q (pos (2 ^ 63))

-- No set is under an integer, if there is none at all.
pub none_at : (q : ℤ) → ids_at empty q ≡ None
none_at q = by (counted q)
  where
    by : (z : ℤ) → ids_in empty z ≡ None
    by (pos code) = get_empty code
    by (negsuc below) = refl

-- Each code is that of an integer.
pub bare_ints : (sets : Sets) → (len sets ≡ 0) ↔ ((q : ℤ) → ids_at sets q ≡ None)
bare_ints sets = (
  (λ none q. subst (λ m. ids_at m q ≡ None) (sym (empty_of_len sets none)) (none_at q)),
  (λ none. ap len (same_map sets empty (λ code. sym (ap (ids_in sets) (uncounted code)) ∙ none (pos code -ℤ pos (2 ^ 63)) ∙ sym (get_empty code)))
      ∙ len-empty nat_cmp Ids),
)
  where
    uncounted : (code : ℕ) → counted (pos code -ℤ pos (2 ^ 63)) ≡ pos code
    uncounted code = Rattle.std.proofs.Math.IntN.-ℤ-+ℤ_cancel (pos code) (pos (2 ^ 63))

module _ (n : ℤ) (code : ℕ) (is : pos code ≡ counted n) where
  pub at_code : (sets : Sets) → ids_at sets n ≡ get sets code
  at_code sets = sym (ap (ids_in sets) is)

  -- What changed under the code of an integer changed under that integer.
  pub under_int : {T : Type 0} (old new : Sets) {id : ℕ} {b a : Option T}
      → RefilesUnder nat_cmp IsOf (get old) (get new) code id b a → RefilesUnder int_cmp IsOf (ids_at old) (ids_at new) n id b a
  under_int {T} old new {id} {b} {a} change = record {
    here = λ q tie.
        subst (λ k. Refiles (IsIndexed IsOf (ids_at old k)) (IsIndexed IsOf (ids_at new k)) id b a) (one_int n q tie)
        (subst (λ s. Refiles (IsIndexed IsOf s) (IsIndexed IsOf (ids_at new n)) id b a) (sym (at_code old))
        (subst (λ s. Refiles (IsIndexed IsOf (get old code)) (IsIndexed IsOf s) id b a) (sym (at_code new)) (change.here code (number_itself code))));
    apart = λ q off. past q off (counted q) refl;
  }
    where
      differ : (q : ℤ) → is_eq (int_cmp n q) ≡ false → (other : ℕ) → counted q ≡ pos other → is_eq (nat_cmp code other) ≡ false
      differ q off other same =
          elim (is_eq (nat_cmp code other)) as (λ t. is_eq (nat_cmp code other) ≡ t → t ≡ false) [
            | true ↦ λ tie.
                let one : n ≡ q = same_int n q (sym is ∙ ap pos ((id_told code other).0 tie) ∙ sym same) in
                absurd (true≢false (sym (key_itself int_cmp_total n) ∙ ap (λ k. is_eq (int_cmp n k)) one ∙ off))
            | false ↦ λ apart. refl
          ] refl

      past : (q : ℤ) → is_eq (int_cmp n q) ≡ false → (z : ℤ) → counted q ≡ z → ids_in new z ≡ ids_in old z
      past q off (pos other) same = change.apart other (differ q off other same)
      past q off (negsuc below) same = refl

module _ {T : Type 0} where
  -- What is under one code changed.
  pub under_code : (old new : Sets) (code id : ℕ) (w : Option Ids) (b a : Option T) → ((q : ℕ) → get new q ≡ cond (q == code) w (get old q))
      → Refiles (IsIndexed IsOf (get old code)) (IsIndexed IsOf w) id b a → RefilesUnder nat_cmp IsOf (get old) (get new) code id b a
  under_code old new code id w b a is change = record {
    here = λ q tie.
        subst (λ k. Refiles (IsIndexed IsOf (get old k)) (IsIndexed IsOf (get new k)) id b a) ((id_told code q).0 tie)
        (subst (λ s. Refiles (IsIndexed IsOf (get old code)) (IsIndexed IsOf s) id b a)
        (sym (is code ∙ ap (λ t. cond t w (get old code)) (sym (told code code) ∙ number_itself code))) change);
    apart = λ q off. is q ∙ ap (λ t. cond t w (get old q)) (sym (told code q) ∙ off);
  }

  -- No set is there: it is made of the id by itself.
  only : (id : ℕ) (b : Option T) (row : T) → Refiles IsBare (IsIndexed IsOf (Some (ids.One id))) id b (Some row)
  only id b row rows there bare = (
    (λ q. (eq_by_cmp_equiv nat_cmp_total).symm q id ∙ pushed (is_eq (nat_cmp id q)) (rows q) (bare q)),
    (λ none. true≢false (ap is_some (sym (ap (λ b. cond b (Some row) (rows id)) (number_itself id)) ∙ none id))),
  )
    where
      pushed : (b : Bool) (o : Option T) → o ≡ None → b ≡ is_some (cond b (Some row) o)
      pushed true o none = refl
      pushed false o none = sym (ap is_some none)

  pub made : (old new : Sets) (code id : ℕ) (b : Option T) (row : T) → get old code ≡ None
      → new ≡ insert old code (ids.One id) → RefilesUnder nat_cmp IsOf (get old) (get new) code id b (Some row)
  made old new code id b row none is =
      under_code old new code id (Some (ids.One id)) b (Some row)
      (λ q. ap (λ m. get m q) is ∙ get_inserted old code (ids.One id) q)
      (subst (λ s. Refiles (IsIndexed IsOf s) (IsIndexed IsOf (Some (ids.One id))) id b (Some row)) (sym none) (only id b row))

  module _ (old new : Sets) (code id : ℕ) (s : Ids) (b a : Option T) (was : Some s ≡ get old code) where
    at_was : (w : Option Ids) → Refiles (IsIndexed IsOf (Some s)) (IsIndexed IsOf w) id b a → Refiles (IsIndexed IsOf (get old code)) (IsIndexed IsOf w) id b a
    at_was w = subst (λ o. Refiles (IsIndexed IsOf o) (IsIndexed IsOf w) id b a) was

    twice : (q : ℕ) (x : Ids) (w : Option Ids) → cond (q == code) w (get (insert old code x) q) ≡ cond (q == code) w (get old q)
    twice q x w = ap (cond (q == code) w) (get_inserted old code x q) ∙ by (q == code)
      where
        by : (t : Bool) → cond t w (cond t (Some x) (get old q)) ≡ cond t w (get old q)
        by true = refl
        by false = refl

    -- The set that is there was put into its place again, or was taken away.
    pub rewritten : (x s' : Ids) → new ≡ insert (insert old code x) code s'
        → Refiles (IsIndexed IsOf (Some s)) (IsIndexed IsOf (Some s')) id b a → RefilesUnder nat_cmp IsOf (get old) (get new) code id b a
    rewritten x s' is change =
        under_code old new code id (Some s') b a
        (λ q. ap (λ m. get m q) is ∙ get_inserted (insert old code x) code s' q ∙ twice q x (Some s'))
        (at_was (Some s') change)

    pub gone : (x : Ids) → new ≡ remove (insert old code x) code → Refiles (IsIndexed IsOf (Some s)) IsBare id b a
        → RefilesUnder nat_cmp IsOf (get old) (get new) code id b a
    gone x is change =
        under_code old new code id None b a
        (λ q. ap (λ m. get m q) is ∙ get_removed (insert old code x) code q ∙ twice q x None)
        (at_was None change)

  module _ (s s' : Ids) (id : ℕ) (b a : Option T) (bare : Bool) (change : Refiles (IsOf s) (IsOf s') id b a)
      (test : (rows : Rows T) → IsOf s' rows → IsTrue bare ↔ IsBare rows) where
    pub emptied : bare ≡ true → Refiles (IsIndexed IsOf (Some s)) IsBare id b a
    emptied is rows there known = (test (with_row rows id a) (change rows there known.0)).0 is

    pub not_emptied : bare ≡ false → Refiles (IsIndexed IsOf (Some s)) (IsIndexed IsOf (Some s')) id b a
    not_emptied off rows there known =
        let of = change rows there known.0 in
        (of, λ none. true≢false (sym ((test (with_row rows id a) of).1 none) ∙ off))

  -- A set of the id by itself was taken away.
  pub only_taken : (old new : Sets) (code id : ℕ) (s : Ids) (b : Option T) → Some s ≡ get old code
      → ((q : ℕ) → has_id s q ≡ is_eq (nat_cmp q id)) → new ≡ remove old code → RefilesUnder nat_cmp IsOf (get old) (get new) code id b None
  only_taken old new code id s b was alone is =
      under_code old new code id None b None
      (λ q. ap (λ m. get m q) is ∙ get_removed old code q)
      (subst (λ o. Refiles (IsIndexed IsOf o) IsBare id b None) was bare)
    where
      by : (t : Bool) (o : Option T) → is_some o ≡ t → cond t None o ≡ None
      by true o e = refl
      by false o e = no_such o e

      bare : Refiles (IsIndexed IsOf (Some s)) IsBare id b None
      bare rows there known q = by (is_eq (nat_cmp id q)) (rows q) (sym (known.0 q) ∙ alone q ∙ (eq_by_cmp_equiv nat_cmp_total).symm q id)

  -- If there is no set, the id was not filed.
  pub not_there : (sets : Sets) (code id : ℕ) (row : T) (a : Option T) → get sets code ≡ None
      → RefilesUnder nat_cmp IsOf (get sets) (get sets) code id (Some row) a
  not_there sets code id row a none = record {
    here = λ q tie rows there known.
        let bare = subst (λ s. IsIndexed IsOf s rows) (ap (get sets) (sym ((id_told code q).0 tie)) ∙ none) known in
        absurd (true≢false (ap is_some (sym there ∙ bare id)));
    apart = λ q off. refl;
  }
