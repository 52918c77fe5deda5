-- What keeps the look-up of numbers by their requests in step when a number is given to a request, or taken from one.
use Rattle.std.proofs.Common.{◌≡◌, ◌≢◌, ◌⊎◌, inl, inr, ℕ, Bool, true, false, cond, Option, None, Some, refl, sym, ap, subst, ◌∙◌, nat_cmp}
use Rattle.std.specs.Ordering.{is_eq}
use Rattle.std.specs.Bool.{Decides}
use Rattle.std.specs.Cmp.{unsigned_tied, unsigned_Decides}
use Rattle.std.proofs.lemmas.Bool.{true≢false}
use Rattle.std.proofs.lemmas.Bool.Decides.{Decides-at}
use Rattle.linda_bag.specs.Filing.{with_row}
use Rattle.linda_hold.specs.declared.request.Request.{Request}
use Rattle.linda_hold.specs.TicketIndex.{Requests, IsNumbered, Sets}
use Rattle.linda_hold.proofs.ListLaws.{request_told}

-- The order decides whether two numbers are the same.
pub number_told : (x y : ℕ) → Decides (is_eq (nat_cmp x y)) (x ≡ y)
number_told x y = Decides-at _ _ (unsigned_tied x y) (unsigned_Decides x y)

either : {P : Type 0} (b : Bool) → Decides b P → P ⊎ (P → ⊥)
either true told = inl (told.0 refl)
either false told = inr (λ p. true≢false (sym (told.1 p)))

-- Two numbers, or two requests, are the same or not.
pub same_number : (i k : ℕ) → (i ≡ k) ⊎ (i ≢ k)
same_number i k = either _ (number_told i k)

pub same_or_not : (p q : Request) → (p ≡ q) ⊎ (p ≢ q)
same_or_not p q = either _ (request_told p q)

module _ {K A : Type 0} (test : K → K → Bool) (told : (x y : K) → Decides (test x y) (x ≡ y)) where
  passed_over : (b : Bool) (w x : A) → (b ≡ true → ⊥) → cond b w x ≡ x
  passed_over true w x not = absurd (not refl)
  passed_over false w x not = refl

  sets : (old new : K → A) (k : K) (w : A) → ((q : K) → new q ≡ cond (test k q) w (old q)) → Sets old new k w
  sets old new k w changed = record {
    here = changed k ∙ ap (λ b. cond b w (old k)) ((told k k).1 refl);
    apart = λ q apart. changed q ∙ passed_over (test k q) w (old q) (λ e. apart ((told k q).0 e));
  }

-- What std's clauses say of a change at a number, and what a row says of one.
pub sets_number : {A : Type 0} (old new : ℕ → A) (k : ℕ) (w : A) → ((q : ℕ) → new q ≡ cond (is_eq (nat_cmp k q)) w (old q)) → Sets old new k w
sets_number = sets (λ x y. is_eq (nat_cmp x y)) number_told

set_row : {A : Type 0} (rows : ℕ → Option A) (k : ℕ) (w : Option A) → Sets rows (with_row rows k w) k w
set_row rows k w = sets_number rows (with_row rows k w) k w (λ q. refl)

module _ {rows : Requests} {u : Request → Option ℕ} (numbered : IsNumbered u rows) (k : ℕ) where
  -- A request loses its number.
  module _ (request : Request) (was : rows k ≡ Some request) {v : Request → Option ℕ} where
    pub numbered_gone : Sets u v request None → IsNumbered v (with_row rows k None)
    numbered_gone out = record {
      there = λ i p e. there i p e (same_number k i) (same_or_not request p);
      back = λ p i e. back p i e (same_number k i) (same_or_not request p);
    }
      where
        row : Sets rows (with_row rows k None) k None
        row = set_row rows k None

        there : (i : ℕ) (p : Request) → with_row rows k None i ≡ Some p → (k ≡ i) ⊎ (k ≢ i) → (request ≡ p) ⊎ (request ≢ p) → v p ≡ Some i
        there i p e (inl same) q = let none : with_row rows k None i ≡ None = subst (λ x. with_row rows k None x ≡ None) same row.here in cc
        there i p e (inr other) (inl same) =
            let old : rows i ≡ Some p = sym (row.apart i other) ∙ e in
            let one : u p ≡ Some i = numbered.there i p old in
            let two : u request ≡ Some k = numbered.there k request was in
            absurd (other (cc))
        there i p e (inr other) (inr apart) = out.apart p apart ∙ numbered.there i p (sym (row.apart i other) ∙ e)

        back : (p : Request) (i : ℕ) → v p ≡ Some i → (k ≡ i) ⊎ (k ≢ i) → (request ≡ p) ⊎ (request ≢ p) → with_row rows k None i ≡ Some p
        back p i e q (inl same) = let none : v p ≡ None = subst (λ x. v x ≡ None) same out.here in cc
        back p i e (inl same) (inr apart) =
            let old : u p ≡ Some i = sym (out.apart p apart) ∙ e in
            let one : rows i ≡ Some p = numbered.back p i old in
            absurd (apart (cc))
        back p i e (inr other) (inr apart) = row.apart i other ∙ numbered.back p i (sym (out.apart p apart) ∙ e)

  -- A number that had no request is given to one that had no number.
  module _ (request : Request) (free : rows k ≡ None) (none : u request ≡ None) {v : Request → Option ℕ} where
    pub numbered_new : Sets u v request (Some k) → IsNumbered v (with_row rows k (Some request))
    numbered_new put = record {
      there = λ i p e. there i p e (same_number k i) (same_or_not request p);
      back = λ p i e. back p i e (same_number k i) (same_or_not request p);
    }
      where
        row : Sets rows (with_row rows k (Some request)) k (Some request)
        row = set_row rows k (Some request)

        there : (i : ℕ) (p : Request) → with_row rows k (Some request) i ≡ Some p → (k ≡ i) ⊎ (k ≢ i) → (request ≡ p) ⊎ (request ≢ p) → v p ≡ Some i
        there i p e (inl same) (inl agree) = subst (λ x. v x ≡ Some i) agree (subst (λ x. v request ≡ Some x) same put.here)
        there i p e (inl same) (inr apart) =
            let now : with_row rows k (Some request) i ≡ Some request = subst (λ x. with_row rows k (Some request) x ≡ Some request) same row.here in
            absurd (apart (cc))
        there i p e (inr other) q =
            let one : u p ≡ Some i = numbered.there i p (sym (row.apart i other) ∙ e) in
            elim q as (λ _. v p ≡ Some i) [
              | inl agree ↦ let empty : u p ≡ None = subst (λ x. u x ≡ None) agree none in cc
              | inr apart ↦ put.apart p apart ∙ one
            ]

        back : (p : Request) (i : ℕ) → v p ≡ Some i → (k ≡ i) ⊎ (k ≢ i) → (request ≡ p) ⊎ (request ≢ p) → with_row rows k (Some request) i ≡ Some p
        back p i e (inl same) (inl agree) =
            subst (λ x. with_row rows k (Some request) x ≡ Some p) same (subst (λ x. with_row rows k (Some request) k ≡ Some x) agree row.here)
        back p i e (inr other) (inl agree) =
            let now : v p ≡ Some k = subst (λ x. v x ≡ Some k) agree put.here in
            absurd (other (cc))
        back p i e q (inr apart) =
            let one : rows i ≡ Some p = numbered.back p i (sym (put.apart p apart) ∙ e) in
            elim q as (λ _. with_row rows k (Some request) i ≡ Some p) [
              | inl same ↦ let empty : rows i ≡ None = subst (λ x. rows x ≡ None) same free in cc
              | inr other ↦ row.apart i other ∙ one
            ]

  -- A number goes over from the request that had it to one that had none.
  module _ (old request : Request) (was : rows k ≡ Some old) (none : u request ≡ None) {mid v : Request → Option ℕ} where
    pub numbered_over : Sets u mid request (Some k) → Sets mid v old None → IsNumbered v (with_row rows k (Some request))
    numbered_over put out = record {
      there = λ i p e. there i p e (same_number k i);
      back = λ p i e. back p i e (same_or_not old p) (same_or_not request p);
    }
      where
        row : Sets rows (with_row rows k (Some request)) k (Some request)
        row = set_row rows k (Some request)

        left : u old ≡ Some k
        left = numbered.there k old was

        there : (i : ℕ) (p : Request) → with_row rows k (Some request) i ≡ Some p → (k ≡ i) ⊎ (k ≢ i) → v p ≡ Some i
        there i p e (inl same) =
            let two : u old ≡ Some k = left in
            let now : v request ≡ Some k = out.apart request (λ is. let gone : u old ≡ None = subst (λ x. u x ≡ None) (sym is) none in cc) ∙ put.here in
            let other : with_row rows k (Some request) i ≡ Some request = subst (λ x. with_row rows k (Some request) x ≡ Some request) same row.here in
            let agree : request ≡ p = cc in
            subst (λ x. v x ≡ Some i) agree (subst (λ x. v request ≡ Some x) same now)
        there i p e (inr other) =
            let one : u p ≡ Some i = numbered.there i p (sym (row.apart i other) ∙ e) in
            out.apart p (λ is. let two : u p ≡ Some k = subst (λ x. u x ≡ Some k) is left in other (cc))
            ∙ put.apart p (λ is. let gone : u p ≡ None = subst (λ x. u x ≡ None) is none in cc)
            ∙ one

        back : (p : Request) (i : ℕ) → v p ≡ Some i → (old ≡ p) ⊎ (old ≢ p) → (request ≡ p) ⊎ (request ≢ p) → with_row rows k (Some request) i ≡ Some p
        back p i e (inl gone) q = let empty : v p ≡ None = subst (λ x. v x ≡ None) gone out.here in cc
        back p i e (inr kept) (inl agree) =
            let now : mid p ≡ Some k = subst (λ x. mid x ≡ Some k) agree put.here in
            let still : mid p ≡ Some i = sym (out.apart p kept) ∙ e in
            let same : k ≡ i = cc in
            subst (λ x. with_row rows k (Some request) x ≡ Some p) same (subst (λ x. with_row rows k (Some request) k ≡ Some x) agree row.here)
        back p i e (inr kept) (inr apart) =
            let one : rows i ≡ Some p = numbered.back p i (sym (put.apart p apart) ∙ sym (out.apart p kept) ∙ e) in
            row.apart i (λ is. let two : rows i ≡ Some old = subst (λ x. rows x ≡ Some old) is was in kept (cc)) ∙ one
