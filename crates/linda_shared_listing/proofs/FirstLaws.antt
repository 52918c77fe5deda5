-- The first numbers of which something is so: one more of them, and those of which one of two things is so.
use Rattle.std.proofs.Common.{◌≡◌, ◌≤◌, ◌<◌, ◌++◌, ◌||◌, ℕ, suc, Bool, true, false, List, [], ◌∷◌, Option, None, Some}
use Rattle.std.proofs.Common.{length, inl, inr, refl, ap, subst, ◌∙◌, arith}
use Rattle.std.specs.Prelude.{IfSome, min}
use Rattle.std.proofs.lemmas.Bool.{cases_lt}
use Rattle.linda_shared_listing.specs.Firsts.{IsLeast, IsNext, AreFirst, lesser_of}

module _ (is_so : ℕ → Bool) where
  pub one_more : (from : ℕ) (numbers : List ℕ) (number : ℕ) (next : Option ℕ) → AreFirst is_so from numbers (Some number)
      → IsNext is_so (suc number) next → AreFirst is_so from (numbers ++ number ∷ []) next
  one_more from [] number next first later = (first, later)
  one_more from (n ∷ ns) number next first later = (first.0, one_more (suc n) ns number next first.1 later)

  -- It is so of the next one,
  pub next_so : (from : ℕ) (numbers : List ℕ) (number : ℕ) → AreFirst is_so from numbers (Some number) → is_so number ≡ true
  next_so from [] number first = first.so
  next_so from (n ∷ ns) number first = next_so (suc n) ns number first.1

  below : (from : ℕ) (numbers : List ℕ) (number : ℕ) → AreFirst is_so from numbers (Some number) → from ≤ number
  below from [] number first = first.above
  below from (n ∷ ns) number first = omega (arith, first.0.above, below (suc n) ns number first.1)

  -- which is above the first one.
  pub onward : (from : ℕ) (numbers : List ℕ) (next : Option ℕ) → AreFirst is_so from numbers next
      → IfSome next (λ n. 0 < length numbers) → IfSome next (λ n. from < n)
  onward from numbers None first some = tt
  onward from [] (Some n) first some = absurd (omega (arith, some))
  onward from (m ∷ ns) (Some n) first some = omega (arith, first.0.above, below (suc m) ns n first.1)

-- What is the same of each number has the same next one.
pub same_next : (one other : ℕ → Bool) → ((k : ℕ) → one k ≡ other k) → (from : ℕ) (next : Option ℕ) → IsNext one from next → IsNext other from next
same_next one other same from next is = subst (λ (p : ℕ → Bool). IsNext p from next) (λ i. λ k. same k i) is

module _ (one other : ℕ → Bool) where
  neither : (k : ℕ) → one k ≡ false → other k ≡ false → (one k || other k) ≡ false
  neither k first second = ap (λ b. b || other k) first ∙ second

  first_so : (k : ℕ) → one k ≡ true → (one k || other k) ≡ true
  first_so k first = ap (λ b. b || other k) first

  or_true : (b : Bool) → (b || true) ≡ true
  or_true true = refl
  or_true false = refl

  second_so : (k : ℕ) → other k ≡ true → (one k || other k) ≡ true
  second_so k second = ap (λ b. one k || b) second ∙ or_true (one k)

  -- The next one of which either is so is the lesser of the two.
  pub lesser_next : (from : ℕ) (a b : Option ℕ) → IsNext one from a → IsNext other from b → IsNext (λ k. one k || other k) from (lesser_of a b)
  lesser_next from None None first second = λ k above. neither k (first k above) (second k above)
  lesser_next from None (Some b) first second = record {
    above = second.above;
    so = second_so b second.so;
    least = λ k above before. neither k (first k above) (second.least k above before);
  }
  lesser_next from (Some a) None first second = record {
    above = first.above;
    so = first_so a first.so;
    least = λ k above before. neither k (first.least k above before) (second k above);
  }
  lesser_next from (Some a) (Some b) first second =
      elim (cases_lt a b) [
        | inl lt ↦
            let is : a ≡ min a b = omega (arith, lt) in
            subst (λ n. IsLeast (λ k. one k || other k) from n) is (record {
              above = first.above;
              so = first_so a first.so;
              least = λ k above before. neither k (first.least k above before) (second.least k above (omega (arith, before, lt)));
            })
        | inr le ↦
            let is : b ≡ min a b = omega (arith, le) in
            subst (λ n. IsLeast (λ k. one k || other k) from n) is (record {
              above = second.above;
              so = second_so b second.so;
              least = λ k above before. neither k (first.least k above (omega (arith, before, le))) (second.least k above before);
            })
      ]
