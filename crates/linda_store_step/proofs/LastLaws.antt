-- In a proper list each number of a client belongs to only one deed.
use Rattle.std.proofs.Common.{◌≡◌, ℕ, zero, suc, ◌+◌, ◌-◌, ◌<◌, ◌≤◌, Bool, true, false, cond, ◌==◌, List, [], ◌∷◌, ◌++◌}
use Rattle.std.proofs.Common.{Some, None, Contains, ◌⊎◌, inl, inr, refl, sym, ap, ◌∙◌, subst, arith, append_assoc}
use Rattle.std.proofs.Common.{append-nil, eq-eqb, ne_eqb, length, take, get_or}
use Rattle.std.proofs.lemmas.Bool.{cond-true, cond-false, cases_eq}
use Rattle.std.proofs.lemmas.List.{take_more}
use Rattle.std.proofs.lemmas.List.Elements.{Contains-push_cases}
use Rattle.linda_map_laws.proofs.MapLaws.{get_empty}
use Rattle.linda_book.specs.Entries.{number_in}
use Rattle.linda_store_state.specs.declared.deed.Deed.{Deed}
use Rattle.linda_store_state.specs.Deed.{client_of, number_of}
use Rattle.linda_store_state.specs.State.{empty_state}
use Rattle.linda_store_state.specs.After.{entry_after}
use Rattle.linda_store_state.specs.Proper.{IsProper, IsAllowed}
use Rattle.linda_store_state.proofs.StateLaws.{empty_is_state}
use Rattle.linda_store_state.proofs.DeedLaws.{last_of-joined, last_later}
use Rattle.linda_store_state.proofs.ProperLaws.{Reaches, reached, front_proper}
use Rattle.linda_store_step.specs.Deeds.{last_in, NumbersEachOnce}

nothing_in : {X : Type 0} (x : X) → Contains [] x → ⊥
nothing_in x there = let within = there.1 in omega (arith, within)

-- The last number after one deed more.
pub last_more : (ds : List Deed) (d : Deed) (c : ℕ) → last_in (ds ++ d ∷ []) c ≡ cond (client_of d == c) (number_of d) (last_in ds c)
last_more ds d c = ap (λ o. number_in (entry_after empty_state c o)) (last_of-joined c ds (d ∷ [])) ∙ by (client_of d == c)
  where
    by : (b : Bool) → number_in (entry_after empty_state c (last_later c ds (cond b (Some ([], d)) None))) ≡ cond b (number_of d) (last_in ds c)
    by true = refl
    by false = refl

-- The deeds as far as one at a place, which is the client's or another's.
module _ (ds : List Deed) (left : ℕ) (d : Deed) (c : ℕ) (some : 0 < left) (within : left ≤ length ds) (is : d ≡ get_or ds (left - 1) d) where
  last_up_to : last_in (take left ds) c ≡ cond (client_of d == c) (number_of d) (last_in (take (left - 1) ds) c)
  last_up_to =
      let whole : left ≡ left - 1 + 1 = omega (arith, some) in
      let low : left - 1 < length ds = omega (arith, some, within) in
      ap (λ k. last_in (take k ds) c) whole
      ∙ ap (λ l. last_in l c) (take_more ds (left - 1) d low ∙ ap (λ e. take (left - 1) ds ++ e ∷ []) (sym is)) ∙ last_more (take (left - 1) ds) d c

  pub last_of_own : client_of d ≡ c → last_in (take left ds) c ≡ number_of d
  last_of_own mine = last_up_to ∙ cond-true (client_of d == c) _ _ (eq-eqb (client_of d) c mine)

  pub last_of_other : (client_of d ≡ c → ⊥) → last_in (take left ds) c ≡ last_in (take (left - 1) ds) c
  last_of_other other = last_up_to ∙ cond-false (client_of d == c) _ _ (ne_eqb (client_of d) c other)

-- Among no deeds there is none.
pub last_of_none : (ds : List Deed) (left c : ℕ) → left ≤ 0 → last_in (take left ds) c ≡ 0
last_of_none ds zero c low = ap number_in (get_empty c)
last_of_none ds (suc i) c low = absurd (omega (arith, low))

-- One deed more, whose number is the next one of its client.
module _ (ds : List Deed) (d : Deed) (was : NumbersEachOnce ds) (next : number_of d ≡ last_in ds (client_of d) + 1) where
  own_last : last_in (ds ++ d ∷ []) (client_of d) ≡ number_of d
  own_last = last_more ds d (client_of d) ∙ cond-true (client_of d == client_of d) _ _ (eq-eqb (client_of d) (client_of d) refl)

  grows : (c : ℕ) → last_in ds c ≤ last_in (ds ++ d ∷ []) c
  grows c =
      elim (cases_eq (client_of d) c) [
        | inl mine ↦ subst (λ k. last_in ds k ≤ last_in (ds ++ d ∷ []) k) mine (let own = own_last in omega (arith, next, own))
        | inr other ↦ let same = last_more ds d c ∙ cond-false (client_of d == c) _ _ (ne_eqb (client_of d) c other) in omega (arith, same)
      ]

  is_beyond : (e : Deed) → Contains ds e → client_of e ≡ client_of d → number_of e ≡ number_of d → ⊥
  is_beyond e there mine same =
      let low = was.low e there in
      let last : last_in ds (client_of e) ≡ last_in ds (client_of d) = ap (last_in ds) mine in
      omega (arith, low, next, last, same)

  low_with : (e : Deed) → Contains ds e ⊎ (d ≡ e) → number_of e ≤ last_in (ds ++ d ∷ []) (client_of e)
  low_with e (inl there) = let low = was.low e there in let more = grows (client_of e) in omega (arith, low, more)
  low_with e (inr is) = subst (λ x. number_of x ≤ last_in (ds ++ d ∷ []) (client_of x)) is (let own = own_last in omega (arith, own))

  one_with : (e f : Deed) → Contains ds e ⊎ (d ≡ e) → Contains ds f ⊎ (d ≡ f) → client_of e ≡ client_of f → number_of e ≡ number_of f → e ≡ f
  one_with e f (inl a) (inl b) mine same = was.one e f a b mine same
  one_with e f (inl a) (inr b) mine same = absurd (is_beyond e a (mine ∙ ap client_of (sym b)) (same ∙ ap number_of (sym b)))
  one_with e f (inr a) (inl b) mine same = absurd (is_beyond f b (sym mine ∙ ap client_of (sym a)) (sym same ∙ ap number_of (sym a)))
  one_with e f (inr a) (inr b) mine same = sym a ∙ b

  once_with : NumbersEachOnce (ds ++ d ∷ [])
  once_with = record {
    low = λ e there. low_with e (Contains-push_cases ds d e there);
    one = λ e f e_there f_there. one_with e f (Contains-push_cases ds d e e_there) (Contains-push_cases ds d f f_there);
  }

once_from : (before later : List Deed) → NumbersEachOnce before → IsProper empty_state (before ++ later) → NumbersEachOnce (before ++ later)
once_from before [] was proper = subst NumbersEachOnce (sym (append-nil before)) was
once_from before (d ∷ later) was proper =
    let there : Reaches empty_state before = reached empty_state before empty_is_state (front_proper empty_state before (d ∷ later) proper) in
    let allowed : IsAllowed there.new d = proper before d later there.new refl there.after in
    let next : number_of d ≡ last_in before (client_of d) + 1 = allowed.number ∙ ap (λ o. number_in o + 1) (there.after.book (client_of d)) in
    let whole : (before ++ d ∷ []) ++ later ≡ before ++ d ∷ later = append_assoc before (d ∷ []) later in
    subst NumbersEachOnce whole (once_from (before ++ d ∷ []) later (once_with before d was next) (subst (IsProper empty_state) (sym whole) proper))

pub numbers_once : (ds : List Deed) → IsProper empty_state ds → NumbersEachOnce ds
numbers_once ds = once_from [] ds (record { low = λ e there. absurd (nothing_in e there); one = λ e f there. absurd (nothing_in e there) })
