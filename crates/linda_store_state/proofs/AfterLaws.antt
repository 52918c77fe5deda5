-- The state after deeds: after none, after one Out, after two lists in turn; and there is only one.
use Rattle.std.proofs.Common.{◌≡◌, ℕ, ◌+◌, ◌-◌, ◌<◌, ◌≤◌, Bool, true, false, cond, ◌||◌, ◌==◌, nat_lt, List, [], ◌∷◌}
use Rattle.std.proofs.Common.{◌++◌, length, Option, Some, None, IfSome, refl, ap, sym, ◌∙◌, arith, eq-eqb, ne_eqb}
use Rattle.std.proofs.Common.{slice_get, zero, suc, length-append}
use Rattle.std.proofs.lemmas.Bool.{cond-true, cond-false, lt-ltb, le-ltb, cases_lt, cases_order, cases_eq, or_from, or_left, or_right}
use Rattle.std.proofs.lemmas.Option.{slice_get_past}
use Rattle.std.proofs.Common.{inl, inr}
use Rattle.std.specs.FinMap.{get, insert}
use Rattle.linda_tuple.specs.Tuple.{Tuple}
use Rattle.linda_map_laws.proofs.MapLaws.{get_inserted, same_map}
use Rattle.linda_store_state.specs.declared.deed.Deed.{Deed}
use Rattle.linda_store_state.specs.declared.deed.Deed.TheVariants.{Out, Take, Pass, Leave}
use Rattle.linda_book.specs.declared.kept_reply.KeptReply.TheVariants as kept
use Rattle.linda_store_state.specs.Deed.{client_of, number_of, outs_of, is_taken, last_of}
use Rattle.linda_store_state.specs.State.{State, IsState}
use Rattle.linda_store_state.specs.After.{IsAfter, bag_after, taken_reply, reply_of_deed, entry_after, book_after}
use Rattle.linda_store_state.proofs.DeedLaws.{outs_of-joined, is_taken-joined, last_later, last_of-joined, slice_get-front, slice_get-back}

none_if_not : {X : Type 0} (o : Option X) (P : Type 0) → IfSome o (λ _. P) → (P → ⊥) → o ≡ None
none_if_not None P some never = refl
none_if_not (Some x) P some never = absurd (never some)

-- Nothing is in the bag of a state from its next id on.
pub none_from_next : (st : State) → IsState st → (id : ℕ) → st.next ≤ id → get st.bag id ≡ None
none_from_next st is id from = none_if_not (get st.bag id) ((1 ≤ id) × (id < st.next)) (is.ids id) (λ within. omega (arith, within.1))

-- The bag at an id below the next one, and from it on, if it is not taken.
pub old_id : (st : State) (ds : List Deed) (id : ℕ) → is_taken id ds ≡ false → id < st.next → bag_after st ds id ≡ get st.bag id
old_id st ds id free below = cond-false (is_taken id ds) _ _ free ∙ cond-true (nat_lt id st.next) _ _ (lt-ltb id st.next below)

pub new_id : (st : State) (ds : List Deed) (id : ℕ) → is_taken id ds ≡ false → st.next ≤ id → bag_after st ds id ≡ slice_get (outs_of ds) (id - st.next)
new_id st ds id free from = cond-false (is_taken id ds) _ _ free ∙ cond-false (nat_lt id st.next) _ _ (le-ltb id st.next from)

pub taken_id : (st : State) (ds : List Deed) (id : ℕ) → is_taken id ds ≡ true → bag_after st ds id ≡ None
taken_id st ds id taken = cond-true (is_taken id ds) _ _ taken

-- After no deeds a state is as it was.
pub none_after : (st : State) → IsState st → IsAfter st [] st
none_after st is = record { bag = bag; book = λ c. refl; next = omega arith }
  where
    bag : (id : ℕ) → get st.bag id ≡ bag_after st [] id
    bag id =
        elim (cases_lt id st.next) [
          | inl below ↦ sym (old_id st [] id refl below)
          | inr from ↦ none_from_next st is id from ∙ sym (new_id st [] id refl from)
        ]

same_states : (a b : State) → a.bag ≡ b.bag → a.book ≡ b.book → a.next ≡ b.next → a ≡ b
same_states a b bag book next i = record { bag = bag i; book = book i; next = next i }

-- Two states after the same deeds are equal.
pub one_after : (st : State) (ds : List Deed) (a b : State) → IsAfter st ds a → IsAfter st ds b → a ≡ b
one_after st ds a b at_a at_b =
    same_states a b
    (same_map a.bag b.bag (λ id. at_a.bag id ∙ sym (at_b.bag id)))
    (same_map a.book b.book (λ c. at_a.book c ∙ sym (at_b.book c)))
    (at_a.next ∙ sym at_b.next)

-- The look-ups after one deed, by a test of the key.
pub entry_after_one : (st : State) (d : Deed) (c : ℕ)
    → cond (c == client_of d) (Some (number_of d, reply_of_deed st [] d)) (get st.book c) ≡ book_after st (d ∷ []) c
entry_after_one st d c =
    elim (cases_eq c (client_of d)) [
      | inl same ↦ cond-true (c == client_of d) _ _ (eq-eqb c (client_of d) same)
          ∙ sym (ap (entry_after st c) (cond-true (client_of d == c) (Some ([], d)) None (eq-eqb (client_of d) c (sym same))))
      | inr apart ↦ cond-false (c == client_of d) _ _ (ne_eqb c (client_of d) apart)
          ∙ sym (ap (entry_after st c) (cond-false (client_of d == c) (Some ([], d)) None (ne_eqb (client_of d) c (λ e. apart (sym e)))))
    ]

first_of_one : {X : Type 0} (x : X) (i : ℕ) → i ≡ 0 → slice_get (x ∷ []) i ≡ Some x
first_of_one x zero none = refl
first_of_one x (suc i) none = absurd (omega arith)

pub tuple_after_put : (st : State) (c n : ℕ) (tuple : Tuple) → IsState st → (id : ℕ)
    → cond (id == st.next) (Some tuple) (get st.bag id) ≡ bag_after st (Out c n tuple ∷ []) id
tuple_after_put st c n tuple is id =
    elim (cases_order id st.next) [
      | inl here ↦ cond-true (id == st.next) _ _ (eq-eqb id st.next here)
          ∙ sym (new_id st (Out c n tuple ∷ []) id refl (omega arith) ∙ first_of_one tuple (id - st.next) (omega arith))
      | inr (inl below) ↦ cond-false (id == st.next) _ _ (ne_eqb id st.next (λ e. omega arith)) ∙ sym (old_id st (Out c n tuple ∷ []) id refl below)
      | inr (inr above) ↦ cond-false (id == st.next) _ _ (ne_eqb id st.next (λ e. omega arith)) ∙ none_from_next st is id (omega arith)
          ∙ sym (new_id st (Out c n tuple ∷ []) id refl (omega arith) ∙ slice_get_past (tuple ∷ []) (id - st.next) (omega arith))
    ]

-- After one Out the bag has its tuple under the next id, the book has the reply, and the next id is one more.
pub put_after : (st new : State) (c n : ℕ) (tuple : Tuple) → IsState st → new.bag ≡ insert st.bag st.next tuple
    → new.book ≡ insert st.book c (n, kept.Stored st.next) → new.next ≡ st.next + 1 → IsAfter st (Out c n tuple ∷ []) new
put_after st new c n tuple is bag_is book_is next_is =
    record {
      bag = λ id. ap (λ m. get m id) bag_is ∙ get_inserted st.bag st.next tuple id ∙ tuple_after_put st c n tuple is id;
      book = λ q. ap (λ m. get m q) book_is ∙ get_inserted st.book c _ q
          ∙ ap (λ e. cond (q == c) (Some (n, kept.Stored e)) (get st.book q)) (omega arith) ∙ entry_after_one st (Out c n tuple) q;
      next = next_is;
    }

-- what `ds` take is below the id that comes after them
abbrev pub TakesBelow : State → List Deed → Type 0
TakesBelow st ds = (id : ℕ) → is_taken id ds ≡ true → id < st.next + length (outs_of ds)

bag_later : (st mid : State) (ds es : List Deed) → IsAfter st ds mid → TakesBelow st ds → (id : ℕ) → bag_after mid es id ≡ bag_after st (ds ++ es) id
bag_later st mid ds es after below id = by_tests (is_taken id es) refl (is_taken id ds) refl
  where
    all : is_taken id (ds ++ es) ≡ (is_taken id ds || is_taken id es)
    all = is_taken-joined id ds es

    free_in_both : is_taken id ds ≡ false → is_taken id es ≡ false → is_taken id (ds ++ es) ≡ false
    free_in_both first second = all ∙ or_from (is_taken id ds) (is_taken id es) first second

    in_first : is_taken id ds ≡ false → is_taken id (ds ++ es) ≡ false → id < mid.next → bag_after st ds id ≡ bag_after st (ds ++ es) id
    in_first first free low =
        elim (cases_lt id st.next) [
          | inl old ↦ old_id st ds id first old ∙ sym (old_id st (ds ++ es) id free old)
          | inr from ↦ new_id st ds id first from
              ∙ sym (new_id st (ds ++ es) id free from ∙ ap (λ l. slice_get l (id - st.next)) (outs_of-joined ds es)
              ∙ slice_get-front (outs_of ds) (outs_of es) (id - st.next) (omega (arith, after.next)))
        ]

    by_tests : (later : Bool) → is_taken id es ≡ later → (before : Bool) → is_taken id ds ≡ before → bag_after mid es id ≡ bag_after st (ds ++ es) id
    by_tests true second before first = taken_id mid es id second ∙ sym (taken_id st (ds ++ es) id (all ∙ or_right (is_taken id ds) (is_taken id es) second))
    by_tests false second true first =
        let within = below id first in
        old_id mid es id second (omega (arith, after.next)) ∙ after.bag id ∙ taken_id st ds id first
        ∙ sym (taken_id st (ds ++ es) id (all ∙ or_left (is_taken id ds) (is_taken id es) first))
    by_tests false second false first =
        let free = free_in_both first second in
        elim (cases_lt id mid.next) [
          | inl low ↦ old_id mid es id second low ∙ after.bag id ∙ in_first first free low
          | inr high ↦ new_id mid es id second high
              ∙ sym (new_id st (ds ++ es) id free (omega (arith, after.next)) ∙ ap (λ l. slice_get l (id - st.next)) (outs_of-joined ds es)
              ∙ slice_get-back (outs_of ds) (outs_of es) (id - st.next) (id - mid.next) (omega (arith, after.next)))
        ]

outs_later : (st mid : State) (ds es : List Deed) → mid.next ≡ st.next + length (outs_of ds)
    → mid.next + length (outs_of es) ≡ st.next + length (outs_of (ds ++ es))
outs_later st mid ds es next =
    let puts : length (outs_of (ds ++ es)) ≡ length (outs_of ds) + length (outs_of es) =
    ap length (outs_of-joined ds es) ∙ length-append (outs_of ds) (outs_of es) in
    omega arith

reply_later : (st mid : State) (ds before : List Deed) (d : Deed) → IsAfter st ds mid → TakesBelow st ds
    → reply_of_deed mid before d ≡ reply_of_deed st (ds ++ before) d
reply_later st mid ds before (Out c n tuple) after below = ap kept.Stored (outs_later st mid ds before after.next)
reply_later st mid ds before (Take c n id) after below = ap (taken_reply id) (bag_later st mid ds before after below id)
reply_later st mid ds before (Pass c n id) after below = refl
reply_later st mid ds before (Leave c n) after below = refl

-- What comes after two lists of deeds in turn comes after both as one list.
pub joined_after : (st mid new : State) (ds es : List Deed) → IsAfter st ds mid → IsAfter mid es new → TakesBelow st ds → IsAfter st (ds ++ es) new
joined_after st mid new ds es first second below =
    record {
      bag = λ id. second.bag id ∙ bag_later st mid ds es first below id;
      book = λ c. second.book c ∙ book c (last_of c es) ∙ sym (ap (entry_after st c) (last_of-joined c ds es));
      next = second.next ∙ outs_later st mid ds es first.next;
    }
  where
    book : (c : ℕ) (last : Option (List Deed × Deed)) → entry_after mid c last ≡ entry_after st c (last_later c ds last)
    book c None = first.book c
    book c (Some last) = ap (λ r. Some (number_of last.1, r)) (reply_later st mid ds last.0 last.1 first below)

-- The same with one more deed.
pub more_after : (st mid new : State) (ds : List Deed) (d : Deed) → IsAfter st ds mid → IsAfter mid (d ∷ []) new
    → TakesBelow st ds → IsAfter st (ds ++ d ∷ []) new
more_after st mid new ds d first second below = joined_after st mid new ds (d ∷ []) first second below
