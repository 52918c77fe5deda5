-- One deed that is allowed: the state that it leads to, which keeps the ranges of states.
use Rattle.std.proofs.Common.{◌≡◌, ℕ, ◌+◌, ◌-◌, ◌<◌, ◌≤◌, true, false, cond, ◌||◌, ◌==◌, [], ◌∷◌, Option, Some, None}
use Rattle.std.proofs.Common.{IfSome, is_some, map, option_to_list, Result, Ok, Err, OnOk, inl, inr, refl, ap, sym, ◌∙◌}
use Rattle.std.proofs.Common.{subst, arith, eq-eqb, ne_eqb, nat_cmp, slice_get}
use Rattle.std.proofs.lemmas.Bool.{cond-true, cases_lt, cases_eq}
use Rattle.std.specs.FinMap.{FinMap, get, insert, remove, len}
use Rattle.linda_wire.specs.declared.limits.TheConstants.{MAX_CLIENTS}
use Rattle.linda_wire.specs.declared.limits.TheConstants.{NUMBER_LIMIT}
use Rattle.linda_tuple.specs.Tuple.{Tuple}
use Rattle.linda_map_laws.proofs.MapLaws.{get_inserted, get_same, get_other, get_removed, get_removed_same, get_removed_other, len_new, len_old}
use Rattle.linda_store_state.specs.declared.deed.Deed.{Deed}
use Rattle.linda_store_state.specs.declared.deed.Deed.TheVariants.{Out, Take, Pass, Leave}
use Rattle.linda_book.specs.declared.kept_reply.KeptReply.TheVariants as kept
use Rattle.linda_store_state.specs.Deed.{client_of, number_of, put_by, taken_by, outs_of, is_taken}
use Rattle.linda_book.specs.Entries.{Entry, number_in}
use Rattle.linda_store_state.specs.State.{State, IsState}
use Rattle.linda_store_state.specs.After.{IsAfter, bag_after, taken_reply, reply_of_deed}
use Rattle.linda_store_state.specs.Proper.{IsAllowed}
use Rattle.linda_store_state.proofs.AfterLaws.{none_after, one_after, put_after, none_from_next, old_id, new_id, taken_id, tuple_after_put, entry_after_one}

-- The bag and the next id when a tuple is put, or one is taken, or neither, as changes of maps and numbers.
abbrev bag_by : State → Option Tuple → Option ℕ → FinMap nat_cmp Tuple
bag_by st (Some tuple) taken = insert st.bag st.next tuple
bag_by st None (Some id) = remove st.bag id
bag_by st None None = st.bag

abbrev next_by : State → Option Tuple → ℕ
next_by st (Some tuple) = st.next + 1
next_by st None = st.next

-- The bag and the next id after a deed.
abbrev pub bag_done : State → Deed → FinMap nat_cmp Tuple
bag_done st d = bag_by st (put_by d) (taken_by d)

abbrev pub next_done : State → Deed → ℕ
next_done st d = next_by st (put_by d)

-- The state that a deed leads to.
abbrev pub done : State → Deed → State
done st d = record { bag = bag_done st d; book = insert st.book (client_of d) (number_of d, reply_of_deed st [] d); next = next_done st d }

tuple_after_take : (st : State) (c n taken : ℕ) → IsState st → (id : ℕ) → get (remove st.bag taken) id ≡ bag_after st (Take c n taken ∷ []) id
tuple_after_take st c n taken is id =
    elim (cases_eq id taken) [
      | inl here ↦ get_removed st.bag taken id ∙ cond-true (id == taken) _ _ (eq-eqb id taken here)
          ∙ sym (taken_id st (Take c n taken ∷ []) id (ap (λ b. b || false) (eq-eqb taken id (sym here))))
      | inr apart ↦ get_removed_other st.bag taken id apart ∙ untouched (ap (λ b. b || false) (ne_eqb taken id (λ e. apart (sym e))))
    ]
  where
    untouched : is_taken id (Take c n taken ∷ []) ≡ false → get st.bag id ≡ bag_after st (Take c n taken ∷ []) id
    untouched free =
        elim (cases_lt id st.next) [
          | inl below ↦ sym (old_id st (Take c n taken ∷ []) id free below)
          | inr from ↦ none_from_next st is id from ∙ sym (new_id st (Take c n taken ∷ []) id free from)
        ]

-- A deed that neither puts nor takes leaves the bag as it is.
tuple_after_none : (st : State) (d : Deed) → IsState st → ((id : ℕ) → is_taken id (d ∷ []) ≡ false)
    → outs_of (d ∷ []) ≡ [] → (id : ℕ) → get st.bag id ≡ bag_after st (d ∷ []) id
tuple_after_none st d is free none id =
    elim (cases_lt id st.next) [
      | inl below ↦ sym (old_id st (d ∷ []) id (free id) below)
      | inr from ↦ none_from_next st is id from ∙ sym (new_id st (d ∷ []) id (free id) from ∙ ap (λ l. slice_get l (id - st.next)) none)
    ]

-- It is the state after the deed.
pub done_after : (st : State) (d : Deed) → IsState st → IsAfter st (d ∷ []) (done st d)
done_after st d is =
    record { bag = bag d; book = λ c. get_inserted st.book (client_of d) (number_of d, reply_of_deed st [] d) c ∙ entry_after_one st d c; next = next d }
  where
    bag : (d : Deed) (id : ℕ) → get (bag_done st d) id ≡ bag_after st (d ∷ []) id
    bag (Out c n tuple) id = get_inserted st.bag st.next tuple id ∙ tuple_after_put st c n tuple is id
    bag (Take c n taken) id = tuple_after_take st c n taken is id
    bag (Pass c n passed) id = tuple_after_none st (Pass c n passed) is (λ i. refl) refl id
    bag (Leave c n) id = tuple_after_none st (Leave c n) is (λ i. refl) refl id

    next : (d : Deed) → (done st d).next ≡ st.next + Rattle.std.proofs.Common.length (outs_of (d ∷ []))
    next (Out c n tuple) = refl
    next (Take c n taken) = omega arith
    next (Pass c n passed) = omega arith
    next (Leave c n) = omega arith

if_some : {X : Type 0} (o : Option X) (P Q : Type 0) → IfSome o (λ _. P) → (P → Q) → IfSome o (λ _. Q)
if_some None P Q none f = tt
if_some (Some x) P Q some f = f some

-- Ids stay in range.
ids_by : (st : State) (put : Option Tuple) (gone : Option ℕ) → IsState st → (id : ℕ)
    → IfSome (get (bag_by st put gone) id) (λ _. (1 ≤ id) × (id < next_by st put))
ids_by st (Some tuple) gone is id =
    elim (cases_eq id st.next) [
      | inl here ↦
          let low = is.next_low in
          subst (λ o. IfSome o (λ _. (1 ≤ id) × (id < st.next + 1)))
          (sym (ap (get (insert st.bag st.next tuple)) here ∙ get_same st.bag st.next tuple)) (omega arith, omega arith)
      | inr apart ↦
          subst (λ o. IfSome o (λ _. (1 ≤ id) × (id < st.next + 1))) (sym (get_other st.bag st.next tuple id apart))
          (if_some (get st.bag id) _ _ (is.ids id) (λ p. (p.0, omega (arith, p.1))))
    ]
ids_by st None (Some taken) is id =
    elim (cases_eq id taken) [
      | inl here ↦ subst (λ o. IfSome o (λ _. (1 ≤ id) × (id < st.next))) (sym (ap (get (remove st.bag taken)) here ∙ get_removed_same st.bag taken)) tt
      | inr apart ↦ subst (λ o. IfSome o (λ _. (1 ≤ id) × (id < st.next))) (sym (get_removed_other st.bag taken id apart)) (is.ids id)
    ]
ids_by st None None is id = is.ids id

-- The next id stays in range.
up_to : (a limit : ℕ) → a < limit → a + 1 ≤ limit
up_to a limit below = omega arith

next_low_by : (st : State) (put : Option Tuple) → 1 ≤ st.next → 1 ≤ next_by st put
next_low_by st (Some tuple) low = omega arith
next_low_by st None low = low

next_high_by : (st : State) (put : Option Tuple) → st.next ≤ NUMBER_LIMIT → IfSome put (λ _. st.next < NUMBER_LIMIT) → next_by st put ≤ NUMBER_LIMIT
next_high_by st (Some tuple) high room = up_to st.next NUMBER_LIMIT room
next_high_by st None high room = high

-- Kept numbers stay in range, and so does the number of clients.
number_low : (n before : ℕ) → n ≡ before + 1 → 1 ≤ n
number_low n before is = omega arith

numbers_done : (st : State) (d : Deed) → IsState st → IsAllowed st d → (c : ℕ) → IfSome (get (done st d).book c) (λ e. (1 ≤ e.0) × (e.0 < NUMBER_LIMIT))
numbers_done st d is allowed c =
    elim (cases_eq c (client_of d)) [
      | inl same ↦
          subst (λ o. IfSome o (λ (e : Entry). (1 ≤ e.0) × (e.0 < NUMBER_LIMIT)))
          (sym (ap (get (done st d).book) same ∙ get_same st.book (client_of d) (number_of d, reply_of_deed st [] d)))
          (number_low (number_of d) (number_in (get st.book (client_of d))) allowed.number, allowed.below)
      | inr apart ↦
          subst (λ o. IfSome o (λ (e : Entry). (1 ≤ e.0) × (e.0 < NUMBER_LIMIT)))
          (sym (get_other st.book (client_of d) (number_of d, reply_of_deed st [] d) c apart)) (is.numbers c)
    ]

clients_kept : (book : FinMap nat_cmp Entry) (c : ℕ) (e : Entry) → len book ≤ MAX_CLIENTS
    → (get book c ≡ None → len book < MAX_CLIENTS) → len (insert book c e) ≤ MAX_CLIENTS
clients_kept book c e few room = by_entry (get book c) refl
  where
    by_entry : (o : Option Entry) → get book c ≡ o → len (insert book c e) ≤ MAX_CLIENTS
    by_entry None none = subst (λ n. n ≤ MAX_CLIENTS) (sym (len_new book c e none)) (up_to (len book) MAX_CLIENTS (room none))
    by_entry (Some old) some = subst (λ n. n ≤ MAX_CLIENTS) (sym (len_old book c e (ap is_some some))) few

-- The state after an allowed deed keeps the ranges of states.
pub done_state : (st : State) (d : Deed) → IsState st → IsAllowed st d → IsState (done st d)
done_state st d is allowed =
    record {
      next_low = next_low_by st (put_by d) is.next_low;
      next_high = next_high_by st (put_by d) is.next_high allowed.room.0;
      ids = ids_by st (put_by d) (taken_by d) is;
      numbers = numbers_done st d is allowed;
      clients = clients_kept st.book (client_of d) (number_of d, reply_of_deed st [] d) is.clients allowed.client;
    }

-- Each state that comes after an allowed deed keeps the ranges of states.
pub one_state : (st new : State) (d : Deed) → IsState st → IsAllowed st d → IsAfter st (d ∷ []) new → IsState new
one_state st new d is allowed after = subst IsState (one_after st (d ∷ []) (done st d) new (done_after st d is) after) (done_state st d is allowed)

-- An Out as changes of maps, if the old state is known by another name.
pub put_at : (old st new : State) (c n : ℕ) (tuple : Tuple) → old ≡ st → IsState st → new.bag ≡ insert old.bag old.next tuple
    → new.book ≡ insert old.book c (n, kept.Stored old.next) → new.next ≡ old.next + 1 → IsAfter st (Out c n tuple ∷ []) new
put_at old st new c n tuple same is bag book next =
    subst (λ s. IsAfter s (Out c n tuple ∷ []) new) same (put_after old new c n tuple (subst IsState (sym same) is) bag book next)

-- A Take, a Pass and a Leave as changes of maps, if the old state is known by another name.
taken_kept : (st : State) (id : ℕ) (row : Tuple) → IsState st → get st.bag id ≡ Some row → taken_reply id (bag_after st [] id) ≡ kept.Taken id row
taken_kept st id row is there = ap (taken_reply id) (sym ((none_after st is).bag id) ∙ there)

take_after : (st new : State) (c n id : ℕ) (row : Tuple) → IsState st → get st.bag id ≡ Some row → new.bag ≡ remove st.bag id
    → new.book ≡ insert st.book c (n, kept.Taken id row) → new.next ≡ st.next → IsAfter st (Take c n id ∷ []) new
take_after st new c n id row is there bag book next =
    let d = done_after st (Take c n id) is in
    record {
      bag = λ k. ap (λ m. get m k) bag ∙ d.bag k;
      book = λ q. ap (λ m. get m q) (book ∙ ap (λ r. insert st.book c (n, r)) (sym (taken_kept st id row is there))) ∙ d.book q;
      next = next ∙ d.next;
    }

pub take_at : (old st new : State) (c n id : ℕ) (row : Tuple) → old ≡ st → IsState st → get st.bag id ≡ Some row
    → new.bag ≡ remove old.bag id → new.book ≡ insert old.book c (n, kept.Taken id row) → new.next ≡ old.next → IsAfter st (Take c n id ∷ []) new
take_at old st new c n id row same is there bag book next =
    subst (λ s. IsAfter s (Take c n id ∷ []) new) same
    (take_after old new c n id row (subst IsState (sym same) is) (subst (λ s. get s.bag id ≡ Some row) (sym same) there) bag book next)

pub pass_at : (old st new : State) (c n id : ℕ) → old ≡ st → IsState st → new.bag ≡ old.bag
    → new.book ≡ insert old.book c (n, kept.Gone) → new.next ≡ old.next → IsAfter st (Pass c n id ∷ []) new
pass_at old st new c n id same is bag book next =
    subst (λ s. IsAfter s (Pass c n id ∷ []) new) same
    (let d = done_after old (Pass c n id) (subst IsState (sym same) is) in
    record {
      bag = λ k. ap (λ m. get m k) bag ∙ d.bag k;
      book = λ q. ap (λ m. get m q) book ∙ d.book q;
      next = next ∙ d.next;
    })

pub leave_at : (old st new : State) (c n : ℕ) → old ≡ st → IsState st → new.bag ≡ old.bag
    → new.book ≡ insert old.book c (n, kept.Left) → new.next ≡ old.next → IsAfter st (Leave c n ∷ []) new
leave_at old st new c n same is bag book next =
    subst (λ s. IsAfter s (Leave c n ∷ []) new) same
    (let d = done_after old (Leave c n) (subst IsState (sym same) is) in
    record {
      bag = λ k. ap (λ m. get m k) bag ∙ d.bag k;
      book = λ q. ap (λ m. get m q) book ∙ d.book q;
      next = next ∙ d.next;
    })

-- What follows from a fact of each value that a call may give.
pub on_ok : {A E : Type 0} (P Q : Type 0) (r : Result A E) → (P → Q) → OnOk r P → OnOk r Q
on_ok P Q (Ok x) f p = f p
on_ok P Q (Err e) f p = tt

-- A Take of a tuple that was found is the one deed that was done.
pub take_found : (st new : State) (c n id : ℕ) (row : Tuple) (found : Option Tuple) → found ≡ Some row
    → IsAfter st (Take c n id ∷ []) new → IsAfter st (map (λ _. Take c n id) (option_to_list found)) new
take_found st new c n id row found is after = subst (λ o. IsAfter st (map (λ _. Take c n id) (option_to_list o)) new) (sym is) after
