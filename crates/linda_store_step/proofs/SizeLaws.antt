-- The bytes that the deeds of messages spell are those that were counted.
use Rattle.std.proofs.Common.{◌≡◌, ℕ, ◌+◌, ◌<◌, ◌≤◌, Bool, true, false, cond, ◌&&◌, ◌||◌, ◌==◌, nat_le, List, [], ◌∷◌}
use Rattle.std.proofs.Common.{◌++◌, Option, Some, None, refl, sym, ap, ◌∙◌, subst, inl, inr, eq-eqb, ne_eqb, leb-false}
use Rattle.std.proofs.Common.{add_assoc, suc, length, drop, get_or, drop-cons, arith, ◌%◌, ◌-◌, set, take}
use Rattle.std.proofs.lemmas.List.{get_or-set_same, get_or-set_other, length-set, take_more}
use Rattle.std.proofs.Math.Seq.{take-length}
use Rattle.std.proofs.lemmas.Bool.{false≢true, cond-true, cond-false, cases_eq, eqb-false, or_parts}
use mir.Val.{bool_byte}
use Rattle.std.proofs.lemmas.Option.{none-some, same_Some}
use Rattle.linda_tuple.specs.declared.form.Form.{Form}
use Rattle.linda_wire.specs.declared.limits.TheConstants.{MAX_CLIENTS}
use Rattle.linda_wire.specs.declared.message.Message.{Message}
use Rattle.linda_wire.specs.declared.limits.TheConstants.{NUMBER_LIMIT}
use Rattle.linda_store_state.specs.State.{State}
use Rattle.linda_store_step.specs.declared.judge.Demand.{Demand}
use Rattle.linda_store_step.specs.declared.judge.Standing.{Standing}
use Rattle.linda_store_step.specs.declared.judge.Verdict.{Verdict}
use Rattle.linda_store_step.specs.declared.judge.Verdict.TheVariants.{Refused, Repeated, Done}
use Rattle.linda_store_step.specs.Judge.{demand_of, judge, puts, leaves}
use Rattle.linda_store_step.proofs.JudgeLaws.{IsFresh, IsVerdict, verdict_means}
use Rattle.linda_store_step.specs.Size.{Latest, Numbers, latest_of, if_done, done_by, done_of, deed_bytes}
use Rattle.linda_store_step.specs.Size.{numbers_after, bytes_of, bytes_from, count_of, count_from, SuitsIfDone, Suits}
use Rattle.linda_store_step.specs.Size.{AllSuit, last_behind, AreMarked}

-- ---- what was counted so far

-- The numbers of a state after these clients have come to these numbers, with so many clients kept and this next id.
abbrev pub numbers_behind : State → List (ℕ × Latest) → ℕ → ℕ → Numbers
numbers_behind st es clients next = record { last = λ c. last_behind es c (latest_of st c); clients = clients; next = next }

last_of_more : (es : List (ℕ × Latest)) (k : ℕ) (n : Latest) (c : ℕ) (last : Latest)
    → last_behind (es ++ (k, n) ∷ []) c last ≡ cond (k == c) n (last_behind es c last)
last_of_more [] k n c last = refl
last_of_more (e ∷ es) k n c last = last_of_more es k n c (cond (e.0 == c) e.1 last)

-- The same with the last one first.
pub last_of_last : (es : List (ℕ × Latest)) (e : ℕ × Latest) (c : ℕ) (last : Latest)
    → last_behind (es ++ e ∷ []) c last ≡ cond (e.0 == c) e.1 (last_behind es c last)
last_of_last es e c last = last_of_more es e.0 e.1 c last

-- The same of some: by their last one, and those before it.
pub last_at_end : (es : List (ℕ × Latest)) (d : ℕ × Latest) (c : ℕ) (last : Latest) → 0 < length es
    → last_behind es c last ≡ cond ((get_or es (length es - 1) d).0 == c) (get_or es (length es - 1) d).1 (last_behind (take (length es - 1) es) c last)
last_at_end es d c last some =
    let back : length es ≡ (length es - 1) + 1 = omega (arith, some) in
    ap (λ xs. last_behind xs c last) (sym (take-length es) ∙ ap (λ n. take n es) back ∙ take_more es (length es - 1) d (omega (arith, some)))
    ∙ last_of_last (take (length es - 1) es) (get_or es (length es - 1) d) c last

-- With one more of a client whose place gets a mark all are marked.
pub marked_more : (met : List Bool) (es : List (ℕ × Latest)) (k : ℕ) (n : Latest) → k % length met < length met → AreMarked met es
    → AreMarked (set met (k % length met) true) (es ++ (k, n) ∷ [])
marked_more met es k n within marked c last unmarked =
    let p = length met in
    let none : get_or (set met (k % p) true) (c % p) false ≡ false =
    subst (λ size. get_or (set met (k % p) true) (c % size) false ≡ false) (length-set met (k % p) true) unmarked in
    elim (cases_eq (c % p) (k % p)) [
      | inl same ↦ absurd (false≢true (sym none ∙ ap (λ i. get_or (set met (k % p) true) i false) same ∙ get_or-set_same met (k % p) true false within))
      | inr apart ↦
          last_of_more es k n c last ∙ cond-false (k == c) n (last_behind es c last) (ne_eqb k c (λ e. apart (ap (λ i. i % p) (sym e))))
          ∙ marked c last (sym (get_or-set_other met (k % p) (c % p) true false apart) ∙ none)
    ]

turned_test : {A : Type 0} (a b : ℕ) (x y : A) → cond (a == b) x y ≡ cond (b == a) x y
turned_test a b x y =
    elim (cases_eq a b) [
      | inl same ↦ cond-true (a == b) x y (eq-eqb a b same) ∙ sym (cond-true (b == a) x y (eq-eqb b a (sym same)))
      | inr apart ↦ cond-false (a == b) x y (ne_eqb a b apart) ∙ sym (cond-false (b == a) x y (ne_eqb b a (λ e. apart (sym e))))
    ]

-- What is done is fresh.
done_is : (o : Option Demand) (at : Standing) (d : Demand) → Some d ≡ done_by o at → IsFresh d at
done_is None at d is = absurd (none-some d (sym is))
done_is (Some e) at d is = by (judge e at) (verdict_means e at) is
  where
    by : (v : Verdict) → IsVerdict e at v → Some d ≡ if_done e v → IsFresh d at
    by Done means is = subst (λ x. IsFresh x at) (same_Some e d (sym is)) means
    by Repeated means is = absurd (none-some d (sym is))
    by (Refused refusal) means is = absurd (none-some d (sym is))

at_most_more : (clients limit : ℕ) (b : Bool) → clients ≤ limit → (b && nat_le limit clients) ≡ false → clients + cond b 1 0 ≤ limit
at_most_more clients limit true few room = let below = leb-false limit clients room in omega arith
at_most_more clients limit false few room = omega arith

at_most_next : (next n limit : ℕ) (b : Bool) → next ≤ limit → ((n == limit) || (b && (next == limit))) ≡ false → next + cond b 1 0 ≤ limit
at_most_next next n limit true low unspent =
    let other = eqb-false next limit (or_parts (n == limit) (next == limit) unspent).1 in
    omega (arith, other)
at_most_next next n limit false low unspent = omega arith

-- One more message was counted, which does a deed.
module _ (form : Form) (st : State) (es fs : List (ℕ × Latest)) (c : ℕ) (m : Message) (last : Latest)
    (clients next k x bytes total : ℕ) (d : Demand) (ms : List (ℕ × Message))
    (last_is : last ≡ last_behind es c (latest_of st c))
    (done : Some d ≡ done_by (demand_of m) (record { last = last.0; left = last.1; clients = clients; next = next }))
    (fs_is : fs ≡ es ++ (c, (d.n, leaves d.what)) ∷ [])
    (k_is : k ≡ clients + cond (last.0 == 0) 1 0) (x_is : x ≡ next + cond (puts d.what) 1 0) where
  found : IsFresh d (record { last = last.0; left = last.1; clients = clients; next = next })
  found = done_is (demand_of m) (record { last = last.0; left = last.1; clients = clients; next = next }) d done

  pub clients_few : clients ≤ MAX_CLIENTS → k ≤ MAX_CLIENTS
  clients_few few = subst (λ i. i ≤ MAX_CLIENTS) (sym k_is) (at_most_more clients MAX_CLIENTS (last.0 == 0) few found.few)

  pub next_low : next ≤ NUMBER_LIMIT → x ≤ NUMBER_LIMIT
  next_low low = subst (λ i. i ≤ NUMBER_LIMIT) (sym x_is) (at_most_next next d.n NUMBER_LIMIT (puts d.what) low found.unspent)

  same_done : done_of (numbers_behind st es clients next) c m ≡ Some d
  same_done = ap (λ (l : Latest). done_by (demand_of m) (record { last = l.0; left = l.1; clients = clients; next = next })) (sym last_is) ∙ sym done

  same_numbers : numbers_after (numbers_behind st es clients next) c (Some d) ≡ numbers_behind st fs k x
  same_numbers = λ i. record {
    last = λ q. (turned_test q c (d.n, leaves d.what) (last_behind es q (latest_of st q))
        ∙ sym (last_of_more es c (d.n, leaves d.what) q (latest_of st q)) ∙ ap (λ l. last_behind l q (latest_of st q)) (sym fs_is)) i;
    clients = (ap (λ (l : Latest). clients + cond (l.0 == 0) 1 0) (sym last_is) ∙ sym k_is) i;
    next = sym x_is i;
  }

  pub counted_on : (size : ℕ) → size ≡ deed_bytes form m → total ≡ bytes + bytes_from form (numbers_behind st es clients next) ((c, m) ∷ ms)
      → total ≡ bytes + size + bytes_from form (numbers_behind st fs k x) ms
  counted_on size size_is all =
      all
      ∙ ap (λ o. bytes + (bytes_of form m o + bytes_from form (numbers_after (numbers_behind st es clients next) c o) ms)) same_done
      ∙ ap (λ ns. bytes + (deed_bytes form m + bytes_from form ns ms)) same_numbers
      ∙ sym (add_assoc bytes (deed_bytes form m) (bytes_from form (numbers_behind st fs k x) ms))
      ∙ ap (λ s. bytes + s + bytes_from form (numbers_behind st fs k x) ms) (sym size_is)

  pub one_more : (count all : ℕ) → all ≡ count + count_from (numbers_behind st es clients next) ((c, m) ∷ ms)
      → all ≡ count + 1 + count_from (numbers_behind st fs k x) ms
  one_more count all is =
      is
      ∙ ap (λ o. count + (count_of o + count_from (numbers_after (numbers_behind st es clients next) c o) ms)) same_done
      ∙ ap (λ ns. count + (1 + count_from ns ms)) same_numbers
      ∙ sym (add_assoc count 1 (count_from (numbers_behind st fs k x) ms))

  -- All suit from here on exactly if this one does and the others do.
  pub suit_on : AllSuit form (numbers_behind st es clients next) ((c, m) ∷ ms) → Suits form m × AllSuit form (numbers_behind st fs k x) ms
  suit_on suit =
      let this = subst (λ o. SuitsIfDone form m o × AllSuit form (numbers_after (numbers_behind st es clients next) c o) ms) same_done suit in
      (this.0, subst (λ ns. AllSuit form ns ms) same_numbers this.1)

  pub suit_back : Suits form m → AllSuit form (numbers_behind st fs k x) ms → AllSuit form (numbers_behind st es clients next) ((c, m) ∷ ms)
  suit_back this rest =
      subst (λ o. SuitsIfDone form m o × AllSuit form (numbers_after (numbers_behind st es clients next) c o) ms) (sym same_done)
      (this, subst (λ ns. AllSuit form ns ms) (sym same_numbers) rest)

-- The first message suits, if all suit and its deed is done.
pub suit_first : (form : Form) (st : State) (es : List (ℕ × Latest)) (c : ℕ) (m : Message) (last : Latest)
    (clients next : ℕ) (d : Demand) (ms : List (ℕ × Message))
    → last ≡ last_behind es c (latest_of st c) → Some d ≡ done_by (demand_of m) (record { last = last.0; left = last.1; clients = clients; next = next })
    → AllSuit form (numbers_behind st es clients next) ((c, m) ∷ ms) → Suits form m
suit_first form st es c m last clients next d ms last_is done suit =
    subst (SuitsIfDone form m) (ap (λ (l : Latest). done_by (demand_of m) (record { last = l.0; left = l.1; clients = clients; next = next })) (sym last_is)
    ∙ sym done) suit.0

none_more : (a b : ℕ) → a + (0 + b) ≡ a + b
none_more a b = omega arith

-- One more message was looked at, of which nothing is done.
module _ (form : Form) (st : State) (es : List (ℕ × Latest)) (c : ℕ) (m : Message) (last : Latest) (clients next : ℕ) (ms : List (ℕ × Message))
    (last_is : last ≡ last_behind es c (latest_of st c))
    (undone : None ≡ done_by (demand_of m) (record { last = last.0; left = last.1; clients = clients; next = next })) where
  same_undone : done_of (numbers_behind st es clients next) c m ≡ None
  same_undone = ap (λ (l : Latest). done_by (demand_of m) (record { last = l.0; left = l.1; clients = clients; next = next })) (sym last_is) ∙ sym undone

  pub passed_on : (bytes total : ℕ) → total ≡ bytes + bytes_from form (numbers_behind st es clients next) ((c, m) ∷ ms)
      → total ≡ bytes + bytes_from form (numbers_behind st es clients next) ms
  passed_on bytes total all = all
      ∙ ap (λ o. bytes + (bytes_of form m o + bytes_from form (numbers_after (numbers_behind st es clients next) c o) ms)) same_undone ∙ none_more bytes _

  pub count_passed : (count all : ℕ) → all ≡ count + count_from (numbers_behind st es clients next) ((c, m) ∷ ms)
      → all ≡ count + count_from (numbers_behind st es clients next) ms
  count_passed count all is = is ∙ ap (λ o. count + (count_of o + count_from (numbers_after (numbers_behind st es clients next) c o) ms)) same_undone
      ∙ none_more count _

  pub suit_passed : AllSuit form (numbers_behind st es clients next) ((c, m) ∷ ms) → AllSuit form (numbers_behind st es clients next) ms
  suit_passed suit = (subst (λ o. SuitsIfDone form m o × AllSuit form (numbers_after (numbers_behind st es clients next) c o) ms) same_undone suit).1

  pub suit_before : AllSuit form (numbers_behind st es clients next) ms → AllSuit form (numbers_behind st es clients next) ((c, m) ∷ ms)
  suit_before rest = subst (λ o. SuitsIfDone form m o × AllSuit form (numbers_after (numbers_behind st es clients next) c o) ms) (sym same_undone) (tt, rest)

-- The items from one on.
pub first_of : {A : Type 0} (xs : List A) (i : ℕ) (x : A) → i < length xs → x ≡ get_or xs i x → drop i xs ≡ x ∷ drop (i + 1) xs
first_of xs i x lt is =
    let next : suc i ≡ i + 1 = omega arith in
    drop-cons xs i x lt ∙ ap (λ y. y ∷ drop (suc i) xs) (sym is) ∙ ap (λ k. x ∷ drop k xs) next

-- A truth value as a number.
pub as_number : (b : Bool) → bool_byte b ≡ cond b 1 0
as_number true = refl
as_number false = refl
