-- The packets for one ticket, server by server.
use Rattle.std.proofs.Common.{◌≡◌, ℕ, zero, suc, ◌+◌, ◌-◌, ◌<◌, nat_lt, true, false, cond, not, List, [], ◌∷◌, ◌++◌}
use Rattle.std.proofs.Common.{length, length-append, get_or, map, refl, sym, ap, subst, ◌∙◌, append_assoc, append-nil}
use Rattle.std.proofs.Common.{add-one, arith}
use Rattle.std.specs.Prelude.{All, filter, flat_map, Option, None, Some, slice_get}
use Rattle.std.specs.List.{enumerate_from, range_with_len}
use Rattle.std.proofs.lemmas.List.{map-append}
use Rattle.std.proofs.lemmas.List.Concat.{flat_map-append}
use Rattle.std.proofs.lemmas.List.Elements.{All-append, All-from_get_or, All-map, All-nil, filter-append}
use Rattle.std.proofs.lemmas.List.FromFn.{get_or-range_with_len, length-range_with_len, map-range_with_len_more}
use Rattle.linda_wire.specs.declared.message.Message.TheVariants as messages
use Rattle.linda_client.specs.declared.ask.Ask.{Ask}
use Rattle.linda_client.specs.Packets.{Packet, ask_packets, asks_to_all, cancels_of, is_spared}
use Rattle.linda_client.specs.Ask.{asks}
use Rattle.linda_client.specs.Pending.{Pending, ask_at}

-- one server more is asks_to_all
pub asked_more : (n : ℕ) (ask : ℕ × Ask) → asks_to_all (n + 1) ask ≡ asks_to_all n ask ++ (n, messages.Ask ask.0 ask.1.remove ask.1.template) ∷ []
asked_more n ask = map-range_with_len_more (λ s. (s, messages.Ask ask.0 ask.1.remove ask.1.template)) 0 n n (omega arith)

-- one number more, after those from a on
range_more : (a n : ℕ) → range_with_len a (suc n) ≡ range_with_len a n ++ (a + n) ∷ []
range_more a zero = let e : a ≡ a + 0 = omega arith in ap (λ x. x ∷ []) e
range_more a (suc n) =
    let e : (a + 1) + n ≡ a + suc n = omega arith in
    ap (λ xs. a ∷ xs) (range_more (a + 1) n ∙ ap (λ x. range_with_len (a + 1) n ++ x ∷ []) e)

range_next : (n : ℕ) → range_with_len 0 (n + 1) ≡ range_with_len 0 n ++ n ∷ []
range_next n = let e : 0 + n ≡ n = omega arith in rw add-one (range_more 0 n ∙ ap (λ x. range_with_len 0 n ++ x ∷ []) e)

cancelled_next : (n : ℕ) (own : Option (ℕ × ℕ)) (ticket : ℕ) → cancels_of (n + 1) own ticket
    ≡ cancels_of n own ticket ++ map (λ s. (s, messages.Cancel ticket)) (filter (λ s. not (is_spared own (s, ticket))) (n ∷ []))
cancelled_next n own ticket =
    ap (λ ns. map (λ s. (s, messages.Cancel ticket)) (filter (λ s. not (is_spared own (s, ticket))) ns)) (range_next n)
    ∙ ap (map (λ s. (s, messages.Cancel ticket))) (filter-append (λ s. not (is_spared own (s, ticket))) (range_with_len 0 n) (n ∷ []))
    ∙ map-append (λ s. (s, messages.Cancel ticket)) (filter (λ s. not (is_spared own (s, ticket))) (range_with_len 0 n))
    (filter (λ s. not (is_spared own (s, ticket))) (n ∷ []))

-- one server more is sent a Cancel, if it is not spared
pub cancelled_more : (n : ℕ) (own : Option (ℕ × ℕ)) (ticket : ℕ) → is_spared own (n, ticket) ≡ false
    → cancels_of (n + 1) own ticket ≡ cancels_of n own ticket ++ (n, messages.Cancel ticket) ∷ []
cancelled_more n own ticket e =
    cancelled_next n own ticket ∙ ap (λ b. cancels_of n own ticket ++ map (λ s. (s, messages.Cancel ticket)) (cond (not b) (n ∷ []) [])) e

pub cancelled_spared : (n : ℕ) (own : Option (ℕ × ℕ)) (ticket : ℕ) → is_spared own (n, ticket) ≡ true → cancels_of (n + 1) own ticket ≡ cancels_of n own ticket
cancelled_spared n own ticket e =
    cancelled_next n own ticket ∙ ap (λ b. cancels_of n own ticket ++ map (λ s. (s, messages.Cancel ticket)) (cond (not b) (n ∷ []) [])) e
    ∙ append-nil (cancels_of n own ticket)

-- one packet more, appended to those so far
pub one_more : {X : Type 0} (start before after xs ys : List X) (x : X) → after ≡ before ++ x ∷ []
    → before ≡ start ++ xs → ys ≡ xs ++ x ∷ [] → after ≡ start ++ ys
one_more start before after xs ys x e f g = e ∙ ap (λ l. l ++ x ∷ []) f ∙ append_assoc start xs (x ∷ []) ∙ ap (λ l. start ++ l) (sym g)

-- what the numbers so far give, and what one more gives
pub numbers_more : {X : Type 0} (f : ℕ → List X) (a n : ℕ) → flat_map f (range_with_len a (n + 1)) ≡ flat_map f (range_with_len a n) ++ f (a + n)
numbers_more f a n =
    rw add-one (ap (flat_map f) (range_more a n) ∙ flat_map-append f (range_with_len a n) ((a + n) ∷ [])
    ∙ ap (λ l. flat_map f (range_with_len a n) ++ l) (append-nil (f (a + n))))

-- An ask is at the place of its ticket.
at_end : {X : Type 0} (before rest : List X) (x : X) → slice_get (before ++ x ∷ rest) (length before) ≡ Some x
at_end [] rest x = refl
at_end (y ∷ before) rest x = at_end before rest x

module _ (P : Packet → Type 0) (count : ℕ) (pending : Pending) (each : (s k : ℕ) (ask : Ask) → s < count
    → ask_at pending k ≡ Some ask → P (s, messages.Ask k ask.remove ask.template)) where
  ask_there : (before rest : List Ask) (x : Ask) (n : ℕ) → asks pending.event ≡ before ++ x ∷ rest
      → n ≡ pending.first + length before → ask_at pending n ≡ Some x
  ask_there before rest x n parts place =
      let high : nat_lt n pending.first ≡ false = grind (arith, place) in
      let at : n - pending.first ≡ length before = omega (arith, place) in
      ap (λ b. cond b None (slice_get (asks pending.event) (n - pending.first))) high
      ∙ ap (slice_get (asks pending.event)) at
      ∙ ap (λ l. slice_get l (length before)) parts
      ∙ at_end before rest x

  to_each : (n : ℕ) (x : Ask) → ask_at pending n ≡ Some x → All (λ s. P (s, messages.Ask n x.remove x.template)) (range_with_len 0 count)
  to_each n x there =
      All-from_get_or (λ s. P (s, messages.Ask n x.remove x.template)) (range_with_len 0 count) 0
      (λ i within. let low : i < count = let l = length-range_with_len 0 count in omega arith in
      let at : i ≡ get_or (range_with_len 0 count) i 0 = let e = get_or-range_with_len 0 count i 0 low in omega arith in
      subst (λ s. P (s, messages.Ask n x.remove x.template)) at (each i n x low there))

  asks_from : (n : ℕ) (before xs : List Ask) → asks pending.event ≡ before ++ xs → n ≡ pending.first + length before
      → All P (flat_map (asks_to_all count) (enumerate_from n xs))
  asks_from n before [] parts place = All-nil P
  asks_from n before (x ∷ xs) parts place =
      let more : n + 1 ≡ pending.first + length (before ++ x ∷ []) = let l = length-append before (x ∷ []) in omega (arith, place, l) in
      All-append P (asks_to_all count (n, x)) (flat_map (asks_to_all count) (enumerate_from (n + 1) xs))
      (All-map P (λ s. (s, messages.Ask n x.remove x.template)) (range_with_len 0 count) (to_each n x (ask_there before xs x n parts place)))
      (asks_from (n + 1) (before ++ x ∷ []) xs (parts ∙ sym (append_assoc before (x ∷ []) xs)) more)

  -- What holds of an ask of each open ticket, to each server, holds of all Asks.
  pub all_asks : All P (ask_packets count pending)
  all_asks = asks_from pending.first [] (asks pending.event) refl (omega arith)
