-- The Cancels at the end of a synchronization are exactly those that are due.
use Rattle.std.proofs.Common.{◌≡◌, ℕ, zero, suc, ◌+◌, ◌<◌, ◌≤◌, inl, inr, ◌↔◌, Bool, true, false, cond, not, List, []}
use Rattle.std.proofs.Common.{◌∷◌, map, refl, sym, ap, subst, ◌∙◌, arith}
use Rattle.std.specs.Prelude.{All, Contains, filter, flat_map, Option}
use Rattle.std.specs.List.{range_with_len}
use Rattle.std.proofs.lemmas.Bool.{cases_eq}
use Rattle.std.proofs.lemmas.List.Elements.{All-nil, All-cons, All-append, All-contains, Contains-append_left, Contains-append_right}
use Rattle.linda_wire.specs.declared.message.Message.TheVariants as messages
use Rattle.linda_client.specs.Pending.{Pending, ticket_count}
use Rattle.linda_client.specs.Packets.{Packet, cancels_but, cancels_of, is_spared}
use Rattle.linda_client.specs.Ending.{IsCancel, IsDue}
use Rattle.linda_client.proofs.TestLaws.{not_true}

row_step : (P : Packet → Type 0) (f : ℕ → Packet) (b : Bool) (a : ℕ) (xs : List ℕ) → (b ≡ true → P (f a))
    → All P (map f xs) → All P (map f (cond b (a ∷ xs) xs))
row_step P f true a xs h rest = All-cons P (f a) (map f xs) (h refl) rest
row_step P f false a xs h rest = rest

-- what holds of each number that passes holds of all
all_row : (P : Packet → Type 0) (f : ℕ → Packet) (p : ℕ → Bool) (a n : ℕ)
    → ((s : ℕ) → a ≤ s → s < a + n → p s ≡ true → P (f s)) → All P (map f (filter p (range_with_len a n)))
all_row P f p a zero h = All-nil P
all_row P f p a (suc n) h =
    row_step P f (p a) a (filter p (range_with_len (a + 1) n)) (h a (omega arith) (omega arith))
    (all_row P f p (a + 1) n (λ s low high e. h s (omega arith) (omega arith) e))

has_head : (f : ℕ → Packet) (b : Bool) (a : ℕ) (xs : List ℕ) → b ≡ true → Contains (map f (cond b (a ∷ xs) xs)) (f a)
has_head f true a xs e = Contains-append_left (f a ∷ []) (map f xs) (f a) (0, omega arith, refl)
has_head f false a xs e = cc

has_tail : (f : ℕ → Packet) (b : Bool) (a : ℕ) (xs : List ℕ) (y : Packet) → Contains (map f xs) y → Contains (map f (cond b (a ∷ xs) xs)) y
has_tail f true a xs y h = Contains-append_right (f a ∷ []) (map f xs) y h
has_tail f false a xs y h = h

-- each number that passes is there
has_row : (f : ℕ → Packet) (p : ℕ → Bool) (a n s : ℕ) → a ≤ s → s < a + n → p s ≡ true → Contains (map f (filter p (range_with_len a n))) (f s)
has_row f p a zero s low high e = absurd (omega arith)
has_row f p a (suc n) s low high e = elim (cases_eq a s) [
  | inl same ↦
      let at : p a ≡ true = ap p same ∙ e in
      subst (λ x. Contains (map f (filter p (range_with_len a (suc n)))) (f x)) same (has_head f (p a) a (filter p (range_with_len (a + 1) n)) at)
  | inr apart ↦ has_tail f (p a) a (filter p (range_with_len (a + 1) n)) (f s) (has_row f p (a + 1) n s (omega arith) (omega arith) e)
]

all_flat : (P : Packet → Type 0) (f : ℕ → List Packet) (a n : ℕ) → ((t : ℕ) → a ≤ t → t < a + n → All P (f t)) → All P (flat_map f (range_with_len a n))
all_flat P f a zero h = All-nil P
all_flat P f a (suc n) h =
    All-append P (f a) (flat_map f (range_with_len (a + 1) n)) (h a (omega arith) (omega arith))
    (all_flat P f (a + 1) n (λ t low high. h t (omega arith) (omega arith)))

has_flat : (f : ℕ → List Packet) (a n t : ℕ) (y : Packet) → a ≤ t → t < a + n → Contains (f t) y → Contains (flat_map f (range_with_len a n)) y
has_flat f a zero t y low high h = absurd (omega arith)
has_flat f a (suc n) t y low high h = elim (cases_eq a t) [
  | inl same ↦ Contains-append_left (f a) (flat_map f (range_with_len (a + 1) n)) y (subst (λ x. Contains (f x) y) (sym same) h)
  | inr apart ↦ Contains-append_right (f a) (flat_map f (range_with_len (a + 1) n)) y (has_flat f (a + 1) n t y (omega arith) (omega arith) h)
]

-- What holds of each Cancel that is due holds of all Cancels.
pub all_cancels : (P : Packet → Type 0) (count : ℕ) (own : Option (ℕ × ℕ)) (pending : Pending)
    → ((s k : ℕ) → IsDue count pending own s k → P (s, messages.Cancel k)) → All P (cancels_but count own pending)
all_cancels P count own pending each =
    all_flat P (cancels_of count own) pending.first (ticket_count pending)
    (λ t low high. all_row P (λ s. (s, messages.Cancel t)) (λ s. not (is_spared own (s, t))) 0 count
    (λ s from below e. each s t (record { server_is = omega arith; from = low; below = high; apart = not_true (is_spared own (s, t)) e })))

-- a Cancel that is due
Due : ℕ → Pending → Option (ℕ × ℕ) → Packet → Type 0
Due count pending own (server, messages.Cancel ticket) = IsDue count pending own server ticket
Due count pending own _ = ⊥

all_due : (count : ℕ) (own : Option (ℕ × ℕ)) (pending : Pending) → All (Due count pending own) (cancels_but count own pending)
unfolding Due
all_due count own pending = all_cancels (Due count pending own) count own pending (λ s k due. due)

-- Only Cancels are sent.
pub only_cancels : (count : ℕ) (own : Option (ℕ × ℕ)) (pending : Pending) → All IsCancel (cancels_but count own pending)
only_cancels count own pending = all_cancels IsCancel count own pending (λ s k due. tt)

due_from : (count : ℕ) (own : Option (ℕ × ℕ)) (pending : Pending) (server ticket : ℕ)
    → Contains (cancels_but count own pending) (server, messages.Cancel ticket) → IsDue count pending own server ticket
unfolding Due
due_from count own pending server ticket h =
    All-contains (Due count pending own) (cancels_but count own pending) (server, messages.Cancel ticket) (all_due count own pending) h

there_when_due : (count : ℕ) (own : Option (ℕ × ℕ)) (pending : Pending) (server ticket : ℕ)
    → IsDue count pending own server ticket → Contains (cancels_but count own pending) (server, messages.Cancel ticket)
there_when_due count own pending server ticket due =
    has_flat (cancels_of count own) pending.first (ticket_count pending) ticket (server, messages.Cancel ticket) due.from due.below
    (let h : 0 ≤ server = omega arith in
    let k : server < 0 + count = let b = due.server_is in omega arith in
    has_row (λ s. (s, messages.Cancel ticket)) (λ s. not (is_spared own (s, ticket))) 0 count server h k (ap not due.apart))

-- A ticket is cancelled at a server exactly if that is due.
pub cancels_exactly : (count : ℕ) (own : Option (ℕ × ℕ)) (pending : Pending) (server ticket : ℕ)
    → Contains (cancels_but count own pending) (server, messages.Cancel ticket) ↔ IsDue count pending own server ticket
cancels_exactly count own pending server ticket = (due_from count own pending server ticket, there_when_due count own pending server ticket)
