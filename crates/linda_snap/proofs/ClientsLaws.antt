-- How the clients of a snapshot are written in steps, and their book is copied.
use Rattle.std.proofs.Common.{◌≡◌, ℕ, suc, ◌<◌, ◌≤◌, ◌^◌, List, [], ◌∷◌, ◌++◌, length, Option, Some, None, sym, ap}
use Rattle.std.proofs.Common.{subst, ◌∙◌, append_assoc, append-nil, inl, inr, arith}
use Rattle.std.specs.List.{flat_map, AllByRecursion}
use Rattle.std.specs.Ordering.{nat_cmp}
use Rattle.std.specs.FinMap.{FinMap, get, insert, entries, empty}
use Rattle.std.proofs.lemmas.Bool.{cases_lt}
use Rattle.std.proofs.lemmas.List.Elements.{All-from_recursion}
use Rattle.linda_map_laws.proofs.MapLaws.{get_same, get_other, get_empty, same_map}
use Rattle.linda_book.specs.Entries.{Entry}
use Rattle.linda_codec.specs.Formats.{number, short_number}
use Rattle.linda_store_state.specs.DeedFormat.{written}
use Rattle.linda_store_state.specs.State.{State}
use Rattle.linda_snap.specs.declared.clients.Clients.{Clients}
use Rattle.linda_snap.specs.Clients.{HasTuples, OwesClients, AreThrough}
use Rattle.linda_snap.specs.Rising.{entries_from, first_after}
use Rattle.linda_snap.specs.Snapshot.{listed, placed, kept, spell_state, FitsState}
use Rattle.linda_snap.proofs.PuttingLaws.{few_clients}
use Rattle.linda_snap.proofs.RisingLaws.{all_is}

-- They once all up to that one are written.
abbrev pub up_to : Option ℕ → Clients → Clients
up_to last clients = record { book = clients.book; last = last }

-- ---- they are written

-- Their count is written after the tuples.
pub counted : (begun : State) (clients : Clients) (bytes count : List ℕ) → HasTuples begun bytes → clients.book ≡ begun.book
    → clients.last ≡ None → count ≡ short_number.spell (length (entries begun.book)) → OwesClients begun clients (bytes ++ count)
counted begun clients bytes count has same none is =
    let spell = (kept written).spell in
    let all = entries begun.book in
    let from : entries_from (first_after clients.last) begun.book ≡ all = ap (λ o. entries_from (first_after o) begun.book) none ∙ all_is begun.book in
    record {
      same = same;
      parts =
          ap (λ es. (bytes ++ count) ++ flat_map spell es) from
          ∙ ap (λ b. (b ++ count) ++ flat_map spell all) has.parts
          ∙ ap (λ c. ((number.spell begun.next ++ (listed (placed written)).spell (entries begun.bag)) ++ c) ++ flat_map spell all) is
          ∙ append_assoc (number.spell begun.next ++ (listed (placed written)).spell (entries begun.bag)) (short_number.spell (length all)) (flat_map spell all)
          ∙ append_assoc (number.spell begun.next) ((listed (placed written)).spell (entries begun.bag))
          (short_number.spell (length all) ++ flat_map spell all);
      fits = λ fit. subst (AllByRecursion (kept written).Fits) from fit;
      tuples = has.fits;
    }

-- One more is.
pub one_client : (begun : State) (clients : Clients) (bytes old new : List ℕ) (last next : Option ℕ) (e : ℕ × Entry)
    → OwesClients begun (up_to last clients) (bytes ++ old) → entries_from (first_after last) clients.book ≡ e ∷ entries_from (suc e.0) clients.book
    → next ≡ Some e.0 → new ≡ old ++ (kept written).spell e → (kept written).Fits e
    → OwesClients begun (up_to next clients) (bytes ++ new)
one_client begun clients bytes old new last next e owes first at is fit =
    let spell = (kept written).spell in
    let of : entries_from (first_after last) begun.book ≡ e ∷ entries_from (first_after next) begun.book =
    subst (λ b. entries_from (first_after last) b ≡ e ∷ entries_from (suc e.0) b) owes.same first
    ∙ ap (λ o. e ∷ entries_from (first_after o) begun.book) (sym at)
    in record {
      same = owes.same;
      parts =
          ap (λ b. (bytes ++ b) ++ flat_map spell (entries_from (first_after next) begun.book)) is
          ∙ append_assoc bytes (old ++ spell e) (flat_map spell (entries_from (first_after next) begun.book))
          ∙ ap (λ l. bytes ++ l) (append_assoc old (spell e) (flat_map spell (entries_from (first_after next) begun.book)))
          ∙ sym (append_assoc bytes old (spell e ++ flat_map spell (entries_from (first_after next) begun.book)))
          ∙ ap (λ es. (bytes ++ old) ++ flat_map spell es) (sym of)
          ∙ owes.parts;
      fits = λ all. owes.fits (subst (AllByRecursion (kept written).Fits) (sym of) (fit, all));
      tuples = owes.tuples;
    }

-- Once none is still to come all is written, and has a spelling.
pub all_clients : (begun : State) (clients : Clients) (bytes : List ℕ) → OwesClients begun clients bytes
    → AreThrough clients → bytes ≡ spell_state written begun
all_clients begun clients bytes owes through =
    let none = subst (λ b. entries_from (first_after clients.last) b ≡ []) owes.same through in
    sym (append-nil bytes) ∙ ap (λ es. bytes ++ flat_map (kept written).spell es) (sym none) ∙ owes.parts

pub clients_fit : (begun : State) (clients : Clients) (bytes : List ℕ) → OwesClients begun clients bytes
    → AreThrough clients → length (spell_state written begun) < 2 ^ 32 → FitsState written begun
clients_fit begun clients bytes owes through short =
    let none = subst (λ b. entries_from (first_after clients.last) b ≡ []) owes.same through in (
      owes.tuples.0,
      (
        owes.tuples.1,
        (
          few_clients begun short,
          All-from_recursion (kept written).Fits (entries begun.book)
              (owes.fits (subst (AllByRecursion (kept written).Fits) (sym none) tt)),
        ),
      ),
    )

-- ---- the copy

-- The entries below a key are copied, and no others.
pub record IsCopiedTo (book copy : FinMap nat_cmp Entry) (from : ℕ) : Type 0 where
  pub below : (c : ℕ) → c < from → get copy c ≡ get book c
  pub above : (c : ℕ) → from ≤ c → get copy c ≡ None

pub none_copied : (book copy : FinMap nat_cmp Entry) → copy ≡ empty → IsCopiedTo book copy 0
none_copied book copy is = record {
  below = λ c lt. absurd (omega (arith, lt));
  above = λ c le. ap (λ m. get m c) is ∙ get_empty c;
}

pub one_copied : (book copy new : FinMap nat_cmp Entry) (from key next : ℕ) (e : Entry) → IsCopiedTo book copy from → get book key ≡ Some e
    → from ≤ key → ((c : ℕ) → from ≤ c → c < key → get book c ≡ None) → new ≡ insert copy key e → next ≡ suc key → IsCopiedTo book new next
one_copied book copy new from key next e so_far there le least is at = record {
  below = λ c lt. ap (λ m. get m c) is ∙ low c (omega (arith, at, lt));
  above = λ c low. ap (λ m. get m c) is ∙ get_other copy key e c (λ same. omega (arith, same, at, low)) ∙ so_far.above c (omega (arith, at, low, le));
}
  where
    low : (c : ℕ) → c ≤ key → get (insert copy key e) c ≡ get book c
    low c upto =
        elim (cases_lt c key) [
          | inl lt ↦ get_other copy key e c (λ same. omega (arith, same, lt)) ∙ (elim (cases_lt c from) [
            | inl less ↦ so_far.below c less
            | inr more ↦ so_far.above c more ∙ sym (least c more lt)
          ])
          | inr ge ↦
              let same : key ≡ c = omega (arith, upto, ge) in
              subst (λ k. get (insert copy key e) k ≡ get book k) same (get_same copy key e ∙ sym there)
        ]

pub all_copied : (book copy : FinMap nat_cmp Entry) (from : ℕ) → IsCopiedTo book copy from → ((c : ℕ) → from ≤ c → get book c ≡ None) → copy ≡ book
all_copied book copy from so_far none = same_map copy book (λ c.
    elim (cases_lt c from) [
      | inl lt ↦ so_far.below c lt
      | inr le ↦ so_far.above c le ∙ sym (none c le)
    ])
