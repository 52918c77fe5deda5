-- How the bytes of a book change with an entry, and what a copy of it keeps while it is made.
use Rattle.std.proofs.Common.{◌≡◌, ◌≢◌, ℕ, suc, ◌+◌, ◌<◌, ◌≤◌, ◌||◌, nat_lt, Bool, true, false, cond, List, [], ◌∷◌}
use Rattle.std.proofs.Common.{length, Option, None, Some, refl, sym, ap, subst, ◌∙◌, length-append, inl, inr, ne_eqb}
use Rattle.std.proofs.Common.{nat_cmp, arith}
use Rattle.std.specs.Prelude.{OnSome}
use Rattle.std.specs.Option.{option_map, unwrap_or}
use Rattle.std.specs.Map.{values_of}
use Rattle.std.specs.List.{flat_map, sum_by}
use Rattle.std.specs.FinMap.{get, insert, empty, entries, len-entries, len-empty}
use Rattle.std.proofs.lemmas.Bool.{cases_eq, cases_lt, le-ltb, lt-ltb}
use Rattle.std.proofs.lemmas.List.{nil_from_length}
use Rattle.std.proofs.lemmas.List.Sums.{sum_by-cons}
use Rattle.linda_map_laws.proofs.MapLaws.{get_same, get_other, get_empty, same_map}
use Rattle.linda_map_laws.proofs.SumLaws.{sum_inserted}
use Rattle.linda_book.specs.Entries.{Entry}
use Rattle.linda_codec.specs.Formats.{number}
use Rattle.linda_store_state.specs.declared.deed.Deed.{Deed}
use Rattle.linda_store_state.specs.Deed.{client_of, last_of, last_with}
use Rattle.linda_store_state.specs.After.{entry_after}
use Rattle.linda_store_state.specs.DeedFormat.{written}
use Rattle.linda_store_state.specs.State.{State, IsState}
use Rattle.linda_store_state.proofs.ProperLaws.{none_done}
use Rattle.linda_snap.specs.declared.book_copy.BookCopy.{BookCopy}
use Rattle.linda_snap.specs.BookCopy.{Clients, reaches, Copies, entry_bytes, bytes_at}
use Rattle.linda_snap.specs.Replay.{GoesOn}
use Rattle.linda_snap.specs.Rising.{first_after}
use Rattle.linda_snap.specs.Snapshot.{kept, reply, clients_bytes}

pub on_some : {T : Type 0} (A B : Type 0) (o : Option T) → (A → B) → OnSome o A → OnSome o B
on_some A B None f a = tt
on_some A B (Some x) f a = f a

-- ---- bytes

one_entry : (e : ℕ × Entry) → length ((kept written).spell e) ≡ entry_bytes e.1
one_entry e = omega (arith, length-append (number.spell e.1.0) ((reply written).spell e.1.1))

all_entries : (es : List (ℕ × Entry)) → length (flat_map (kept written).spell es) ≡ sum_by entry_bytes (values_of es)
all_entries [] = refl
all_entries (e ∷ es) =
    let all = length-append ((kept written).spell e) (flat_map (kept written).spell es) in
    omega (arith, all, one_entry e, all_entries es, sum_by-cons entry_bytes e.1 (values_of es))

read_at : (o : Option Entry) → unwrap_or (option_map entry_bytes o) 0 ≡ bytes_at o
read_at None = refl
read_at (Some entry) = refl

-- With an insertion the bytes of the new entry come, and those of the old one go.
pub put_bytes : (m : Clients) (k : ℕ) (v : Entry) → clients_bytes (insert m k v) + bytes_at (get m k) ≡ clients_bytes m + entry_bytes v
put_bytes m k v =
    let sums = ap (λ n. sum_by entry_bytes (values_of (entries (insert m k v))) + n) (sym (read_at (get m k))) ∙ sum_inserted entry_bytes m k v in
    omega (arith, sums, all_entries (entries (insert m k v)), all_entries (entries m))

-- No clients have no bytes.
pub no_bytes : clients_bytes empty ≡ 0
no_bytes = ap (λ (es : List (ℕ × Entry)). length (flat_map (kept written).spell es))
    (nil_from_length (entries (empty {X = Entry} {R = nat_cmp})) (sym (len-entries empty) ∙ len-empty nat_cmp Entry))

-- ---- the copy goes on

-- What a copy has that has come so far.
abbrev pub Has : Clients → Option ℕ → Bool → Clients → Type 0
Has mine last whole book = (c : ℕ) → get mine c ≡ cond (whole || nat_lt c (first_after last)) (get book c) None

pub none_yet : (mine book : Clients) → mine ≡ empty → Has mine None false book
none_yet mine book is c = ap (λ m. get m c) is ∙ get_empty c ∙ sym (ap (λ b. cond b (get book c) None) (le-ltb c 0 (omega arith)))

-- The first client after those that are copied is copied too.
pub one_more : (old now book : Clients) (last : Option ℕ) (key : ℕ) (e : Entry) → Has old last false book → get book key ≡ Some e
    → first_after last ≤ key → ((c : ℕ) → first_after last ≤ c → c < key → get book c ≡ None) → now ≡ insert old key e → Has now (Some key) false book
one_more old now book last key e so_far there le least is c = ap (λ m. get m c) is ∙ by
  where
    was : (q : ℕ) → q < first_after last → get old q ≡ get book q
    was q lt = so_far q ∙ ap (λ b. cond b (get book q) None) (lt-ltb q (first_after last) lt)

    was_none : (q : ℕ) → first_after last ≤ q → get old q ≡ None
    was_none q from = so_far q ∙ ap (λ b. cond b (get book q) None) (le-ltb q (first_after last) from)

    inside : (q : ℕ) → q < suc key → cond (nat_lt q (suc key)) (get book q) None ≡ get book q
    inside q lt = ap (λ b. cond b (get book q) None) (lt-ltb q (suc key) lt)

    by : get (insert old key e) c ≡ cond (nat_lt c (suc key)) (get book c) None
    by =
        elim (cases_lt c key) [
          | inl lt ↦ get_other old key e c (λ same. omega (arith, same, lt)) ∙ (elim (cases_lt c (first_after last)) [
            | inl less ↦ was c less
            | inr more ↦ was_none c more ∙ sym (least c more lt)
          ]) ∙ sym (inside c (omega (arith, lt)))
          | inr ge ↦ elim (cases_lt key c) [
            | inl lt ↦ get_other old key e c (λ same. omega (arith, same, lt)) ∙ was_none c (omega (arith, lt, le))
                ∙ sym (ap (λ b. cond b (get book c) None) (le-ltb c (suc key) (omega (arith, lt))))
            | inr upto ↦
                let same : key ≡ c = omega (arith, upto, ge) in
                subst (λ k. get (insert old key e) k ≡ get book k) same (get_same old key e ∙ sym there) ∙ sym (inside c (omega (arith, upto)))
          ]
        ]

-- If there is none, all are copied.
pub no_more : (mine book : Clients) (last : Option ℕ) → Has mine last false book
    → ((c : ℕ) → first_after last ≤ c → get book c ≡ None) → Has mine last true book
no_more mine book last so_far none c =
    so_far c ∙ (elim (cases_lt c (first_after last)) [
      | inl lt ↦ ap (λ b. cond b (get book c) None) (lt-ltb c (first_after last) lt)
      | inr from ↦ ap (λ b. cond b (get book c) None) (le-ltb c (first_after last) from) ∙ sym (none c from)
    ])

pub whole_is : (copy : BookCopy) (book : Clients) → Copies copy book → copy.is_whole ≡ true → copy.book ≡ book
whole_is copy book copies whole = same_map copy.book book (λ c. copies c ∙ ap (λ w. cond (w || nat_lt c (first_after copy.last)) (get book c) None) whole)

pub whole_bytes : (copy : BookCopy) (book : Clients) → Copies copy book → copy.is_whole ≡ true → copy.bytes ≡ clients_bytes book
whole_bytes copy book copies whole = copy.counted ∙ ap clients_bytes (whole_is copy book copies whole)

-- ---- what is done meanwhile

-- It is a copy of this book but for the clients of these deeds.
pub record CopiesBut (copy : BookCopy) (ds : List Deed) (book : Clients) : Type 0 where
  pub same : (c : ℕ) → reaches copy c ≡ true → last_of c ds ≡ None → get copy.book c ≡ get book c
  pub none : (c : ℕ) → reaches copy c ≡ false → get copy.book c ≡ None

-- A deed changes the entry of its own client, and no other one.
others_stay : (old new : State) (ds : List Deed) (c : ℕ) → IsState old → GoesOn old ds new → last_of c ds ≡ None → get new.book c ≡ get old.book c
others_stay old new ds c ranges goes none = (goes old [] ranges (none_done old ranges)).after.book c ∙ ap (entry_after old c) none

pub copies_but : (copy : BookCopy) (ds : List Deed) (old new : State) (book : Clients) → IsState old
    → GoesOn old ds new → new.book ≡ book → Copies copy old.book → CopiesBut copy ds book
copies_but copy ds old new book ranges goes is copies = record {
  same = λ c within none. copies c ∙ ap (λ b. cond b (get old.book c) None) within ∙ sym (others_stay old new ds c ranges goes none) ∙ ap (λ m. get m c) is;
  none = λ c beyond. copies c ∙ ap (λ b. cond b (get old.book c) None) beyond;
}

pub but_for_none : (copy : BookCopy) (book : Clients) → CopiesBut copy [] book → Copies copy book
but_for_none copy book but c = by (reaches copy c) refl
  where
    by : (b : Bool) → reaches copy c ≡ b → get copy.book c ≡ cond (reaches copy c) (get book c) None
    by true e = but.same c e refl ∙ sym (ap (λ b. cond b (get book c) None) e)
    by false e = but.none c e ∙ sym (ap (λ b. cond b (get book c) None) e)

-- Those of the first one are copied again.
pub first_again : (old new : BookCopy) (d : Deed) (ds : List Deed) (book : Clients) (client : ℕ) → client ≡ client_of d → CopiesBut old (d ∷ ds) book
    → (reaches new client ≡ true → get new.book client ≡ get book client) → (reaches new client ≡ false → get new.book client ≡ get old.book client)
    → ((c : ℕ) → c ≢ client → get new.book c ≡ get old.book c) → new.last ≡ old.last → new.is_whole ≡ old.is_whole → CopiesBut new ds book
first_again old new d ds book client is but here none others last whole = record { same = same; none = nothing }
  where
    alike : (c : ℕ) → reaches new c ≡ reaches old c
    alike c = ap (λ w. w || nat_lt c (first_after new.last)) whole ∙ ap (λ l. old.is_whole || nat_lt c (first_after l)) last

    same : (c : ℕ) → reaches new c ≡ true → last_of c ds ≡ None → get new.book c ≡ get book c
    same c within later =
        elim (cases_eq c client) [
          | inl e ↦ subst (λ k. get new.book k ≡ get book k) (sym e) (here (ap (reaches new) (sym e) ∙ within))
          | inr apart ↦
              let first : last_of c (d ∷ ds) ≡ None = ap (last_with c d) later
              ∙ ap (λ b. cond b (Some ([], d)) None) (ne_eqb (client_of d) c (λ e. apart (sym (is ∙ e)))) in
              others c apart ∙ but.same c (sym (alike c) ∙ within) first
        ]

    nothing : (c : ℕ) → reaches new c ≡ false → get new.book c ≡ None
    nothing c beyond =
        elim (cases_eq c client) [
          | inl e ↦ subst (λ k. get new.book k ≡ get old.book k) (sym e) (none (ap (reaches new) (sym e) ∙ beyond)) ∙ but.none c (sym (alike c) ∙ beyond)
          | inr apart ↦ others c apart ∙ but.none c (sym (alike c) ∙ beyond)
        ]
