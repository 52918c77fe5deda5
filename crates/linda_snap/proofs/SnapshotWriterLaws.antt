-- What a snapshot owes while tuples come and go, and how its steps write it.
use Rattle.std.proofs.Common.{◌≡◌, ℕ, suc, ◌<◌, ◌≤◌, ◌^◌, ◌==◌, true, false, cond, List, ◌∷◌, ◌++◌, length, Option}
use Rattle.std.proofs.Common.{Some, None, refl, sym, ap, subst, ◌∙◌, true≢false, ◌⊎◌, inl, inr, append_assoc}
use Rattle.std.proofs.Common.{append-nil, arith}
use Rattle.std.specs.Prelude.{IfSome, is_none, nat_lt, ◌-◌, if◌then◌else◌}
use Rattle.std.specs.Borrow.{Bor}
use Rattle.std.specs.Cmp.{unsigned_Decides}
use Rattle.std.specs.List.{flat_map, slice_get}
use Rattle.std.specs.FinMap.{get, insert, entries}
use Rattle.std.proofs.lemmas.Bool.{cases_lt, le-ltb, lt-ltb}
use Rattle.std.proofs.lemmas.List.Elements.{All-from_recursion}
use Rattle.linda_tuple.specs.Tuple.{Tuple}
use Rattle.linda_map_laws.proofs.MapLaws.{get_same, get_other}
use Rattle.linda_codec.specs.Formats.{number, short_number}
use Rattle.linda_store_state.specs.DeedFormat.{written}
use Rattle.linda_store_state.specs.declared.deed.Deed.{Deed}
use Rattle.linda_store_state.specs.Deed.{is_taken, outs_of}
use Rattle.linda_store_state.specs.After.{IsAfter}
use Rattle.linda_store_state.specs.State.{State, IsState}
use Rattle.linda_snap.specs.declared.snapshot_encoder.SnapshotEncoder.{SnapshotEncoder}
use Rattle.linda_snap.specs.Rising.{entries_from}
use Rattle.linda_snap.specs.Clients.{HasTuples}
use Rattle.linda_snap.specs.Snapshot.{placed, spell_state}
use Rattle.linda_snap.specs.SnapshotEncoder.{Tuples, Owes, IsThrough, IsFirst, IsFirstOwed, IsSafe, aside_of, first_of, owed_at, earlier_of, seen}
use Rattle.linda_snap.proofs.PuttingLaws.{few_tuples}
use Rattle.linda_snap.proofs.RisingLaws.{first_is, none_is, all_is, all_got}

module _ (snapshot : SnapshotEncoder) (now : Tuples) where
  owed_below : (id : ℕ) → id < snapshot.next → owed_at snapshot now id ≡ first_of (get now id) (get (aside_of snapshot) id)
  owed_below id lt = ap (λ b. cond b (first_of (get now id) (get (aside_of snapshot) id)) None) (lt-ltb id snapshot.next lt)

  owed_beyond : (id : ℕ) → snapshot.next ≤ id → owed_at snapshot now id ≡ None
  owed_beyond id le = ap (λ b. cond b (first_of (get now id) (get (aside_of snapshot) id)) None) (le-ltb id snapshot.next le)

  neither : (id : ℕ) → get now id ≡ None → get (aside_of snapshot) id ≡ None → owed_at snapshot now id ≡ None
  neither id gone none =
      elim (cases_lt id snapshot.next) [
        | inl lt ↦ owed_below id lt ∙ ap (λ o. first_of o (get (aside_of snapshot) id)) gone ∙ none
        | inr le ↦ owed_beyond id le
      ]

  none_owed : (from id : ℕ) → from ≤ id → ((k : ℕ) → from ≤ k → k < snapshot.next → get now k ≡ None)
      → ((k : ℕ) → from ≤ k → k < snapshot.next → get (aside_of snapshot) k ≡ None) → owed_at snapshot now id ≡ None
  none_owed from id le gone none =
      elim (cases_lt id snapshot.next) [
        | inl lt ↦ owed_below id lt ∙ ap (λ o. first_of o (get (aside_of snapshot) id)) (gone id le lt) ∙ none id le lt
        | inr beyond ↦ owed_beyond id beyond
      ]

  -- The earlier of the first tuple that is there and the first one that is aside is the first one that is owed.
  pub merged : (from : ℕ) (one other : Option (ℕ × Tuple)) → IsFirst now from snapshot.next one
      → IsFirst (aside_of snapshot) from snapshot.next other → IsFirstOwed snapshot now from (earlier_of one other)
  merged from None None h a = record { there = tt; above = tt; below = tt; least = tt; none = λ k le. none_owed from k le h.none a.none }
  merged from None (Some e) h a = record {
    there = owed_below e.0 a.below ∙ ap (λ o. first_of o (get (aside_of snapshot) e.0)) (h.none e.0 a.above a.below) ∙ a.there;
    above = a.above;
    below = a.below;
    least = λ k le lt. neither k (h.none k le (omega (arith, lt, a.below))) (a.least k le lt);
    none = tt;
  }
  merged from (Some e) None h a = record {
    there = owed_below e.0 h.below ∙ ap (λ o. first_of o (get (aside_of snapshot) e.0)) h.there;
    above = h.above;
    below = h.below;
    least = λ k le lt. neither k (h.least k le lt) (a.none k le (omega (arith, lt, h.below)));
    none = tt;
  }
  merged from (Some e) (Some f) h a =
      elim (cases_lt f.0 e.0) [
        | inl lt ↦ subst (IsFirstOwed snapshot now from) (sym (ap (λ b. cond b (Some f) (Some e)) (lt-ltb f.0 e.0 lt))) record {
          there = owed_below f.0 a.below ∙ ap (λ o. first_of o (get (aside_of snapshot) f.0)) (h.least f.0 a.above lt) ∙ a.there;
          above = a.above;
          below = a.below;
          least = λ k le less. neither k (h.least k le (omega (arith, less, lt))) (a.least k le less);
          none = tt;
        }
        | inr le ↦ subst (IsFirstOwed snapshot now from) (sym (ap (λ b. cond b (Some f) (Some e)) (le-ltb f.0 e.0 le))) record {
          there = owed_below e.0 h.below ∙ ap (λ o. first_of o (get (aside_of snapshot) e.0)) h.there;
          above = h.above;
          below = h.below;
          least = λ k low less. neither k (h.least k low less) (a.least k low (omega (arith, less, le)));
          none = tt;
        }
      ]

-- ---- the course of a snapshot

-- It once all tuples below that id are written.
abbrev pub moved : ℕ → SnapshotEncoder → SnapshotEncoder
moved from snapshot = record { from = from; next = snapshot.next; aside = snapshot.aside; book = snapshot.book; count = snapshot.count; len = snapshot.len }

pub one_more : (begun : State) (snapshot : SnapshotEncoder) (bytes piece : List ℕ) (now : Tuples) (e : ℕ × Tuple) → Owes begun snapshot bytes now
    → IsFirstOwed snapshot now snapshot.from (Some e) → piece ≡ (placed written).spell e
    → (placed written).Fits e → Owes begun (moved (suc e.0) snapshot) (bytes ++ piece) now
one_more begun snapshot bytes piece now e owes first is fits =
    let spell = (placed written).spell in
    let next : entries_from snapshot.from begun.bag ≡ e ∷ entries_from (suc e.0) begun.bag =
    first_is begun.bag snapshot.from e.0 e.1 (owes.owed e.0 first.above ∙ first.there) first.above (λ k low high. owes.owed k low ∙ first.least k low high)
    in record {
      parts =
          append_assoc bytes piece (flat_map spell (entries_from (suc e.0) begun.bag))
          ∙ ap (λ p. bytes ++ (p ++ flat_map spell (entries_from (suc e.0) begun.bag))) is
          ∙ ap (λ es. bytes ++ flat_map spell es) (sym next)
          ∙ owes.parts;
      owed = λ id le. owes.owed id (omega (arith, le, first.above));
      clients = owes.clients;
      fits = λ id lt. fit id (cases_lt id snapshot.from) (cases_lt id e.0) lt;
      known = owes.known;
    }
  where
    fit : (id : ℕ) → (id < snapshot.from) ⊎ (snapshot.from ≤ id) → (id < e.0) ⊎ (e.0 ≤ id) → id < suc e.0
        → IfSome (get begun.bag id) (λ row. (placed written).Fits (id, row))
    fit id (inl low) which lt = owes.fits id low
    fit id (inr from) (inl low) lt = subst (λ o. IfSome o (λ row. (placed written).Fits (id, row))) (sym (owes.owed id from ∙ first.least id from low)) tt
    fit id (inr from) (inr le) lt =
        let same : e.0 ≡ id = omega (arith, le, lt) in
        subst (λ k. IfSome (get begun.bag k) (λ row. (placed written).Fits (k, row))) same
        (subst (λ o. IfSome o (λ row. (placed written).Fits (e.0, row))) (sym (owes.owed e.0 first.above ∙ first.there)) fits)

pub no_more : (begun : State) (snapshot : SnapshotEncoder) (bytes : List ℕ) (now : Tuples)
    → Owes begun snapshot bytes now → IsFirstOwed snapshot now snapshot.from None → IsThrough begun snapshot
no_more begun snapshot bytes now owes first = λ k le. owes.owed k le ∙ first.none k le

-- What is owed does not depend on what is written.
same_first : (at : ℕ) (snapshot : SnapshotEncoder) (now : Tuples) (from : ℕ) (found : Option (ℕ × Tuple))
    → IsFirstOwed snapshot now from found → IsFirstOwed (moved at snapshot) now from found
same_first at snapshot now from found first = record { there = first.there; above = first.above; below = first.below; least = first.least; none = first.none }

-- One more tuple after those that were spelled before.
pub step_more : (begun : State) (snapshot : SnapshotEncoder) (bytes old new : List ℕ) (now : Tuples) (from next : ℕ) (e : ℕ × Tuple)
    → Owes begun (moved from snapshot) (bytes ++ old) now → IsFirstOwed snapshot now from (Some e) → new ≡ old ++ (placed written).spell e
    → (placed written).Fits e → next ≡ suc e.0 → Owes begun (moved next snapshot) (bytes ++ new) now
step_more begun snapshot bytes old new now from next e owes first is fits at =
    let more : Owes begun (moved (suc e.0) snapshot) ((bytes ++ old) ++ (placed written).spell e) now =
    one_more begun (moved from snapshot) (bytes ++ old) ((placed written).spell e) now e owes (same_first from snapshot now from (Some e) first) refl fits in
    subst (λ n. Owes begun (moved n snapshot) (bytes ++ new) now) (sym at)
    (subst (λ b. Owes begun (moved (suc e.0) snapshot) b now) (append_assoc bytes old ((placed written).spell e) ∙ ap (λ b. bytes ++ b) (sym is)) more)

pub through_if_none : (begun : State) (snapshot : SnapshotEncoder) (bytes : List ℕ) (now : Tuples) (found : Option (ℕ × Bor Tuple))
    → Owes begun snapshot bytes now → is_none found ≡ true → IsFirstOwed snapshot now snapshot.from (seen found) → IsThrough begun snapshot
through_if_none begun snapshot bytes now None owes none first = no_more begun snapshot bytes now owes first
through_if_none begun snapshot bytes now (Some e) owes none first = absurd (true≢false (sym none))

-- All tuples are written then.
pub all_tuples : (begun : State) (snapshot : SnapshotEncoder) (bytes : List ℕ) (now : Tuples) → Owes begun snapshot bytes now
    → IsThrough begun snapshot → length (spell_state written begun) < 2 ^ 32 → HasTuples begun bytes
all_tuples begun snapshot bytes now owes through short = record {
  parts = sym (append-nil bytes) ∙ ap (λ es. bytes ++ flat_map (placed written).spell es) (sym (none_is begun.bag snapshot.from through)) ∙ owes.parts;
  fits = (owes.known, (few_tuples begun short, All-from_recursion (placed written).Fits (entries begun.bag) (all_got (placed written).Fits begun.bag each)));
}
  where
    each : (id : ℕ) → IfSome (get begun.bag id) (λ row. (placed written).Fits (id, row))
    each id =
        elim (cases_lt id snapshot.from) [
          | inl lt ↦ owes.fits id lt
          | inr le ↦ subst (λ o. IfSome o (λ row. (placed written).Fits (id, row))) (sym (through id le)) tt
        ]

-- ---- what happens meanwhile

owed_as : (snapshot other : SnapshotEncoder) (now new : Tuples) (id : ℕ) → other.next ≡ snapshot.next
    → (id < snapshot.next → first_of (get now id) (get (aside_of snapshot) id) ≡ first_of (get new id) (get (aside_of other) id))
    → owed_at snapshot now id ≡ owed_at other new id
owed_as snapshot other now new id next same =
    elim (cases_lt id snapshot.next) [
      | inl lt ↦ owed_below snapshot now id lt ∙ same lt ∙ sym (owed_below other new id (omega (arith, next, lt)))
      | inr le ↦ owed_beyond snapshot now id le ∙ sym (owed_beyond other new id (omega (arith, next, le)))
    ]

-- ---- a list of deeds

-- Deeds take only tuples that are safe, so what was owed is owed still.
pub owes_after : (begun : State) (snapshot : SnapshotEncoder) (bytes : List ℕ) (st : State) (ds : List Deed) (new : State) → Owes begun snapshot bytes st.bag
    → snapshot.next ≤ st.next → IsAfter st ds new → ((id : ℕ) → is_taken id ds ≡ true → IsSafe snapshot st.bag id) → Owes begun snapshot bytes new.bag
owes_after begun snapshot bytes st ds new owes le after safe = record {
  parts = owes.parts;
  owed = λ q low. owes.owed q low ∙ owed_as snapshot snapshot st.bag new.bag q refl (λ lt. same q low lt);
  clients = owes.clients;
  fits = owes.fits;
  known = owes.known;
}
  where
    gone : (q : ℕ) → snapshot.from ≤ q → q < snapshot.next → IsSafe snapshot st.bag q → (o : Option Tuple)
        → get st.bag q ≡ o → first_of o (get (aside_of snapshot) q) ≡ get (aside_of snapshot) q
    gone q low lt is None there = refl
    gone q low lt is (Some row) there = sym (is low lt row there)

    same : (q : ℕ) → snapshot.from ≤ q → q < snapshot.next
        → first_of (get st.bag q) (get (aside_of snapshot) q) ≡ first_of (get new.bag q) (get (aside_of snapshot) q)
    same q low lt =
        elim (is_taken q ds) as (λ b. is_taken q ds ≡ b
        → first_of (get st.bag q) (get (aside_of snapshot) q) ≡ first_of (get new.bag q) (get (aside_of snapshot) q)) [
          | true ↦ λ is.
              gone q low lt (safe q is) (get st.bag q) refl
              ∙ ap (λ o. first_of o (get (aside_of snapshot) q))
              (sym (after.bag q ∙ ap (λ b. cond b None (if nat_lt q st.next then get st.bag q else slice_get (outs_of ds) (q - st.next))) is))
          | false ↦ λ is.
              ap (λ o. first_of o (get (aside_of snapshot) q))
              (sym (after.bag q
              ∙ ap (λ b. cond b None (if nat_lt q st.next then get st.bag q else slice_get (outs_of ds) (q - st.next))) is
              ∙ ap (λ b. cond b (get st.bag q) (slice_get (outs_of ds) (q - st.next))) (lt-ltb q st.next (omega (arith, lt, le)))))
        ] refl

-- A tuple that is there may be put aside too: what is owed is the same.
pub aside_too : (begun : State) (snapshot other : SnapshotEncoder) (bytes : List ℕ) (now : Tuples) (id : ℕ) (row : Tuple) → Owes begun snapshot bytes now
    → get now id ≡ Some row → other.from ≡ snapshot.from → other.next ≡ snapshot.next → other.book ≡ snapshot.book
    → other.count ≡ snapshot.count → aside_of other ≡ insert (aside_of snapshot) id row → Owes begun other bytes now
aside_too begun snapshot other bytes now id row owes there from next book count aside = record {
  parts = ap (λ n. bytes ++ flat_map (placed written).spell (entries_from n begun.bag)) from ∙ owes.parts;
  owed = λ q low. owes.owed q (omega (arith, from, low)) ∙ owed_as snapshot other now now q next (λ lt. same q);
  clients = (book ∙ owes.clients.0, count ∙ owes.clients.1);
  fits = λ q low. owes.fits q (omega (arith, from, low));
  known = owes.known;
}
  where
    same : (q : ℕ) → first_of (get now q) (get (aside_of snapshot) q) ≡ first_of (get now q) (get (aside_of other) q)
    same q =
        elim (q == id) as (λ b. (q == id) ≡ b → first_of (get now q) (get (aside_of snapshot) q) ≡ first_of (get now q) (get (aside_of other) q)) [
          | true ↦ λ is. here q ((unsigned_Decides q id).0 is)
          | false ↦ λ is.
              ap (λ o. first_of (get now q) o)
              (sym (get_other (aside_of snapshot) id row q (λ e. true≢false (sym ((unsigned_Decides q id).1 e) ∙ is))) ∙ ap (λ m. get m q) (sym aside))
        ] refl
      where
        here : (q : ℕ) → q ≡ id → first_of (get now q) (get (aside_of snapshot) q) ≡ first_of (get now q) (get (aside_of other) q)
        here q e =
            ap (λ k. first_of (get now k) (get (aside_of snapshot) k)) e
            ∙ ap (λ o. first_of o (get (aside_of snapshot) id)) there
            ∙ ap (λ o. first_of o (get (aside_of other) id)) (sym there)
            ∙ ap (λ k. first_of (get now k) (get (aside_of other) k)) (sym e)

-- What is owed goes by what is aside.
pub same_aside : (begun : State) (snapshot other : SnapshotEncoder) (bytes : List ℕ) (now : Tuples) → Owes begun snapshot bytes now
    → other.from ≡ snapshot.from → other.next ≡ snapshot.next → other.book ≡ snapshot.book
    → other.count ≡ snapshot.count → aside_of other ≡ aside_of snapshot → Owes begun other bytes now
same_aside begun snapshot other bytes now owes from next book count aside = record {
  parts = ap (λ n. bytes ++ flat_map (placed written).spell (entries_from n begun.bag)) from ∙ owes.parts;
  owed = λ q low. owes.owed q (omega (arith, from, low)) ∙ owed_as snapshot other now now q next (λ lt. ap (λ m. first_of (get now q) (get m q)) (sym aside));
  clients = (book ∙ owes.clients.0, count ∙ owes.clients.1);
  fits = λ q low. owes.fits q (omega (arith, from, low));
  known = owes.known;
}

-- What is put aside is safe, and what was safe is safe still.
pub safe_now : (snapshot other : SnapshotEncoder) (now : Tuples) (id : ℕ) (row : Tuple) → get now id ≡ Some row
    → aside_of other ≡ insert (aside_of snapshot) id row → IsSafe other now id
safe_now snapshot other now id row there aside low lt v is =
    ap (λ m. get m id) aside ∙ get_same (aside_of snapshot) id row ∙ sym there ∙ is

pub safe_still : (snapshot other : SnapshotEncoder) (now : Tuples) (id : ℕ) (row : Tuple) (q : ℕ) → get now id ≡ Some row → other.from ≡ snapshot.from
    → other.next ≡ snapshot.next → aside_of other ≡ insert (aside_of snapshot) id row → IsSafe snapshot now q → IsSafe other now q
safe_still snapshot other now id row q there from next aside safe low lt v is =
    elim (q == id) as (λ b. (q == id) ≡ b → get (aside_of other) q ≡ Some v) [
      | true ↦ λ e. subst (λ k. get now k ≡ Some v → get (aside_of other) k ≡ Some v) (sym ((unsigned_Decides q id).0 e))
          (safe_now snapshot other now id row there aside (low_at ((unsigned_Decides q id).0 e)) (lt_at ((unsigned_Decides q id).0 e)) v) is
      | false ↦ λ e. ap (λ m. get m q) aside ∙ get_other (aside_of snapshot) id row q (λ same. true≢false (sym ((unsigned_Decides q id).1 same) ∙ e))
          ∙ safe (omega (arith, from, low)) (omega (arith, next, lt)) v is
    ] refl
  where
    low_at : q ≡ id → other.from ≤ id
    low_at same = omega (arith, same, low)

    lt_at : q ≡ id → id < other.next
    lt_at same = omega (arith, same, lt)

-- ---- its beginning

beyond : (st : State) → IsState st → (id : ℕ) → st.next ≤ id → get st.bag id ≡ None
beyond st ranges id le = by (get st.bag id) (ranges.ids id)
  where
    by : (o : Option Tuple) → IfSome o (λ _. (1 ≤ id) × (id < st.next)) → o ≡ None
    by None low = refl
    by (Some row) low = absurd (omega (arith, low.1, le))

pub begun : (st : State) (snapshot : SnapshotEncoder) (bytes : List ℕ) → IsState st → snapshot.from ≡ 0 → snapshot.next ≡ st.next
    → ((id : ℕ) → get (aside_of snapshot) id ≡ None) → snapshot.book ≡ st.book → snapshot.count ≡ length (entries st.book)
    → bytes ≡ number.spell st.next ++ short_number.spell (length (entries st.bag)) → Owes st snapshot bytes st.bag
begun st snapshot bytes ranges from next none clients count_is is =
    let spell = (placed written).spell in
    let count = short_number.spell (length (entries st.bag)) in record {
      parts =
          ap (λ n. bytes ++ flat_map spell (entries_from n st.bag)) from
          ∙ ap (λ es. bytes ++ flat_map spell es) (all_is st.bag)
          ∙ ap (λ b. b ++ flat_map spell (entries st.bag)) is
          ∙ append_assoc (number.spell st.next) count (flat_map spell (entries st.bag));
      owed = λ id low.
          elim (cases_lt id snapshot.next) [
            | inl lt ↦ sym (owed_below snapshot st.bag id lt ∙ ap (λ o. first_of (get st.bag id) o) (none id) ∙ itself (get st.bag id))
            | inr le ↦ beyond st ranges id (omega (arith, next, le)) ∙ sym (owed_beyond snapshot st.bag id le)
          ];
      clients = (clients, count_is);
      fits = λ id lt. absurd (omega (arith, from, lt));
      known = omega (arith, ranges.next_high);
    }
  where
    itself : (o : Option Tuple) → first_of o None ≡ o
    itself None = refl
    itself (Some row) = refl
