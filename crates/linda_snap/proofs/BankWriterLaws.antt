-- How a new bank goes on that is written in steps.
use Rattle.std.proofs.Common.{◌≡◌, ℕ, ◌+◌, ◌<◌, ◌≤◌, ◌^◌, List, [], ◌++◌, length, Option, Some}
use Rattle.std.proofs.Common.{None, Result, Ok, Err, refl, sym, ap, subst, ◌∙◌, append_assoc, append-nil}
use Rattle.std.proofs.Common.{arith}
use Rattle.std.specs.Prelude.{IfOk, IfSome, IfNone}
use Rattle.std.specs.FinMap.{FinMap, entries}
use Rattle.std.specs.Global.{Vec}
use Rattle.std.specs.Ordering.{nat_cmp}
use Rattle.std.proofs.lemmas.List.Elements.{All-nil}
use Rattle.linda_store_state.specs.DeedFormat.{written}
use Rattle.linda_store_state.specs.State.{State, IsState}
use Rattle.linda_store_state.proofs.ProperLaws.{none_done}
use Rattle.linda_journal.specs.declared.limits.TheConstants.{MIN_BYTES}
use Rattle.linda_journal.specs.Records.{IsRecord}
use Rattle.linda_book.specs.Entries.{Entry}
use Rattle.linda_snap.specs.declared.clients.Clients.{Clients}
use Rattle.linda_snap.specs.declared.snapshot_encoder.SnapshotEncoder.{SnapshotEncoder}
use Rattle.linda_snap.specs.declared.bank_writer.BankWriter.{BankWriter}
use Rattle.linda_snap.specs.declared.deed_log.DeedLog.{DeedLog}
use Rattle.linda_snap.specs.Clients.{HasTuples, OwesClients, AreThrough}
use Rattle.linda_snap.specs.SnapshotEncoder.{Tuples, Owes, IsThrough}
use Rattle.linda_snap.specs.Snapshot.{spell_state, FitsState}
use Rattle.linda_snap.specs.BankWriter.{Follows, IsBehindTuples, heading}
use Rattle.linda_snap.proofs.ClientsLaws.{all_clients, clients_fit}

-- It with this snapshot writer, these records, and so many of them.
abbrev pub with_snapshot : BankWriter → Option SnapshotEncoder → BankWriter
with_snapshot s snapshot = record {
  generation = s.generation;
  limit = s.limit;
  len = s.len;
  snapshot = snapshot;
  clients = s.clients;
  since = s.since;
  records = s.records;
}

abbrev pub with_clients : BankWriter → Option SnapshotEncoder → Option Clients → BankWriter
with_clients s snapshot clients = record {
  generation = s.generation;
  limit = s.limit;
  len = s.len;
  snapshot = snapshot;
  clients = clients;
  since = s.since;
  records = s.records;
}

abbrev pub with_since : BankWriter → DeedLog → ℕ → BankWriter
with_since s since records = record {
  generation = s.generation;
  limit = s.limit;
  len = s.len;
  snapshot = s.snapshot;
  clients = s.clients;
  since = since;
  records = records;
}

-- What the snapshot writer owes of the body, before any record is written.
abbrev pub OwesAll : State → List ℕ → List ℕ → State → SnapshotEncoder → Type 0
OwesAll begun body tail st d = Owes begun d body st.bag × (d.next ≤ st.next) × (tail ≡ [])

-- What its clients do.
abbrev pub ListsAll : State → List ℕ → List ℕ → Clients → Type 0
ListsAll begun body tail c = OwesClients begun c body × (tail ≡ [])

-- The whole snapshot is there.
abbrev pub IsAll : State → List ℕ → Type 0
IsAll begun body = (body ≡ spell_state written begun) × FitsState written begun

-- More of the body is written, before any record is.
grown : (head body tail more front : List ℕ) → tail ≡ [] → front ≡ head ++ (body ++ tail) → front ++ more ≡ head ++ ((body ++ more) ++ tail)
grown head body tail more front none is =
    ap (λ l. l ++ more) is
    ∙ append_assoc head (body ++ tail) more
    ∙ ap (λ l. head ++ l)
    (ap (λ t. (body ++ t) ++ more) none ∙ ap (λ b. b ++ more) (append-nil body) ∙ sym (append-nil (body ++ more)) ∙ ap (λ t. (body ++ more) ++ t) (sym none))

-- ---- its beginning

pub begins : (s : BankWriter) (snapshot : SnapshotEncoder) (first front : List ℕ) (st : State) → IsState st → s.snapshot ≡ Some snapshot
    → Owes st snapshot first st.bag → snapshot.next ≡ st.next → length (spell_state written st) < 2 ^ 32 → 1 ≤ s.generation → s.generation < 2 ^ 64
    → s.len ≡ length (spell_state written st) → MIN_BYTES + 1 + length (spell_state written st) ≤ s.limit → s.records ≡ 0
    → s.since.bytes.items ≡ [] → s.since.written ≡ 0 → front ≡ heading s.generation (length (spell_state written st)) ++ first → Follows s front st
begins s snapshot first front st ranges is owes next short low high len room count none zero front_is = record {
  begun = st;
  ranges = ranges;
  short = short;
  len = len;
  low = low;
  high = high;
  records = [];
  count = count;
  good = All-nil (IsRecord written);
  done = none_done st ranges;
  tail = [];
  left = [];
  spelled = none;
  parts = none;
  place = zero;
  within = omega (arith, len, room, ap length none);
  body = first;
  front_is = front_is ∙ ap (λ b. heading s.generation (length (spell_state written st)) ++ b) (sym (append-nil first));
  owes = subst (λ o. IfSome o (OwesAll st first [] st)) (sym is) (owes, omega (arith, next), refl);
  lists = subst (λ o. IfNone o (IfSome s.clients (ListsAll st first []))) (sym is) tt;
  whole = subst (λ o. IfNone o (IfNone s.clients (IsAll st first))) (sym is) tt;
}

-- ---- the snapshot writer goes on

module _ (s : BankWriter) (old new : SnapshotEncoder) (front : List ℕ) (st : State) (is : s.snapshot ≡ Some old)
    (next : new.next ≡ old.next) (f : Follows s front st) where
  owed : OwesAll f.begun f.body f.tail st old
  owed = subst (λ o. IfSome o (OwesAll f.begun f.body f.tail st)) is f.owes

  -- It has written more, or nothing.
  pub more_written : (more : List ℕ) → Owes f.begun new (f.body ++ more) st.bag → Follows (with_snapshot s (Some new)) (front ++ more) st
  more_written more owes = record {
    begun = f.begun;
    ranges = f.ranges;
    short = f.short;
    len = f.len;
    low = f.low;
    high = f.high;
    records = f.records;
    count = f.count;
    good = f.good;
    done = f.done;
    tail = f.tail;
    left = f.left;
    spelled = f.spelled;
    parts = f.parts;
    place = f.place;
    within = f.within;
    body = f.body ++ more;
    front_is = grown (heading s.generation (length (spell_state written f.begun))) f.body f.tail more front owed.2 f.front_is;
    owes = (owes, omega (arith, next, owed.1), owed.2);
    lists = tt;
    whole = tt;
  }

  pub none_written : Owes f.begun new f.body st.bag → Follows (with_snapshot s (Some new)) front st
  none_written owes = record {
    begun = f.begun;
    ranges = f.ranges;
    short = f.short;
    len = f.len;
    low = f.low;
    high = f.high;
    records = f.records;
    count = f.count;
    good = f.good;
    done = f.done;
    tail = f.tail;
    left = f.left;
    spelled = f.spelled;
    parts = f.parts;
    place = f.place;
    within = f.within;
    body = f.body;
    front_is = f.front_is;
    owes = (owes, omega (arith, next, owed.1), owed.2);
    lists = tt;
    whole = tt;
  }

pub put_aside : (s : BankWriter) (old new : SnapshotEncoder) (front : List ℕ) (st : State) → s.snapshot ≡ Some old → new.next ≡ old.next
    → ((begun : State) (bytes : List ℕ) → Owes begun old bytes st.bag → Owes begun new bytes st.bag)
    → Follows s front st → Follows (with_snapshot s (Some new)) front st
put_aside s old new front st is next goes f = none_written s old new front st is next f (goes f.begun f.body (owed s old new front st is next f).0)

-- The next tuples, if there are any.
pub next_tuples : {E : Type 0} (s : BankWriter) (old new : SnapshotEncoder) (front : List ℕ) (st : State) (r : Result (Option (Vec ℕ)) E)
    → s.snapshot ≡ Some old → new.next ≡ old.next
    → ((begun : State) (bytes : List ℕ) → Owes begun old bytes st.bag → IfOk r (λ o. IfSome o (λ v. Owes begun new (bytes ++ v.items) st.bag)))
    → Follows s front st
    → IfOk r (λ o. IfSome o (λ v. Follows (with_snapshot s (Some new)) (front ++ v.items) st))
next_tuples s old new front st (Ok (Some v)) is next goes f =
    more_written s old new front st is next f v.items (goes f.begun f.body (owed s old new front st is next f).0)
next_tuples s old new front st (Ok None) is next goes f = tt
next_tuples s old new front st (Err e) is next goes f = tt

pub no_tuples : {E : Type 0} (s : BankWriter) (old new : SnapshotEncoder) (front : List ℕ) (st : State) (r : Result (Option (Vec ℕ)) E)
    → s.snapshot ≡ Some old → new.next ≡ old.next
    → IfOk r (λ o. IfNone o (new ≡ old)) → ((begun : State) (bytes : List ℕ) → Owes begun old bytes st.bag → IfOk r (λ o. IfNone o (IsThrough begun new)))
    → Follows s front st
    → IfOk r (λ o. IfNone o (IsBehindTuples (with_snapshot s (Some new)) front st))
unfolding none_written owed
no_tuples s old new front st (Ok (Some v)) is next same through f = tt
no_tuples s old new front st (Ok None) is next same through f =
    let were = (owed s old new front st is next f).0 in
    record {
      follows = none_written s old new front st is next f (subst (λ d. Owes f.begun d f.body st.bag) (sym same) were);
      through = through f.begun f.body were;
    }
no_tuples s old new front st (Err e) is next same through f = tt

-- ---- the snapshot writer ends, and its clients begin

pub turns : (s : BankWriter) (snapshot : SnapshotEncoder) (other : Option SnapshotEncoder) (book : FinMap nat_cmp Entry)
    (count : ℕ) (clients : Clients) (front more : List ℕ) (st : State) → s.snapshot ≡ Some snapshot → other ≡ None
    → ((begun : State) (bytes : List ℕ) (now : Tuples) → Owes begun snapshot bytes now → (book ≡ begun.book) × (count ≡ length (entries begun.book)))
    → ((begun : State) (bytes : List ℕ) (now : Tuples) → Owes begun snapshot bytes now → IsThrough begun snapshot
    → length (spell_state written begun) < 2 ^ 32 → HasTuples begun bytes)
    → ((begun : State) (bytes : List ℕ) → HasTuples begun bytes → book ≡ begun.book
    → count ≡ length (entries begun.book) → OwesClients begun clients (bytes ++ more))
    → IsBehindTuples s front st → Follows (with_clients s other (Some clients)) (front ++ more) st
turns s snapshot other book count clients front more st is none same has lists b =
    let f = b.follows in
    let was = subst (λ o. IfSome o (OwesAll f.begun f.body f.tail st)) is f.owes in
    let through = subst (λ o. IfSome o (λ d. IsThrough f.begun d)) is b.through in
    let book_is = same f.begun f.body st.bag was.0 in
    record {
      begun = f.begun;
      ranges = f.ranges;
      short = f.short;
      len = f.len;
      low = f.low;
      high = f.high;
      records = f.records;
      count = f.count;
      good = f.good;
      done = f.done;
      tail = f.tail;
      left = f.left;
      spelled = f.spelled;
      parts = f.parts;
      place = f.place;
      within = f.within;
      body = f.body ++ more;
      front_is = grown (heading s.generation (length (spell_state written f.begun))) f.body f.tail more front was.2 f.front_is;
      owes = subst (λ o. IfSome o (OwesAll f.begun (f.body ++ more) f.tail st)) (sym none) tt;
      lists = subst (λ o. IfNone o (ListsAll f.begun (f.body ++ more) f.tail clients)) (sym none)
          (lists f.begun f.body (has f.begun f.body st.bag was.0 through f.short) book_is.0 book_is.1, was.2);
      whole = subst (λ o. IfNone o (Unit {0})) (sym none) tt;
    }

pub has_ended : (s : BankWriter) (other : Option SnapshotEncoder) (front : List ℕ) (st : State)
    → s.snapshot ≡ None → other ≡ None → IsBehindTuples s front st → Follows (with_snapshot s other) front st
has_ended s other front st is none b = subst (λ o. Follows (with_snapshot s o) front st) (is ∙ sym none) b.follows

-- ---- the clients go on

listed : (s : BankWriter) (old : Clients) (front : List ℕ) (st : State) → s.snapshot ≡ None
    → s.clients ≡ Some old → (f : Follows s front st) → ListsAll f.begun f.body f.tail old
listed s old front st none is f =
    subst (λ o. IfSome o (ListsAll f.begun f.body f.tail)) is (subst (λ o. IfNone o (IfSome s.clients (ListsAll f.begun f.body f.tail))) none f.lists)

-- More of them are written.
pub more_clients : (s : BankWriter) (old new : Clients) (front more : List ℕ) (st : State) → s.snapshot ≡ None
    → s.clients ≡ Some old → ((begun : State) (bytes : List ℕ) → OwesClients begun old bytes → OwesClients begun new (bytes ++ more))
    → Follows s front st → Follows (with_clients s s.snapshot (Some new)) (front ++ more) st
more_clients s old new front more st none is goes f =
    let were = listed s old front st none is f in
    record {
      begun = f.begun;
      ranges = f.ranges;
      short = f.short;
      len = f.len;
      low = f.low;
      high = f.high;
      records = f.records;
      count = f.count;
      good = f.good;
      done = f.done;
      tail = f.tail;
      left = f.left;
      spelled = f.spelled;
      parts = f.parts;
      place = f.place;
      within = f.within;
      body = f.body ++ more;
      front_is = grown (heading s.generation (length (spell_state written f.begun))) f.body f.tail more front were.1 f.front_is;
      owes = subst (λ o. IfSome o (OwesAll f.begun (f.body ++ more) f.tail st)) (sym none) tt;
      lists = subst (λ o. IfNone o (ListsAll f.begun (f.body ++ more) f.tail new)) (sym none) (goes f.begun f.body were.0, were.1);
      whole = subst (λ o. IfNone o (Unit {0})) (sym none) tt;
    }

-- All of them are.
pub no_clients : (s : BankWriter) (old : Clients) (other : Option Clients) (front : List ℕ) (st : State) → s.snapshot ≡ None
    → s.clients ≡ Some old → other ≡ None → AreThrough old → Follows s front st → Follows (with_clients s s.snapshot other) front st
no_clients s old other front st none is gone through f =
    let were = listed s old front st none is f in
    record {
      begun = f.begun;
      ranges = f.ranges;
      short = f.short;
      len = f.len;
      low = f.low;
      high = f.high;
      records = f.records;
      count = f.count;
      good = f.good;
      done = f.done;
      tail = f.tail;
      left = f.left;
      spelled = f.spelled;
      parts = f.parts;
      place = f.place;
      within = f.within;
      body = f.body;
      front_is = f.front_is;
      owes = f.owes;
      lists = subst (λ o. IfNone s.snapshot (IfSome o (ListsAll f.begun f.body f.tail))) (sym gone) (subst (λ o. IfNone o (Unit {0})) (sym none) tt);
      whole = subst (λ o. IfNone s.snapshot (IfNone o (IsAll f.begun f.body))) (sym gone)
          (subst (λ o. IfNone o (IsAll f.begun f.body)) (sym none) (
            all_clients f.begun old f.body were.0 through,
            clients_fit f.begun old f.body were.0 through f.short,
          ));
    }

pub had_none : (s : BankWriter) (other : Option Clients) (front : List ℕ) (st : State) → s.clients ≡ None
    → other ≡ None → Follows s front st → Follows (with_clients s s.snapshot other) front st
had_none s other front st is none f = subst (λ o. Follows (with_clients s s.snapshot o) front st) (is ∙ sym none) f
