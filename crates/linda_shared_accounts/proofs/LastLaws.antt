-- The last receipt of each client, found by going through all places.
use Rattle.std.proofs.Common.{◌≡◌, ℕ, ◌-◌, List, length, All, Contains, Option, Some, None, IfSome, BTreeMap, refl, sym, ap, subst, ◌∙◌, nat_cmp}
use Rattle.std.specs.BTreeMap as tree
use Rattle.std.specs.FinMap as map
use Rattle.std.specs.Cmp.{nat_cmp_total}
use Rattle.std.proofs.lemmas.List.Elements.{All-contains, All-weaker}
use Rattle.std.proofs.lemmas.Map.Lookups.{exact_unsigned}
use Rattle.std.proofs.lemmas.Map.Views.{IfSome-get}
use Rattle.std.proofs.lemmas.Option.{none-some, slice_get_within, get_or_from_slice_get}
use Rattle.circular_buffer.specs.Buffer.{last_item}
use Rattle.linda_store_state.specs.State.{State}
use Rattle.linda_shared_accounts.specs.declared.fault.SharedFault.{SharedFault}
use Rattle.linda_shared_accounts.specs.declared.place.Place.{Place}
use Rattle.linda_shared_accounts.specs.declared.receipt.Receipt.{Receipt}
use Rattle.linda_shared_accounts.specs.Receipts.{client_in}
use Rattle.linda_shared_accounts.specs.Accounts.{Places, IsPlaceOf, receipts_at}
use Rattle.linda_shared_accounts.specs.Compare.{LastIsKept, NamesLast, NamesNotKept}
use Rattle.linda_shared_accounts.proofs.PlaceLaws.{viewed}
use Rattle.linda_shared_accounts.proofs.AccountsLaws.{its_own}

-- The last receipt of an entry is kept.
abbrev pub EntryIsKept : State → ℕ × Place → Type 0
EntryIsKept st e = LastIsKept st (receipts_at (Some e.1))

-- What is kept of all entries is kept of all clients.
pub all_kept : (st : State) (entries : BTreeMap ℕ Place) (ps : Places) → map.from_entries entries.entries ≡ ps → All (EntryIsKept st) entries.entries
    → (c : ℕ) → LastIsKept st (receipts_at (map.get ps c))
all_kept st entries ps view_is all c = by (map.get ps c) refl
  where
    by : (o : Option Place) → map.get ps c ≡ o → LastIsKept st (receipts_at (map.get ps c))
    by None is = subst (λ o. LastIsKept st (receipts_at o)) (sym is) (λ mine last. absurd (none-some mine last))
    by (Some p) is =
        let there : tree.get nat_cmp entries c ≡ Some p = sym (viewed entries ps view_is c) ∙ is in
        let among : Contains entries.entries (c, p) =
        subst (λ o. IfSome o (λ v. Contains entries.entries (c, v))) there (IfSome-get nat_cmp_total exact_unsigned entries c) in
        subst (λ o. LastIsKept st (receipts_at o)) (sym is) (All-contains (EntryIsKept st) entries.entries (c, p) all among)

-- Each entry is its client's place.
pub all_there : (entries : BTreeMap ℕ Place) (ps : Places) → map.from_entries entries.entries ≡ ps
    → All (λ e. tree.get nat_cmp entries e.0 ≡ Some e.1) entries.entries
    → All (λ e. map.get ps e.0 ≡ Some e.1) entries.entries
all_there entries ps view_is all =
    All-weaker (λ (e : ℕ × Place). tree.get nat_cmp entries e.0 ≡ Some e.1) (λ e. map.get ps e.0 ≡ Some e.1)
    (λ e is. viewed entries ps view_is e.0 ∙ is) entries.entries all

last_among : (rs : List Receipt) (r : Receipt) → last_item rs ≡ Some r → Contains rs r
last_among rs r is = (length rs - 1, slice_get_within rs (length rs - 1) r is, get_or_from_slice_get rs (length rs - 1) r r is)

-- A last receipt that is not kept is in its client's place.
pub not_kept : (ps : Places) (st : State) (k : ℕ) (p : Place) (fault : SharedFault) → map.get ps k ≡ Some p
    → IfSome (map.get ps k) (IsPlaceOf k) → NamesLast st (receipts_at (Some p)) fault → NamesNotKept ps st fault
not_kept ps st k p fault is own names =
    let mine : Receipt = names.mine in
    let here : IsPlaceOf k p = subst (λ o. IfSome o (IsPlaceOf k)) is own in
    let its : client_in mine ≡ k = All-contains (λ (r : Receipt). client_in r ≡ k) (receipts_at (Some p)) mine
    (its_own k (Some p) here) (last_among (receipts_at (Some p)) mine names.told) in
    record {
      mine = mine;
      told = subst (λ q. last_item (receipts_at (map.get ps q)) ≡ Some mine) (sym its) (ap (λ o. last_item (receipts_at o)) is ∙ names.told);
      named = names.named;
      differs = names.differs;
    }
