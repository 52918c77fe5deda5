-- Bytes that are a snapshot of one state, and of no other.
use Rattle.std.proofs.Common.{◌≡◌, ℕ, ◌<◌, ◌≤◌, true, false, cond, T, List, [], ◌∷◌, Some, IfSome, refl, sym, ap, ap₂, subst, ◌∙◌, length, nat_cmp}
use Rattle.std.specs.List.{AllByRecursion}
use Rattle.std.specs.Ordering.{eq_by_cmp}
use Rattle.std.specs.Cmp.{unsigned_ties, unsigned_Decides}
use Rattle.std.specs.FinMap.{is_sorted, find, entries, len-entries, entries-from_sorted, get-from_sorted}
use Rattle.linda_tuple.specs.declared.form.Form.{Form}
use Rattle.linda_tuple.specs.Tuple.{Tuple}
use Rattle.linda_book.specs.Entries.{Entry}
use Rattle.linda_wire.specs.declared.limits.TheConstants.{MAX_CLIENTS, NUMBER_LIMIT}
use Rattle.linda_store_state.specs.State.{IsState}
use Rattle.linda_snap.specs.Snapshot.{snapshot, IsSnapshot}
use Rattle.linda_snap.proofs.SnapshotLaws.{one_snapshot}
use Rattle.linda_test_code_libraries.specs.States.{state_of}
use Rattle.linda_test_code_libraries.specs.Only.{AreSnapshot}

-- What holds of all entries holds of the one that is found.
found_in : {X : Type 0} (P : ℕ → X → Type 0) (es : List (ℕ × X)) (q : ℕ) → AllByRecursion (λ e. P e.0 e.1) es → IfSome (find nat_cmp q es) (P q)
found_in P [] q all = tt
found_in P (e ∷ es) q all =
    elim (eq_by_cmp nat_cmp q e.0) as (λ b. eq_by_cmp nat_cmp q e.0 ≡ b → IfSome (cond b (Some e.1) (find nat_cmp q es)) (P q)) [
      | true ↦ λ tied. subst (λ k. P k e.1) (sym ((unsigned_Decides q e.0).0 (unsigned_ties q e.0 ∙ tied))) all.0
      | false ↦ λ _. found_in P es q all.1
    ] refl

-- What the entries of a snapshot have to be.
pub record AreGood (next : ℕ) (tuples : List (ℕ × Tuple)) (clients : List (ℕ × Entry)) : Type 0 where
  pub rising : T (is_sorted nat_cmp tuples)
  pub clients_rising : T (is_sorted nat_cmp clients)
  pub low : 1 ≤ next
  pub high : next ≤ NUMBER_LIMIT
  pub ids : AllByRecursion (λ (e : ℕ × Tuple). (1 ≤ e.0) × (e.0 < next)) tuples
  pub numbers : AllByRecursion (λ (e : ℕ × Entry). (1 ≤ e.1.0) × (e.1.0 < NUMBER_LIMIT)) clients
  pub few : length clients ≤ MAX_CLIENTS

module _ (form : Form) (next : ℕ) (tuples : List (ℕ × Tuple)) (clients : List (ℕ × Entry)) (good : AreGood next tuples clients) where
  there : entries (state_of next tuples clients).bag ≡ tuples
  there = entries-from_sorted nat_cmp tuples good.rising

  clients_there : entries (state_of next tuples clients).book ≡ clients
  clients_there = entries-from_sorted nat_cmp clients good.clients_rising

  ranges : IsState (state_of next tuples clients)
  ranges = record {
    next_low = good.low;
    next_high = good.high;
    ids = λ id. subst (λ o. IfSome o (λ _. (1 ≤ id) × (id < next))) (sym (get-from_sorted nat_cmp tuples id good.rising))
        (found_in (λ k _. (1 ≤ k) × (k < next)) tuples id good.ids);
    numbers = λ c. subst (λ o. IfSome o (λ (e : Entry). (1 ≤ e.0) × (e.0 < NUMBER_LIMIT)))
        (sym (get-from_sorted nat_cmp clients c good.clients_rising)) (found_in (λ _ (e : Entry). (1 ≤ e.0) × (e.0 < NUMBER_LIMIT)) clients c good.numbers);
    clients = subst (λ n. n ≤ MAX_CLIENTS) (sym (len-entries (state_of next tuples clients).book ∙ ap length clients_there)) good.few;
  }

  pub only_snapshot : (snapshot form).Fits (next, (tuples, clients))
      → AreSnapshot form (state_of next tuples clients) ((snapshot form).spell (next, (tuples, clients)))
  only_snapshot fits =
      let is : IsSnapshot form ((snapshot form).spell (next, (tuples, clients))) (state_of next tuples clients) = record {
        parts = sym (ap₂ (λ ts cs. (snapshot form).spell (next, (ts, cs))) there clients_there);
        fits = subst (λ cs. (snapshot form).Fits (next, (entries (state_of next tuples clients).bag, cs))) (sym clients_there)
            (subst (λ ts. (snapshot form).Fits (next, (ts, clients))) (sym there) fits);
        ranges = ranges;
      } in
      record {
        snapshot = is;
        only =
            λ other at. one_snapshot form ((snapshot form).spell (next, (tuples, clients))) other (state_of next tuples clients) at is;
      }
