-- Which tuple deeds put under an id.
use Rattle.std.proofs.Common.{◌≡◌, ℕ, ◌-◌, ◌<◌, ◌≤◌, Bool, true, false, List, ◌++◌, slice_get, ◌⊎◌, inl, inr, refl, sym, ap, ◌∙◌}
use Rattle.std.specs.Prelude.{Some}
use Rattle.std.proofs.lemmas.Bool.{cases_lt}
use Rattle.std.proofs.lemmas.Option.{none-some, slice_get_within}
use Rattle.std.specs.FinMap.{get}
use Rattle.linda_map_laws.proofs.MapLaws.{get_empty}
use Rattle.linda_tuple.specs.Tuple.{Tuple}
use Rattle.linda_store_state.specs.declared.deed.Deed.{Deed}
use Rattle.linda_store_state.specs.Deed.{outs_of, is_taken}
use Rattle.linda_store_state.specs.State.{State, empty_state}
use Rattle.linda_store_state.specs.After.{IsAfter, bag_after}
use Rattle.linda_store_state.proofs.AfterLaws.{new_id, old_id, taken_id}
use Rattle.linda_store_state.proofs.DeedLaws.{outs_of-joined, slice_get-front}
use Rattle.linda_world_laws.specs.Promises.{IsPut}

-- What is in the bag after the deeds was put by them.
pub put_under : (ds : List Deed) (st : State) (id : ℕ) (row : Tuple) → IsAfter empty_state ds st → get st.bag id ≡ Some row → IsPut ds id row
put_under ds st id row after there = by (is_taken id ds) refl
  where
    bag : bag_after empty_state ds id ≡ Some row
    bag = sym (after.bag id) ∙ there

    free : is_taken id ds ≡ false → (id < 1) ⊎ (1 ≤ id) → IsPut ds id row
    free e (inl low) = absurd (none-some row (sym (get_empty id) ∙ sym (old_id empty_state ds id e low) ∙ bag))
    free e (inr high) = record { counted = high; put = sym (new_id empty_state ds id e high) ∙ bag }

    by : (b : Bool) → is_taken id ds ≡ b → IsPut ds id row
    by true e = absurd (none-some row (sym (taken_id empty_state ds id e) ∙ bag))
    by false e = free e (cases_lt id 1)

-- It stays so, whatever is done later.
pub put_still : (ds more : List Deed) (id : ℕ) (row : Tuple) → IsPut ds id row → IsPut (ds ++ more) id row
put_still ds more id row is = record {
  counted = is.counted;
  put = ap (λ l. slice_get l (id - 1)) (outs_of-joined ds more)
      ∙ slice_get-front (outs_of ds) (outs_of more) (id - 1) (slice_get_within (outs_of ds) (id - 1) row is.put)
      ∙ is.put;
}
