-- What is known of a server that did not do what it was asked.
use Rattle.std.proofs.Common.{◌≡◌, Bool, true, false, true≢false, Result, Ok, Err, refl, sym, ap, ◌∙◌}
use Rattle.std.specs.Prelude.{OnOk, OnErr}
use Rattle.std.proofs.lemmas.Bool.{cond-true, cond-false}
use Rattle.linda_store_state.specs.State.{State}
use Rattle.linda_store_step.specs.Store.{Store}
use Rattle.linda_disk.specs.declared.disk.Disk.{Ghosts}
use Rattle.linda_server.specs.declared.durable.Durable.{Durable}
use Rattle.linda_shared_accounts.specs.declared.fault.SharedFault.{SharedFault}
use Rattle.linda_shared_held.specs.Order.{known}
use Rattle.linda_shared_held.specs.Kept.{IsKnownStill}

still_known : (old_before new_before : State) (old new : Store) (was_down is_down : Bool) → is_down ≡ true
    → (was_down ≡ true → (new_before ≡ old_before)) → (was_down ≡ false → new_before ≡ old.state)
    → known new_before new is_down ≡ known old_before old was_down
still_known old_before new_before old new true is_down down same before = cond-true is_down _ _ down ∙ same refl
still_known old_before new_before old new false is_down down same before = cond-true is_down _ _ down ∙ before refl

module _ {D : Type 0} {g : Ghosts D} where
  -- It was down before, and nothing changed; or it went down, and the state before is the one that it had.
  pub fallen_still : (s t : Durable D g) → t.down ≡ true → (s.down ≡ true → t.before.value ≡ s.before.value)
      → (s.down ≡ false → t.before.value ≡ s.store.state) → IsKnownStill s t
  fallen_still s t down same before =
      (still_known s.before.value t.before.value s.store t.store s.down t.down down same before, λ up. absurd (true≢false (sym down ∙ up)))

  -- It was up, and is up in the same state.
  pub still_up : (s t : Durable D g) → s.down ≡ false → t.down ≡ false → t.store.state ≡ s.store.state → IsKnownStill s t
  still_up s t was is same = (cond-false t.down _ _ is ∙ (same ∙ sym (cond-false s.down _ _ was)), λ up. was)

  -- First the one, and then the other.
  pub still_both : (r s t : Durable D g) → IsKnownStill r s → IsKnownStill s t → IsKnownStill r t
  still_both r s t first second = (second.0 ∙ first.0, λ up. first.1 (second.1 up))

  -- The same holds of one that took a step or a snapshot, or did not.
  pub still_taken : (s t : Durable D g) {T : Type 0} (r : Result T SharedFault) → OnErr r (IsKnownStill s t)
      → OnOk r ((s.down ≡ false) × (t.down ≡ false)) → t.store ≡ s.store → IsKnownStill s t
  still_taken s t (Ok done) still up store = still_up s t up.0 up.1 (ap (λ (x : Store). x.state) store)
  still_taken s t (Err fault) still up store = still
