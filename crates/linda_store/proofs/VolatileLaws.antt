-- What a volatile node shows if its store did what came, ran out of memory, or was stopped.
use Rattle.std.proofs.Common.{◌≡◌, ℕ, true, false, true≢false, List, [], refl, sym, ap, ◌∙◌, subst, append-nil}
use Rattle.std.proofs.lemmas.Bool.{cond-true, cond-false}
use Rattle.linda_wire.specs.declared.reply.Reply.{Reply}
use Rattle.linda_store_state.specs.declared.deed.Deed.{Deed}
use Rattle.linda_store_state.specs.State.{State}
use Rattle.linda_store_state.specs.After.{IsAfter}
use Rattle.linda_store_step.specs.Soft.{no_asks}
use Rattle.linda_store_step.specs.Store.{Store, IsOrderly}
use Rattle.linda_store_step.specs.History.{Coming, History, Happens, nothing_yet}
use Rattle.linda_store_step.proofs.HistoryLaws.{all_safe}
use Rattle.linda_store.specs.Node.{IsDone, WentDown, IsOpened}
use Rattle.linda_store.specs.Volatile.{shown}

-- a volatile node that is up shows its store's state
state_up : (before : State) (store : Store) → store.is_spent ≡ false → (shown before store).state ≡ store.state
state_up before store up = cond-false store.is_spent _ _ up

module _ (before after : State) (old new : Store) (up : old.is_spent ≡ false) (xs : List Coming) where
  -- What came was done.
  pub done : (ds : List Deed) (sends : List (ℕ × Reply)) → new.is_spent ≡ false
      → Happens old.state old.soft xs (record { deeds = ds; sends = sends; soft = new.soft; state = new.state })
      → IsDone (shown before old) xs ds sends (shown after new)
  done ds sends still happens = record {
    was_up = up;
    is_up = still;
    kind = refl;
    happens = subst (λ s. Happens s old.soft xs (record { deeds = ds; sends = sends; soft = new.soft; state = (shown after new).state }))
        (sym (state_up before old up))
        (subst (λ s. Happens old.state old.soft xs (record { deeds = ds; sends = sends; soft = new.soft; state = s }))
        (sym (state_up after new still)) happens);
  }

  -- Memory ran out.
  pub went_down : new.is_spent ≡ true → after ≡ old.state → WentDown (shown before old) xs (shown after new)
  went_down spent same = record {
    is_down = spent;
    kind = refl;
    state_same = cond-true new.is_spent _ _ spent ∙ same ∙ sym (state_up before old up);
    from_up = λ _. record { first = []; is_first = (xs, refl); all = nothing_yet (shown before old).state old.soft; happens = refl; front = ([], refl) };
    from_down = λ down. absurd (true≢false (sym down ∙ up));
  }

  -- What came was done, and nothing is held and nobody waits.
  pub opened : (mid : Store) (ds : List Deed) (sends : List (ℕ × Reply)) → IsOrderly old.state old.soft → mid.is_spent ≡ false
      → Happens old.state old.soft xs (record { deeds = ds; sends = sends; soft = mid.soft; state = mid.state })
      → new ≡ record { state = mid.state; soft = no_asks; is_spent = mid.is_spent }
      → IsOpened (shown before old) xs ds (shown after new)
  opened mid ds sends orderly still happens new_is =
      let all : History = record { deeds = ds; sends = sends; soft = mid.soft; state = mid.state } in
      let is_up : new.is_spent ≡ false = ap (λ (s : Store). s.is_spent) new_is ∙ still in
      let state_is : (shown after new).state ≡ mid.state = state_up after new is_up ∙ ap (λ (s : Store). s.state) new_is in
      record {
        is_up = is_up;
        kind = refl;
        soft_is = ap (λ (s : Store). s.soft) new_is;
        from_up = λ _. record {
          first = xs;
          is_first = ([], append-nil xs);
          all = all;
          happens = subst (λ s. Happens s old.soft xs all) (sym (state_up before old up)) happens;
          front = ([], append-nil ds);
        };
        from_down = λ down. absurd (true≢false (sym down ∙ up));
        state_is = subst (λ s. IsAfter s ds (shown after new).state) (sym (state_up before old up))
            (subst (IsAfter old.state ds) (sym state_is) (all_safe old.state old.soft xs all orderly happens).after);
      }
