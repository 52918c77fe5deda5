-- Calls of a server that write its state anew: what they come to, by what their runs on both disks say.
use Rattle.std.proofs.Common.{◌≡◌, true, false, Result, Ok, Err, [], sym, subst, ◌∙◌, true≢false}
use Rattle.std.proofs.Math.Logic.{∥∥₁_map, ∥∥₁_elim}
use Rattle.std.proofs.Props.{props}
use Rattle.linda_store_state.specs.State.{State, IsState}
use Rattle.linda_store_step.specs.Store.{Store}
use Rattle.linda_disk.specs.View.{IsTimed}
use Rattle.linda_disk.specs.declared.disk.Disk.{Ghosts}
use Rattle.linda_journal.specs.declared.bank.Bank.{Bank}
use Rattle.linda_snap.specs.Stands.{Stands}
use Rattle.linda_server.specs.declared.disks.Disks.{Disks}
use Rattle.linda_server.specs.declared.durable.Durable.{Durable}
use Rattle.linda_server.specs.Calls.{StandsFor, IsWithOrWithout}
use Rattle.linda_server.specs.Handled.{Rewrites}
use Rattle.linda_server.specs.Pairs.{PairsSince, PairsNow}
use Rattle.linda_server.specs.Server.{both_of, BothHonest, IsKeptFor, RunsOnBoth}
use Rattle.linda_server.proofs.CallLaws.{from_some, up_for, now_since, stands_so}
use Rattle.linda_server.proofs.SwitchLaws.{with_none}

-- Both facts are there.
both_there : {A B : Type 0} → ∥ A ∥₁ → ∥ B ∥₁ → ∥ A × B ∥₁
both_there a b = ∥∥₁_elim a (hlevel props) (λ x. ∥∥₁_map b (λ y. (x, y)))

-- The run is for `now`, which is the state of the server.
module _ {D : Type 0} {g : Ghosts D} (timed : (d : D) → g.honest d → IsTimed (g.view d)) {F : Type 0} (device : F) (begun : Type 0)
    (now : State) (is_begun : ∥ begun ∥₁) (s : Durable D g) (same : now ≡ s.store.state) (is_up : s.down ≡ false) where
  kept_now : ∥ IsKeptFor s.disks now ∥₁
  kept_now = subst (λ st. ∥ IsKeptFor s.disks st ∥₁) (sym same) (s.kept is_up)

  -- The state is there at each moment,
  pub runs_since : {T : Type 0} (r : Result T F) (new : Disks (Bank D g) D) → RunsOnBoth begun now device s.disks r new
      → BothHonest s.disks → PairsSince (both_of s.disks) (both_of new) (StandsFor s.store.state)
  runs_since r new run are =
      subst (λ st. PairsSince (both_of s.disks) (both_of new) (StandsFor st)) same
      (from_some (both_of s.disks) (both_of new) (λ left right. Stands left right now) (λ left right. Stands left right now)
      (both_there (up_for timed s.disks now are kept_now) is_begun) (λ x. run.any_moment x.1 are x.0) (λ left right x. x))

  -- and known of the disks, if the run is done.
  pub runs_kept : {T : Type 0} (x : T) (new : Disks (Bank D g) D) → RunsOnBoth begun now device s.disks (Ok x) new → ∥ IsKeptFor new s.store.state ∥₁
  runs_kept x new run = subst (λ st. ∥ IsKeptFor new st ∥₁) same (∥∥₁_map (both_there kept_now is_begun) (λ k. run.kept k.1 k.0))

  pub rewrites_done : {T U E : Type 0} (x : T) (told : U) (new : Durable D g) → RunsOnBoth begun now device s.disks (Ok x) new.disks
      → new.store ≡ s.store → new.limit ≡ s.limit → new.down ≡ false → Rewrites {E = E} s (Ok told) new
  rewrites_done x told new run store limit still_up =
      let kept = runs_kept x new.disks run in
      record {
        any_moment = λ up are. runs_since (Ok x) new.disks run are;
        now = λ are. subst (λ (st : Store). PairsNow (both_of new.disks) (StandsFor st.state)) (sym store) (stands_so timed new.disks s.store.state are kept);
        same = (store, limit);
        up = (is_up, still_up);
        lost = λ up down. absurd (true≢false (sym down ∙ still_up));
        honest = run.honest;
      }

  pub rewrites_fault : {T U E : Type 0} (fault : F) (told : E) (new : Durable D g)
      → RunsOnBoth {T = T} begun now device s.disks (Err fault) new.disks → new.store ≡ s.store → new.limit ≡ s.limit
      → (new.down ≡ true → (new.before.value ≡ s.store.state) × (new.lost.items ≡ [])) → Rewrites {T = U} s (Err told) new
  rewrites_fault fault told new run store limit falls = record {
    any_moment = λ up are. runs_since (Err fault) new.disks run are;
    now = tt;
    same = (store, limit);
    up = tt;
    lost = λ up down. falls down;
    honest = run.honest;
  }

  -- The type keeps this of a server that went down.
  pub fell : {T : Type 0} (fault : F) (new : Disks (Bank D g) D) (before : State)
      → RunsOnBoth {T = T} begun now device s.disks (Err fault) new → before ≡ s.store.state → IsState now → BothHonest new
      → PairsNow (both_of new) (IsWithOrWithout before s.lost.items)
  fell fault new before run was ranges are =
      subst (λ st. PairsNow (both_of new) (IsWithOrWithout st s.lost.items)) (sym was)
      (now_since timed s.disks new (StandsFor s.store.state) (IsWithOrWithout s.store.state s.lost.items) are
      (runs_since (Err fault) new run (run.honest.1 are))
      (with_none s.store.state s.lost.items (s.none_lost is_up) (subst IsState same ranges)))
