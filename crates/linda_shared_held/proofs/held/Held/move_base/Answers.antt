-- The receipts begin anew from the state now.
use Rattle.std.proofs.Common.{refl, sym, subst, ◌∙◌}
use Rattle.std.proofs.Math.Logic.{∥∥₁_map}
use Rattle.linda_store_state.specs.State.{State}
use Rattle.linda_shared_held.specs.Recall.{Remembers}
use Rattle.linda_shared_held.proofs.BaseLaws.{base_moved}
use Rattle.linda_shared_held.proofs.held.Held.move_base.Goals as goal

pub invariant_of-self : goal.invariant_of-self
invariant_of-self g c =
    let h = c.args.self.now in
    let s = h.server in
    record {
      in_order = ∥∥₁_map h.in_order (λ so. base_moved s s so (c.requires.up, c.requires.up) refl
          (c.of.ensures ∙ c.state.ensures.state) c.put_away.ensures.none);
      remembers = ∣ subst (λ (st : State). Remembers st c.begin_anew.new.recall) (c.state-2.ensures.state
          ∙ sym (c.of.ensures ∙ c.state.ensures.state)) c.begin_anew.ensures.remembers ∣₁;
      counted = c.begin_anew.ensures.total ∙ h.counted;
      covered = h.covered;
    }
