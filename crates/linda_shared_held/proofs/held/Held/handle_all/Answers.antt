use Rattle.std.proofs.Common.{◌+◌, length, sym, ap, ◌∙◌, subst}
use Rattle.std.proofs.Math.Logic.{∥∥₁_map, ∥∥₁_map₂}
use Rattle.linda_shared_accounts.specs.Accounts.{Accounts}
use Rattle.linda_shared_accounts.specs.Telling.{receipts_in}
use Rattle.linda_shared_held.specs.Kept.{kept, InOrder}
use Rattle.linda_shared_held.proofs.held.Held.handle_all.Goals as goal

pub invariant_of-self : goal.invariant_of-self
invariant_of-self g c =
    let h = c.args.self.now in
    let new = kept c.take.new.server c.take.new.receipts c.take.new.boxes in
    let more = length (receipts_in c.in-Ok.told.items) in
    let keeps = c.in-Ok.ensures.takes.keeps in
    record {
      in_order = ∥∥₁_map h.in_order (λ so. subst (λ n. InOrder h.opening.value h.base.value n new)
          (sym c.settle_all.ensures.count) (keeps.ok_order h.opening.value h.base.value h.count so));
      remembers = h.remembers;
      counted = ap (λ (t : Accounts). t.total) c.settle_all.ensures.accounts ∙ (ap (λ n. n + more) h.counted ∙ sym c.settle_all.ensures.count);
      covered = ∥∥₁_map₂ h.in_order h.covered (λ so covered. keeps.covered h.opening.value h.base.value h.count so covered);
    }

pub invariant_of-self-in-Err : goal.invariant_of-self-in-Err
invariant_of-self-in-Err g c =
    let h = c.args.self.now in
    let keeps = c.in-Err.ensures.takes.keeps in
    record {
      in_order = ∥∥₁_map h.in_order (λ so. keeps.err_order h.opening.value h.base.value h.count so);
      remembers = h.remembers;
      counted = ap (λ (t : Accounts). t.total) c.fail_all.ensures.accounts ∙ h.counted;
      covered = ∥∥₁_map₂ h.in_order h.covered (λ so covered. keeps.covered h.opening.value h.base.value h.count so covered);
    }

pub returns-in-Ok-clause-done : goal.returns-in-Ok-clause-done
returns-in-Ok-clause-done g c =
    record {
      told = c.in-Ok.told.items;
      taken = c.in-Ok.ensures.done;
      receipts_are =
          c.in-Ok.ensures.takes.keeps.receipts;
      told_are = c.settle_all.ensures.told;
    }
