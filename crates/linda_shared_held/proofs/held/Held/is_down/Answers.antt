use Rattle.std.proofs.Common.{◌≡◌, ℕ, List, Option, true, sym, ◌∙◌}
use Rattle.std.proofs.Math.Logic.{∥∥₁_map, ∥∥₁_map₂}
use Rattle.linda_wire.specs.declared.reply.Reply.{Reply}
use Rattle.linda_shared_outbox.specs.Waiting.{waits_for}
use Rattle.linda_store_state.specs.State.{State}
use Rattle.linda_shared_held.specs.Order.{known, IsInOrder}
use Rattle.linda_shared_held.specs.Covered.{BoxesCovered}
use Rattle.linda_shared_held.proofs.LostLaws.{is_covered_down}
use Rattle.linda_shared_held.proofs.BaseLaws.{is_replayed, counts_deeds, sums_kept, stands_behind, is_known_down}
use Rattle.linda_shared_held.proofs.held.Held.is_down.Goals as goal

pub returns-clause-replayed : goal.returns-clause-replayed
returns-clause-replayed g c up =
    let h = c.args.self.now in
    ∥∥₁_map h.in_order (λ so. is_replayed h.opening.value h.base.value h.receipts.items h.count
    h.server.down h.server.before.value h.server.store (sym c.is_down.ensures.down ∙ up) so)

pub returns-clause-counted : goal.returns-clause-counted
returns-clause-counted g c up =
    let h = c.args.self.now in
    ∥∥₁_map h.in_order (λ so. counts_deeds h.opening.value h.base.value h.receipts.items h.count
    h.server.down h.server.before.value h.server.store (sym c.is_down.ensures.down ∙ up) so)

pub returns-clause-down : goal.returns-clause-down
returns-clause-down g c is honest left right l r =
    let h = c.args.self.now in
    let down : h.server.down ≡ true = sym c.is_down.ensures.down ∙ is in
    let waits : ℕ → Option (List Reply) = λ q. waits_for h.boxes q in
    let st : State = known h.server.before.value h.server.store h.server.down in
    let both : ∥ IsInOrder h.opening.value h.base.value h.receipts.items h.count h.server.down st
    × BoxesCovered st waits ∥₁ = ∥∥₁_map₂ h.in_order h.covered (λ so covered. (so, covered)) in
    ∥∥₁_map₂ both (h.server.fallen down honest left right l r) (λ these around.
    stands_behind h.opening.value h.base.value h.receipts.items h.count h.server.before.value h.server.lost.items waits left right
    (is_known_down h.opening.value h.base.value h.receipts.items h.count h.server.down h.server.before.value h.server.store down these.0)
    (is_covered_down waits h.server.down h.server.before.value h.server.store down these.1) around)

pub returns-clause-remembers : goal.returns-clause-remembers
returns-clause-remembers g c = c.args.self.now.remembers

pub returns-clause-covered : goal.returns-clause-covered
returns-clause-covered g c = c.args.self.now.covered

pub returns-clause-kept : goal.returns-clause-kept
returns-clause-kept g c up =
    let h = c.args.self.now in
    ∥∥₁_map h.in_order (λ so. sums_kept h.opening.value h.base.value h.receipts.items h.count
    h.server.down h.server.before.value h.server.store (sym c.is_down.ensures.down ∙ up) so)
