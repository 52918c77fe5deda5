-- If nothing was asked, nothing changed; else the client is the same.
use Rattle.std.proofs.Common.{rules, ◌≡◌, refl, sym, ap, ◌∙◌}
use Rattle.linda_shared_accounts.specs.Account.{Account}
use Rattle.linda_shared.proofs.SeatLaws.{nothing_left}
use Rattle.linda_shared.proofs.shared.Shared.submit_all.Goals as goal

pub returns-in_default-clause-err : goal.returns-in_default-clause-err
returns-in_default-clause-err g c = nothing_left c.args.messages.now c.args.seat.now c.no_memory.result c.args.seat.now c.no_memory.ensures refl

pub returns-in_default-ask_all-clause-err : goal.returns-in_default-ask_all-clause-err
returns-in_default-ask_all-clause-err g c =
    let same : c.ask_all.new.account ≡ c.args.seat.now = search rules in
    nothing_left c.args.messages.now c.args.seat.now c.no_memory-in_default-ask_all.result c.ask_all.new.account c.no_memory-in_default-ask_all.ensures same

pub invariant_of-seat-2 : goal.invariant_of-seat-2
invariant_of-seat-2 g c =
    (c.hear_all.ensures.asked, c.seat.invariant.1 ∙ sym (c.hear_all.ensures.client ∙ ap (λ (a : Account). a.client) c.in-Ok-ask_all.ensures.ok))
