use Rattle.std.proofs.Common.{◌≡◌, ℕ, ◌+◌, ◌-◌, ◌<◌, ◌≤◌, true, false, nat_lt, not, ◌&&◌, length, sym, ap, ◌∙◌, arith}
use Rattle.std.specs.Prelude.{is_some}
use Rattle.std.specs.List.{list_any}
use Rattle.std.proofs.lemmas.Bool.Decides.{nat_tests}
use Rattle.linda_wire.specs.declared.limits.TheConstants.{NUMBER_LIMIT}
use Rattle.linda_event.specs.Bases.{is_ready}
use Rattle.linda_event.specs.Paths.{bases_of}
use Rattle.linda_event.specs.Trees.{tree_of}
use Rattle.linda_client.specs.Ask.{asks, first_ready}
use Rattle.linda_client.proofs.AskLaws.{any_ready_is, ask_count_is, passes_limit}
use Rattle.linda_client.proofs.client.Client.lacks_tickets.Goals as goal

passes : (low high : ℕ) → low < high → nat_lt low high ≡ true
passes low high h = grind (arith, nat_tests)

stays : (low high : ℕ) → high ≤ low → nat_lt low high ≡ false
stays low high h = grind (arith, nat_tests)

pub returns-then-lacks : goal.returns-then-lacks
returns-then-lacks c =
    let event = tree_of c.args.event.now in
    let within : c.args.self.now.ticket ≤ NUMBER_LIMIT = c.ticket.ensures.ranges.ticket_high in
    let count : c.ask_count.result ≡ length (asks event) = omega (arith, ask_count_is event) in
    let lacks : nat_lt NUMBER_LIMIT (c.args.self.now.ticket + length (asks event)) ≡ true =
    sym (ap (λ t. nat_lt (NUMBER_LIMIT - t) c.ask_count.result) c.ticket.ensures.ticket ∙ ap (λ n. nat_lt (NUMBER_LIMIT - c.args.self.now.ticket) n) count
    ∙ passes_limit c.args.self.now.ticket (length (asks event)) NUMBER_LIMIT within)
    ∙ passes (NUMBER_LIMIT - c.ticket.result) c.ask_count.result c.if-lacks.true in
    let ready : c.has_ready_base.result ≡ is_some (first_ready c.args.self.now.clock event) =
    c.has_ready_base.ensures ∙ ap (λ t. list_any (is_ready t) (bases_of event)) c.clock.ensures ∙ any_ready_is c.args.self.now.clock event in
    ap not ready ∙ ap (λ b. b && not (is_some (first_ready c.args.self.now.clock event))) (sym lacks)

pub returns-else-lacks : goal.returns-else-lacks
returns-else-lacks c =
    let event = tree_of c.args.event.now in
    let within : c.args.self.now.ticket ≤ NUMBER_LIMIT = c.ticket.ensures.ranges.ticket_high in
    let count : c.ask_count.result ≡ length (asks event) = omega (arith, ask_count_is event) in
    let none = stays (NUMBER_LIMIT - c.ticket.result) c.ask_count.result c.if-lacks.false in
    let lacks : nat_lt NUMBER_LIMIT (c.args.self.now.ticket + length (asks event)) ≡ false =
    sym (ap (λ t. nat_lt (NUMBER_LIMIT - t) c.ask_count.result) c.ticket.ensures.ticket ∙ ap (λ n. nat_lt (NUMBER_LIMIT - c.args.self.now.ticket) n) count
    ∙ passes_limit c.args.self.now.ticket (length (asks event)) NUMBER_LIMIT within)
    ∙ none in
    none ∙ ap (λ b. b && not (is_some (first_ready c.args.self.now.clock event))) (sym lacks)
