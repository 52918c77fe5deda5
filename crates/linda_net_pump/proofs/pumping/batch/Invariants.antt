use Rattle.std.proofs.Common.{◌≡◌, ◌≤◌, length, vec_len}
use Rattle.linda_net_pump.specs.Pumping.{ReadsOn}
use Rattle.linda_net_pump.proofs.pumping.batch.Given as goal

abbrev pub invariant-loop : goal.invariant-loop
invariant-loop l =
    ReadsOn l.initial.feed l.feed l.fn.first l.messages.items × (vec_len l.messages ≡ l.counter) × (length l.feed ≤ length l.initial.feed)
