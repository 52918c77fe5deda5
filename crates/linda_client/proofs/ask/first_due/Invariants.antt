use Rattle.std.proofs.Common.{◌≡◌, nat_le, drop}
use Rattle.std.specs.Prelude.{find}
use Rattle.linda_client.proofs.ask.first_due.Given as goal

-- The first among the alarms that are left is the first of all.
abbrev pub invariant-loop-alarm : goal.invariant-loop-alarm
invariant-loop-alarm l = find (λ a. nat_le a.time l.clock) (drop l.alarm-index l.alarms) ≡ find (λ a. nat_le a.time l.clock) l.alarms
