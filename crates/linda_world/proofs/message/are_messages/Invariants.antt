use Rattle.std.proofs.Common.{◌≡◌, drop}
use Rattle.std.specs.List.{list_all}
use Rattle.linda_world.specs.Refusal.{is_message_at}
use Rattle.linda_world.proofs.message.are_messages.Given as goal

abbrev pub invariant-loop-k : goal.invariant-loop-k
invariant-loop-k l = list_all (is_message_at l.packets l.server) (drop l.k-index l.ks) ≡ list_all (is_message_at l.packets l.server) l.ks
