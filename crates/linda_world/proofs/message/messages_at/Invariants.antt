use Rattle.std.proofs.Common.{take}
use Rattle.linda_world_laws.specs.Steps.{AreMessagesAt}
use Rattle.linda_world.proofs.message.messages_at.Given as goal

abbrev pub invariant-loop-k : goal.invariant-loop-k
invariant-loop-k l = AreMessagesAt l.packets l.server (take l.k-index l.ks) l.messages.items
