-- The messages so far are spared, and the bank is the old one.
use Rattle.std.proofs.Common.{◌≡◌, ℕ, List, take}
use Rattle.linda_snap.specs.BankWriter.{Follows}
use Rattle.linda_server.specs.Next.{AreSpared}
use Rattle.linda_server.proofs.next.copy_taken_of_each.Given as goal

abbrev pub invariant-loop-message : goal.invariant-loop-message
invariant-loop-message l = record {
  follows : (front : List ℕ) → Follows l.fn.writer front l.state → Follows l.writer front l.state;
  safe : AreSpared l.writer l.state.bag (take l.message-index l.messages);
  same : (l.writer.generation ≡ l.fn.writer.generation) × (l.writer.limit ≡ l.fn.writer.limit);
}
