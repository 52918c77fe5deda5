use Rattle.std.proofs.Common.{◌≡◌, ◌+◌, ◌≤◌, ◌++◌, ℕ, List, length}
use Rattle.linda_store.specs.Node.{Node}
use Rattle.linda_pipe.specs.Exchanges.{IsUnderway}
use Rattle.linda_pipe.proofs.exchange.Exchange.take_text.Given as goal

-- some front of the text was taken, and what is left comes after it
abbrev pub invariant-loop-end : goal.invariant-loop-end
invariant-loop-end g l = record {
  front : List ℕ;
  spelled : l.text ≡ front ++ l.rest;
  leads : (first : Node) (read sent : List ℕ) → IsUnderway g.N.Node.shown first read sent l.initial.self
      → IsUnderway g.N.Node.shown first (read ++ front) sent l.self;
  count : l.self.lines + length l.rest ≤ l.initial.self.lines + length l.text;
}

abbrev pub decreases-loop-end : goal.decreases-loop-end
decreases-loop-end g l = length l.rest
