use Rattle.std.proofs.Common.{◌≤◌, ◌*◌, ◌+◌, []}
use Rattle.linda_store.specs.Node.{Node}
use Rattle.linda_pipe.specs.declared.piping.TheConstants.{BUFFER}
use Rattle.linda_pipe.specs.Exchanges.{IsPiping, IsUnderway}
use Rattle.linda_pipe.proofs.piping.serve.Given as goal

-- what was read so far is under way, and its replies are sent
abbrev pub invariant-loop-turn : goal.invariant-loop-turn
invariant-loop-turn g l = record {
  count : l.exchange.lines ≤ l._turn * (BUFFER + 1);
  piping : (first : Node) → IsUnderway g.N.Node.shown first [] [] l.initial.exchange
      → IsPiping g.N.Node.shown first l._turn (g.R.Read.remaining l.initial.reader) (g.R.Read.remaining l.reader)
      (g.W.Write.contents l.initial.writer) (g.W.Write.contents l.writer) l.exchange;
}
