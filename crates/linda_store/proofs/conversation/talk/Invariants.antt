use Rattle.linda_store.proofs.ConverseLaws.{IsTalking}
use Rattle.linda_store.proofs.conversation.talk.Given as goal

abbrev pub invariant-loop : goal.invariant-loop
invariant-loop g l =
    IsTalking (g.N.Node.shown l.initial.node) (g.R.Read.remaining l.initial.reader) (g.R.Read.remaining l.reader)
    (g.W.Write.contents l.initial.writer) (g.W.Write.contents l.writer) l.session (g.N.Node.shown l.node) l.counter
