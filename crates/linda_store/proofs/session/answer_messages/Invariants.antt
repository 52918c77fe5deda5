use Rattle.std.proofs.Common.{length, true}
use Rattle.linda_store.specs.Turn.{point_at}
use Rattle.linda_store.proofs.TalkLaws.{HasTold}
use Rattle.linda_store.proofs.session.answer_messages.Given as goal

-- the messages read so far were answered, and what was said to them comes after the earlier replies
abbrev pub invariant-loop-found : goal.invariant-loop-found
invariant-loop-found g l =
    HasTold (point_at (g.N.Node.shown l.initial.node) l.initial.greeted true) l.initial.feed l.initial.replies.items
    l.feed l.replies.items (point_at (g.N.Node.shown l.node) l.greeted true)

abbrev pub decreases-loop-found : goal.decreases-loop-found
decreases-loop-found g l = length l.feed
