use Rattle.std.proofs.Common.{rules}
use Rattle.linda_wire.specs.declared.reply.Reply.TheVariants as replies
use Rattle.linda_wire.specs.Frames.{of_two, of_three}
use Rattle.linda_wire.proofs.reply.framed.skip_body.Goals as goal

pub returns-in-17 : goal.returns-in-17
returns-in-17 c = search (rules, c.skip_number.ensures replies.Welcome)

pub returns-in-18 : goal.returns-in-18
returns-in-18 c = search (rules, c.skip_pair.ensures (of_two replies.Stored))

pub returns-in-19 : goal.returns-in-19
returns-in-19 c = search (rules, c.skip_entry.ensures (of_three replies.Offer))

pub returns-in-20 : goal.returns-in-20
returns-in-20 c = search (rules, c.skip_entry-in-20.ensures (of_three replies.Read))

pub returns-in-21 : goal.returns-in-21
returns-in-21 c = search (rules, c.skip_entry-in-21.ensures (of_three replies.Taken))

pub returns-in-22 : goal.returns-in-22
returns-in-22 c = search (rules, c.skip_number-in-22.ensures replies.Gone)

pub returns-in-24 : goal.returns-in-24
returns-in-24 c = search (rules, c.skip_number-in-24.ensures replies.Left)
