use Rattle.std.proofs.Common.{◌∙◌, sym}
use Rattle.linda_net_session.proofs.StoryLaws.{message_again}
use Rattle.linda_net_session.proofs.session.next_in_line.Goals as goal

pub returns-in-Some-clause-exact : goal.returns-in-Some-clause-exact
returns-in-Some-clause-exact c =
    let there = sym c.take.ensures.value ∙ c.in-Some.is in
    rw there (message_again c.in-Some.message c.args.feed.now (rw there at c.requires))
