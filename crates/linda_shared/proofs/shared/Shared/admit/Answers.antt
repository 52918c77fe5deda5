-- A greeting is the server's.
use Rattle.linda_shared.proofs.GreetingLaws.{as_it_stands}
use Rattle.linda_shared.proofs.shared.Shared.admit.Goals as goal

pub returns-clause-greeted : goal.returns-clause-greeted
returns-clause-greeted g c =
    let held = c.deref_mut-locked.result.now.held in
    as_it_stands c.greet-answer.result c.args.message.now held.server.store.state held.accounts.places c.greet-answer.ensures.greeted
