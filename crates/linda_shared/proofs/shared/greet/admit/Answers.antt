-- A greeting is the server's.
use Rattle.std.proofs.Common.{Ok, sym, subst}
use Rattle.linda_shared_held.specs.Greeting.{IsGreeted, admission_of}
use Rattle.linda_shared.proofs.shared.greet.admit.Goals as goal

pub returns-in-Refused-clause-greeted : goal.returns-in-Refused-clause-greeted
returns-in-Refused-clause-greeted g c =
    let held = c.args.held.now in
    record {
      state = held.server.store.state;
      places = held.accounts.places;
      greeted = subst (λ a. IsGreeted held.server.store.state held.accounts.places c.args.message.now (admission_of a))
          c.in-Refused.is c.in_ok-admission.ensures.greeted;
    }

pub returns-in-Welcome-clause-greeted : goal.returns-in-Welcome-clause-greeted
returns-in-Welcome-clause-greeted g c =
    let held = c.args.held.now in
    record {
      state = held.server.store.state;
      places = held.accounts.places;
      greeted =
          subst (λ account. IsGreeted held.server.store.state held.accounts.places c.args.message.now (Ok (account, c.in-Welcome.last))) (sym c.new.ensures)
          (subst (λ a. IsGreeted held.server.store.state held.accounts.places c.args.message.now (admission_of a))
          c.in-Welcome.is c.in_ok-admission.ensures.greeted);
    }
