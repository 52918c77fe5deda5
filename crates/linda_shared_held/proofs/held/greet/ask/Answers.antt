-- A Hello changes nothing, and its answer is the greeting.
use Rattle.std.proofs.Common.{Err, length, sym, ap, ◌∙◌, subst, arith, rules}
use Rattle.linda_wire.specs.declared.limits.TheConstants.{VERSION}
use Rattle.linda_store_step.specs.Answer.{greeting}
use Rattle.linda_shared_held.specs.Greeting.{IsGreetingReply}
use Rattle.linda_shared_held.proofs.FaultLaws.{still_up}
use Rattle.linda_shared_held.proofs.GreetLaws.{hello_served, hello_does_nothing, hello_has_room, greets}
use Rattle.linda_shared_held.proofs.held.greet.ask.Goals as goal

pub first_of-requires : goal.first_of-requires
first_of-requires g c =
    let old = c.args.server.now.store in
    let new = c.serve.new.self.store in
    let is = hello_served old.state old.soft c.args.client c.args.client VERSION c.args.fresh
    c.in-Ok.served new.state new.soft c.is_down.ensures.orderly.state_is c.in-Ok.ensures.done in
    let long = ap length (ap (λ v. v.items) c.into_sends.ensures ∙ is.sends_are) in
    let counted = c.into_sends.result.ok.0 in
    omega (arith, long, counted)

pub returns-in-Ok-clause-reply : goal.returns-in-Ok-clause-reply
returns-in-Ok-clause-reply g c =
    let old = c.args.server.now.store in
    let new = c.serve.new.self.store in
    let is = hello_served old.state old.soft c.args.client c.args.client VERSION c.args.fresh
    c.in-Ok.served new.state new.soft c.is_down.ensures.orderly.state_is c.in-Ok.ensures.done in
    c.first_of.ensures c.args.client (greeting old.state c.args.client VERSION c.args.fresh) (ap (λ v. v.items) c.into_sends.ensures ∙ is.sends_are)

pub returns-in-Ok-clause-kind : goal.returns-in-Ok-clause-kind
returns-in-Ok-clause-kind g c =
    let old = c.args.server.now.store in
    let new = c.serve.new.self.store in
    let is = hello_served old.state old.soft c.args.client c.args.client VERSION c.args.fresh
    c.in-Ok.served new.state new.soft c.is_down.ensures.orderly.state_is c.in-Ok.ensures.done in
    subst IsGreetingReply (sym
    (c.first_of.ensures c.args.client (greeting old.state c.args.client VERSION c.args.fresh) (ap (λ v. v.items) c.into_sends.ensures ∙ is.sends_are)))
    (greets old.state c.args.client VERSION c.args.fresh)

pub returns-in-Ok-clause-asked : goal.returns-in-Ok-clause-asked
returns-in-Ok-clause-asked g c =
    let old = c.args.server.now in
    let new = c.serve.new.self in
    let up = c.in-Ok.ensures.up in
    let is = hello_served old.store.state old.store.soft c.args.client c.args.client VERSION c.args.fresh
    c.in-Ok.served new.store.state new.store.soft c.is_down.ensures.orderly.state_is c.in-Ok.ensures.done in
    let none = hello_does_nothing old.store.state old.store.soft c.args.client c.args.client VERSION
    c.args.fresh c.in-Ok.served new.store.state new.store.soft c.in-Ok.ensures.done in
    record {
      same = (up.1, (is.state_is, is.soft_is, c.in-Ok.ensures.idle none));
      limit = c.serve.ensures.limit;
      only_down = tt;
      down = search rules;
      still = still_up old new up.0 up.1 is.state_is;
    }

pub unreachable-requires : goal.unreachable-requires
unreachable-requires g c =
    hello_has_room c.args.server.now c.args.client c.args.client VERSION c.args.fresh c.is_down.ensures.orderly
    (c.in-Err-Full.ensures.full (ap Err c.in-Err-Full.field-0-is)).1
