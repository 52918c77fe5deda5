use Rattle.std.proofs.Common.{All, IfSome, sym, subst}
use Rattle.std.proofs.lemmas.List.Elements.{All-push}
use Rattle.linda_hold.specs.Waits.{IsWait}
use Rattle.linda_hold.proofs.waits.Waits.push_aged.Goals as goal

pub returns-clause-waiting : goal.returns-clause-waiting
returns-clause-waiting c =
    let here : IsWait c.args.self.now c.in-Some.wait = subst (λ o. IfSome o (IsWait c.args.self.now)) c.in-Some.is c.in_ok-wait.ensures in
    λ all. subst (All (IsWait c.args.self.now)) (sym c.in_ok-push.ensures.items)
    (All-push (IsWait c.args.self.now) c.args.found.now.items c.in-Some.wait all here)
