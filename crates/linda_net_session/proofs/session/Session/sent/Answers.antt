use Rattle.std.proofs.Common.{◌≤◌, length, sym, subst}
use Rattle.linda_net_session.specs.Session.{Session}
use Rattle.linda_net_session.proofs.SessionLaws.{sent_keeps}
use Rattle.linda_net_session.proofs.session.Session.sent.Goals as goal

pub invariant_of-self : goal.invariant_of-self
invariant_of-self c =
    let i = c.self.inside in
    let within = subst (λ (s : Session). c.args.count ≤ length s.pending) (sym c.self.view_is) c.requires in (
      sent_keeps i.reads.items i.held i.feed _ i.tells.items _ _ _ _ _ _ _ _ c.and-self-inside.ensures c.sent.ensures within c.self.invariant.0,
      c.self.invariant.1,
    )
