use Rattle.std.proofs.Common.{◌≡◌, false, sym, subst}
use Rattle.linda_net_session.specs.Session.{Session, is_closed}
use Rattle.linda_net_session.proofs.SessionLaws.{say_keeps}
use Rattle.linda_net_session.proofs.session.Session.say.Goals as goal

pub invariant_of-self : goal.invariant_of-self
invariant_of-self c =
    let i = c.self.inside in
    let open_still = subst (λ (s : Session). is_closed s.ends ≡ false) (sym c.self.view_is) c.requires in (
      say_keeps i.reads.items i.held i.feed _ _ _ i.writes.items _ _ _ _ _ _ c.and-self-inside.ensures c.in-Ok.ensures.ok open_still c.self.invariant.0,
      c.self.invariant.1,
    )
