use Rattle.std.proofs.Common.{◌≡◌, None, sym, ap, subst}
use Rattle.linda_net_session.specs.declared.end.SessionEnd.TheVariants as ends
use Rattle.linda_net_session.specs.Session.{Session, is_closed}
use Rattle.linda_net_session.proofs.SessionLaws.{told_lawful}
use Rattle.linda_net_session.proofs.session.Session.close.Goals as goal

pub invariant_of-self : goal.invariant_of-self
invariant_of-self c =
    let ending = subst (λ (s : Session). s.ends ≡ ends.Ending c.args.word) (sym c.self.view_is) c.requires in
    (told_lawful None _ c.self.invariant.0 (ap is_closed ending) tt, c.self.invariant.1)
