use Rattle.std.proofs.Common.{◌≡◌, sym, subst}
use Rattle.linda_wire.specs.Stream.{Partial, message_front}
use Rattle.linda_net_session.specs.Session.{Session}
use Rattle.linda_net_session.proofs.SessionLaws.{rest_lawful}
use Rattle.linda_net_session.proofs.session.Session.rest.Goals as goal

pub invariant_of-self : goal.invariant_of-self
invariant_of-self c =
    let none = subst (λ (s : Session). message_front s.unread ≡ Partial) (sym c.self.view_is) c.requires in
    rw c.rested-self-inside.ensures (let h = rest_lawful _ none c.self.invariant.0 in (h, c.self.invariant.1))
