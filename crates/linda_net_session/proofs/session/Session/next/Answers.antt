use Rattle.std.proofs.Common.{◌≡◌, ◌≤◌, ◌∙◌, sym, ap, subst}
use Rattle.linda_net_session.specs.declared.phase.TheConstants.{MOST_ASKED}
use Rattle.linda_net_session.specs.declared.phase.Phase.{Phase}
use Rattle.linda_wire.specs.Stream.{Whole, message_front}
use Rattle.linda_net_session.specs.declared.route.MessageKind.{MessageKind}
use Rattle.linda_net_session.specs.declared.route.Route.{Route}
use Rattle.linda_net_session.specs.Place.{on_way, place}
use Rattle.linda_net_session.specs.Session.{Session, took}
use Rattle.linda_net_session.specs.Turns.{Leads, placed}
use Rattle.linda_net_session.proofs.SessionLaws.{placed_few, took_lawful, took_is}
use Rattle.linda_net_session.proofs.session.Session.next.Goals as goal

pub invariant_of-self-2 : goal.invariant_of-self-2
invariant_of-self-2 c =
    let lawful = c.self.invariant.0 in
    let front = rw c.in-Some.is at c.in-Ok.ensures.exact in
    let found = rw c.in-Some.is at c.in-Ok.ensures.found in
    let few = subst (λ (p : Route × Phase). on_way p.1 ≤ MOST_ASKED) (sym c.place-route.ensures) (placed_few _ _ _ lawful.few) in
    rw (c.in-Ok.ensures.empty, c.and-self-inside.ensures) (let h = took_lawful _ _ c.place-route.result.0 _ _ lawful few front found in (h, tt))

pub returns : goal.returns
returns c =
    let i = c.self.inside in
    let front = rw c.in-Some.is at c.in-Ok.ensures.exact in
    let goes = c.place-route.ensures ∙ ap (λ (kind : MessageKind). place i.phase kind c.args.room) c.kind_of.ensures in
    let is = took_is i.reads.items i.held c.next_in_line.new.held i.feed c.next_in_line.new.feed i.takes.items c.and-self-inside.result.items i.tells.items
    i.writes.items i.out i.phase i.end i.may_have c.in-Some.message c.place-route.result _ c.in-Ok.ensures.empty c.and-self-inside.ensures goes in
    record {
      may = sym c.may_take.ensures ∙ c.if-not-may_take.false;
      rest = c.next_in_line.new.feed;
      front = subst (λ (s : Session). message_front s.unread ≡ Whole c.in-Some.message c.next_in_line.new.feed) c.self.view_is front;
      goes = subst (λ (s : Session). c.place-route.result.0 ≡ (placed c.args.room c.in-Some.message s).0) c.self.view_is (ap (λ (p : Route × Phase). p.0) goes);
      away = sym c.is_keep.ensures ∙ c.if-is_keep.false;
      leads = subst (λ (s : Session). Leads c.place-route.result.0
          (took c.in-Some.message c.next_in_line.new.feed (placed c.args.room c.in-Some.message s) s) c.lead.new.self)
          c.self.view_is (subst (λ (s : Session). Leads c.place-route.result.0 s c.lead.new.self) is c.lead.ensures);
    }
