use Rattle.std.proofs.Common.{refl, sym, ap, ◌∙◌}
use Rattle.linda_map_laws.proofs.MapLaws.{viewed}
use Rattle.linda_client.specs.Call.{call_of}
use Rattle.linda_world.specs.Member.{refusal_to}
use Rattle.linda_world.proofs.MemberLaws.{reacted_in, tree_view}
use Rattle.linda_world.proofs.member.Members.react.Goals as goal

pub returns-in_default : goal.returns-in_default
returns-in_default c = (
  ap (λ o. refusal_to o (call_of c.args.call)) (sym (viewed c.self.inside.by_number c.args.self.now c.self.view_is c.args.number)
      ∙ sym c.in_default.ensures.value),
  (ap tree_view c.get_mut.follows.holds-at-none ∙ c.self.view_is, refl),
)

pub returns : goal.returns
returns c =
    reacted_in (call_of c.args.call) c.args.number c.args.self.now
    (tree_view (c.get_mut.follows.lender c.react.new.self)) c.args.packets.now.items c.react.new.packets.items
    c.self.inside.by_number (c.get_mut.follows.lender c.react.new.self) c.in-Some.member.now c.react.new.self c.self.view_is refl
    (sym c.in-Some.ensures.value) ((c.get_mut.follows.holds c.react.new.self).3) c.react.result c.react.ensures
