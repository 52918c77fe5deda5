use Rattle.std.proofs.Common.{◌++◌, refl, ap, ◌∙◌, subst, false}
use Rattle.std.specs.Prelude.{Ok, Some}
use Rattle.linda_client.specs.Call.{call_of}
use Rattle.linda_client.specs.Reaction.{shown}
use Rattle.linda_world_laws.specs.World.{Member}
use Rattle.linda_world.specs.Member.{Reacts}
use Rattle.linda_world.proofs.member.Member.react.Goals as goal

pub returns : goal.returns
returns c =
    subst (λ (v : Member). Reacts (call_of c.args.call) c.args.number v c.args.packets.now.items
    (Ok (record { client = Some c.args.number; outcome = c.in-Ok.reaction.outcome; fault = c.in-Ok.reaction.fault; full = false }))
    (record { client = c.call.new.self; got = c.append_both.new.few.items }) c.append_both.new.many.items) c.self.view_is (record {
      reaction = shown c.in-Ok.reaction c.call.new.self;
      answer = c.in-Ok.ensures;
      member_is = ap (λ l. record { client = c.call.new.self; got = l }) (c.in_ok-append_both.ensures.one
          ∙ ap (λ l. c.self.inside.got.items ++ l) c.tuple_taken_by.ensures);
      packets_are = c.in_ok-append_both.ensures.ok ∙ ap (λ l. c.args.packets.now.items ++ l) c.in_ok-more.ensures;
      told_is = refl;
    })
