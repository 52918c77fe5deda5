use Rattle.std.proofs.Common.{take}
use Rattle.std.specs.List.{flat_map}
use Rattle.linda_codec.proofs.FrontLaws.{older_front}
use Rattle.linda_codec.proofs.list.push_list.Goals as goal

pub returns-in_err-push-clause-front : goal.returns-in_err-push-clause-front
returns-in_err-push-clause-front g c =
    older_front c.args.out.now.items (flat_map (g.V.Spelled.format c.args.form).spell (take c.loop-value.value-index c.args.values.now))
    c.loop-value.out.items c.push.new.out.items c.loop-value.invariant c.push.ensures.front
