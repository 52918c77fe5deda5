use Rattle.std.proofs.Common.{◌∷◌}
use Rattle.linda_codec.specs.Values.{tuple}
use Rattle.linda_wire.specs.Frames.{spoken, stored}
use Rattle.linda_wire.proofs.AppendLaws.{both_behind}
use Rattle.linda_wire.proofs.reply.framed.push_entry.Goals as goal

pub returns-clause-ok : goal.returns-clause-ok
returns-clause-ok c =
    both_behind c.push_tuple.result c.args.out.now.items (c.args.kind ∷ stored.spell (c.args.number, c.args.id)) ((tuple spoken).spell c.args.tuple.now)
    c.push_placed.new.out.items c.push_tuple.new.out.items c.in_ok-push_placed.ensures.ok c.push_tuple.ensures.ok
