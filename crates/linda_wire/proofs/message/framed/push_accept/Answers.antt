use Rattle.std.proofs.Common.{◌∷◌}
use Rattle.linda_codec.specs.Formats.{number}
use Rattle.linda_wire.specs.Frames.{stored}
use Rattle.linda_wire.specs.declared.kinds.TheConstants.{ACCEPT}
use Rattle.linda_wire.proofs.AppendLaws.{both_behind, appended}
use Rattle.linda_wire.proofs.message.framed.push_accept.Goals as goal

pub returns-clause-ok : goal.returns-clause-ok
returns-clause-ok c =
    let mid = c.push_placed.new.out.items in
    let new = c.extend_from_slice.new.self.items in
    both_behind c.extend_from_slice.result c.args.out.now.items (ACCEPT ∷ stored.spell (c.args.n, c.args.ticket)) (number.spell c.args.id)
    mid new c.in_ok-push_placed.ensures.ok
    (appended c.extend_from_slice.result mid c.to_be_bytes.result (number.spell c.args.id) new c.to_be_bytes.ensures c.extend_from_slice.ensures.items)
