use Rattle.linda_codec.specs.Formats.{no_kind}
use Rattle.linda_codec.proofs.ChoiceLaws.{by_the_first}
use Rattle.linda_wire.specs.Frames as format
use Rattle.linda_wire.proofs.reply.framed.ReplyFramePayload.read.Goals as goal

pub returns-in-len1-up : goal.returns-in-len1-up
returns-in-len1-up c =
    rw (by_the_first format.reply_kinds no_kind c.args.payload.now c.in-len1-up.len_at_least) c.read_body.ensures
