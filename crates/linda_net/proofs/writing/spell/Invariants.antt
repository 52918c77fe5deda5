use Rattle.std.proofs.Common.{◌≡◌, take}
use Rattle.std.specs.List.{flat_map}
use Rattle.linda_wire.specs.Frames.{reply_frame}
use Rattle.linda_net.proofs.writing.spell.Given as goal

abbrev pub invariant-loop-reply : goal.invariant-loop-reply
invariant-loop-reply l = l.bytes.items ≡ flat_map reply_frame (take l.reply-index l.replies)
