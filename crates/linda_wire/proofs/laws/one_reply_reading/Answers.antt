use Rattle.linda_wire.specs.Frames as format
use Rattle.linda_wire.specs.FrameLaws.{reply_is, reply_size}
use Rattle.linda_wire.proofs.FrontLaws.{one_reading}
use Rattle.linda_wire.proofs.laws.one_reply_reading.Goals as goal

pub returns : goal.returns
returns c = one_reading format.reply (record { lawful = reply_is; sized = reply_size })
