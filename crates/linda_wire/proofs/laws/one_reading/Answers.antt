use Rattle.linda_wire.specs.Frames as format
use Rattle.linda_wire.specs.FrameLaws.{message_is, message_size}
use Rattle.linda_wire.proofs.FrontLaws.{one_reading}
use Rattle.linda_wire.proofs.laws.one_reading.Goals as goal

pub returns : goal.returns
returns c = one_reading format.message (record { lawful = message_is; sized = message_size })
