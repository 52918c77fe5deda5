use Rattle.std.proofs.Common.{length}
use Rattle.linda_net.proofs.reading.Reader.+take_each.Given as goal

abbrev pub decreases-take_each : goal.decreases-take_each
decreases-take_each g l = length l.messages.now
