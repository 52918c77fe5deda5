use Rattle.std.proofs.Common.{length}
use Rattle.linda_net.proofs.reading.+requests_in_front.Given as goal

abbrev pub decreases-requests_in_front : goal.decreases-requests_in_front
decreases-requests_in_front l = length l.messages.now
