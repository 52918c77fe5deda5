use Rattle.std.proofs.Common.{All, length}
use Rattle.linda_shared_queue.specs.Seat.{IsRequest}
use Rattle.linda_test_code_sessions.proofs.script.requests.are_requests.Given as goal

-- If none of the rest is a Hello, none of the messages is.
abbrev pub invariant-loop-rest : goal.invariant-loop-rest
invariant-loop-rest l = All IsRequest l.rest → All IsRequest l.fn.messages

abbrev pub decreases-loop-rest : goal.decreases-loop-rest
decreases-loop-rest l = length l.rest
