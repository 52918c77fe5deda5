use Rattle.std.proofs.Common.{◌≡◌, take}
use Rattle.linda_hold.proofs.ListLaws.{without_all}
use Rattle.linda_hold.proofs.waits.Waits.take_awaiting.Given as goal

-- Those that were passed are taken out.
abbrev pub invariant-loop-request : goal.invariant-loop-request
invariant-loop-request l = l.self ≡ without_all (take l.request-index l.request-items) l.fn.self
