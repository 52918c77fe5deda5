use Rattle.std.proofs.Common.{◌≡◌, vec_len}
use Rattle.linda_shared_queue.proofs.mail.Mail.open.Given as goal

abbrev pub invariant-loop : goal.invariant-loop
invariant-loop g l = vec_len l.self.places ≡ l.counter
