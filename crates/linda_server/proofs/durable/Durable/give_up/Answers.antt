-- One that was up goes down at rest, and one that was down is as before.
use Rattle.std.proofs.Common.{◌≡◌, ◌∙◌, false, sym, true≢false, rules}
use Rattle.linda_server.proofs.LivesLaws.{stays_on}
use Rattle.linda_server.proofs.durable.Durable.give_up.Goals as goal

pub returns-then-not-self-clause-life : goal.returns-then-not-self-clause-life
returns-then-not-self-clause-life g c =
    let s = c.args.self.now in
    let up : s.down ≡ false = search rules in
    stays_on g.met.D.Disk.timed s c.begin.new.self (λ down. absurd (true≢false (sym down ∙ up)))
    (λ _. (c.begin.ensures.down, c.begin.ensures.before, c.begin.ensures.same.3))
