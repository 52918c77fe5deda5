use Rattle.std.proofs.Common.{ap}
use Rattle.linda_shared_held.proofs.FaultLaws.{fallen_still}
use Rattle.linda_shared_held.proofs.held.give_up.fall.Goals as goal

pub returns-clause-still : goal.returns-clause-still
returns-clause-still g c =
    fallen_still c.args.server.now c.give_up.new.self c.give_up.ensures.down
    (λ down. ap (λ s. s.before.value) (c.give_up.ensures.was_down down)) (λ up. (c.give_up.ensures.up up).0)
