use Rattle.linda_shared_held.proofs.FloorLaws.{remembers_kept}
use Rattle.linda_shared_held.proofs.held.recall.begin_anew.Goals as goal

pub returns-clause-remembers : goal.returns-clause-remembers
returns-clause-remembers g c =
    remembers_kept c.args.state.now record { floors = c.numbers_kept.result; long = c.shorten_all.new.clients } c.numbers_kept.ensures
