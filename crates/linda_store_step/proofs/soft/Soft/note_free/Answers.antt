use Rattle.linda_store_step.specs.Looking.{is_held}
use Rattle.linda_store_step.proofs.soft.Soft.note_free.Goals as goal

pub returns-in-None : goal.returns-in-None
returns-in-None c = λ bag before next stored others rights. c.free.ensures bag before (is_held c.args.self.now.holds) next stored others rights
