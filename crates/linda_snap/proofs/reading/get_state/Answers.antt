use Rattle.linda_snap.proofs.StateLaws.{only_this}
use Rattle.linda_snap.proofs.reading.get_state.Goals as goal

pub returns-clause-only : goal.returns-clause-only
returns-clause-only g c = only_this c.args.form c.args.bytes.now c.read_state.result c.read_state.ensures.found c.read_state.ensures.fault
