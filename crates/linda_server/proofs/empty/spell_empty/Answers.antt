-- The empty state has a snapshot of 16 bytes.
use Rattle.linda_server.proofs.EmptyLaws.{empty_short, is_empty_state, short_state}
use Rattle.linda_server.proofs.empty.spell_empty.Goals as goal

pub put_state-requires-clause-ranges : goal.put_state-requires-clause-ranges
put_state-requires-clause-ranges c = is_empty_state c.new-state.result c.new-state.ensures

pub put_state-requires-clause-short : goal.put_state-requires-clause-short
put_state-requires-clause-short c = short_state c.new-state.result c.new-state.ensures

pub returns-in_err-put_state-clause-short : goal.returns-in_err-put_state-clause-short
returns-in_err-put_state-clause-short c = empty_short

pub returns-clause-short : goal.returns-clause-short
returns-clause-short c = empty_short
