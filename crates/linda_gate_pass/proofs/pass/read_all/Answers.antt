use Rattle.linda_gate_pass.proofs.PassLaws.{reads_none}
use Rattle.linda_gate_pass.proofs.pass.read_all.Goals as goal

-- If memory runs out, nothing more was read.
pub returns-then-is_err-clause-all : goal.returns-then-is_err-clause-all
returns-then-is_err-clause-all c = (_, (reads_none _ _ _, tt))
