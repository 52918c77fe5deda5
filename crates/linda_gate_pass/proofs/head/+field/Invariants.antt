use Rattle.linda_gate_pass.proofs.head.+field.Given as goal

abbrev pub decreases-field : goal.decreases-field
decreases-field l = l.count
