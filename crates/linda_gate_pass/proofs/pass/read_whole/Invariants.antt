use Rattle.std.proofs.Common.{length}
use Rattle.linda_gate_pass.specs.Passing.{AreOfOne, Reads}
use Rattle.linda_gate_pass.proofs.pass.read_whole.Given as goal

abbrev pub invariant-loop-message : goal.invariant-loop-message
invariant-loop-message l =
    Reads l.initial.passed l.passed l.initial.feed l.feed l.initial.out.items l.out.items × AreOfOne l.fn.numbers l.passed

abbrev pub decreases-loop-message : goal.decreases-loop-message
decreases-loop-message l = length l.feed
