use Rattle.linda_gate_pass.proofs.PassLaws.{one_more, reads_more}
use Rattle.linda_gate_pass.proofs.pass.read_whole.Goals as goal

-- One more message was read, and it may pass.
pub loop-message-preserved-in_ok-let_through-in-Ok-Some :
    goal.loop-message-preserved-in_ok-let_through-in-Ok-Some
loop-message-preserved-in_ok-let_through-in-Ok-Some c =
    let let_by = c.in_ok-let_through-in-Ok-Some.ensures in
    let found = rw c.in-Ok-Some.field-0-is at c.in-Ok-Some.ensures.found in
    let before = c.loop-message.invariant in (
      reads_more _ _ _ _ _ _ _ _ _ _ before.0 found.0 let_by.passed let_by.written,
      rw let_by.passed (one_more _ _ _ before.1 let_by.may),
    )

pub loop-message-preserved-in_ok-let_through-in-Ok-Some-2 :
    goal.loop-message-preserved-in_ok-let_through-in-Ok-Some-2
loop-message-preserved-in_ok-let_through-in-Ok-Some-2 c =
    let let_by = c.in_ok-let_through-in-Ok-Some.ensures in
    let found = rw c.in-Ok-Some.field-0-is at c.in-Ok-Some.ensures.found in
    let before = c.loop-message.invariant in (
      reads_more _ _ _ _ _ _ _ _ _ _ before.0 found.0 let_by.passed let_by.written,
      rw let_by.passed (one_more _ _ _ before.1 let_by.may),
    )

pub loop-message-preserved : goal.loop-message-preserved
loop-message-preserved c =
    let let_by = c.in_ok-let_through-in-Ok-Some.ensures in
    let found = rw c.in-Ok-Some.field-0-is at c.in-Ok-Some.ensures.found in
    let before = c.loop-message.invariant in (
      reads_more _ _ _ _ _ _ _ _ _ _ before.0 found.0 let_by.passed let_by.written,
      rw let_by.passed (one_more _ _ _ before.1 let_by.may),
    )
