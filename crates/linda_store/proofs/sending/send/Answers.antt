use Rattle.std.proofs.Common.{arith}
use Rattle.std.proofs.Math.Seq.{take-add}
use Rattle.std.proofs.lemmas.List.{take_rest, length-drop}
use Rattle.std.proofs.KnownBytes.{Appends-trans}
use Rattle.linda_store.proofs.sending.send.Goals as goal

pub loop-sent-preserved : goal.loop-sent-preserved
loop-sent-preserved g c =
    let some = rw take_rest at c.in_ok-sent.ensures.ok in
    let bound = rw take_rest at c.in_ok-sent.ensures.bound in
    record {
      within = omega (arith, length-drop c.loop-sent.sent c.args.bytes.now);
      out = rw take-add (Appends-trans _ _ _ _ _ c.loop-sent.invariant.out some);
    }
