use Rattle.std.proofs.lemmas.Result.{err_from_is_err_and}
use Rattle.linda_net_pump.proofs.PumpLaws.{pumping_begins, pumping_on, pump_malformed, pump_cut, piece_some}
use Rattle.linda_net_pump.proofs.pumping.pump.Goals as goal

-- Before the first turn nothing was read.
pub loop-init : goal.loop-init
loop-init g c = pumping_begins _ _ _ c.new-feed.ensures

-- Handing over failed: some messages were taken.
pub returns-in_err-hand_over : goal.returns-in_err-hand_over
returns-in_err-hand_over g c =
    let p = err_from_is_err_and c.from_residual-in_err-hand_over.result c.from_residual-in_err-hand_over.ensures.1 in
    let read = c.in_ok-len.ensures.ok in
    rw (p.1, p.2) (pump_cut _ _ _ _ _ _ _ _ _ c.hand_over.new.feed _ c.loop.invariant read.1 c.in_err-hand_over.ensures)

-- A malformed frame ends the stream.
pub returns-in-Some : goal.returns-in-Some
returns-in-Some g c =
    let read = c.in_ok-len.ensures.ok in
    pump_malformed _ _ _ _ _ _ _ _ _ _ _ c.loop.invariant read.1 (rw c.in-Some.is at c.in_ok-hand_over.ensures)

-- One piece more was read, and its messages were taken.
pub loop-preserved : goal.loop-preserved
loop-preserved g c =
    let read = c.in_ok-len.ensures.ok in
    pumping_on _ _ _ _ _ _ _ _ _ _ c.loop.invariant read.1 (rw c.in-None.is at c.in_ok-hand_over.ensures) (piece_some _ _ read.0 c.if-len-eq0.false)
