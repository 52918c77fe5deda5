use Rattle.std.proofs.lemmas.Result.{err_from_is_err_and}
use Rattle.linda_net_pump.proofs.PumpLaws.{up_to_some, batch_taken, batch_cut, fault_told}
use Rattle.linda_net_pump.proofs.pumping.hand_over_whole.Goals as goal

-- There is no memory for a batch: the messages before it were taken.
pub returns-in_err-messages-in-Some : goal.returns-in_err-messages-in-Some
returns-in_err-messages-in-Some g c =
    let p = err_from_is_err_and c.from_residual.result c.from_residual.ensures.1 in
    rw (p.1, p.2, c.in_err-messages-in-Some.ensures.err) (tt, up_to_some _ _ _ _ c.loop-found.invariant)

-- One batch more was taken.
pub loop-found-preserved : goal.loop-found-preserved
loop-found-preserved g c =
    let found = rw c.in-Some.is at c.in-Ok.ensures.found in
    batch_taken _ _ _ _ _ _ _ _ _ c.loop-found.invariant found c.in_ok-messages-in-Some.ensures.ok c.in_ok-take-in-Some.ensures.ok

-- The intake failed: some messages of one batch more were taken.
pub returns-in_err-take-in-Some : goal.returns-in_err-take-in-Some
returns-in_err-take-in-Some g c =
    let p = err_from_is_err_and c.from_residual-in_err-take-in-Some.result c.from_residual-in_err-take-in-Some.ensures.1 in
    let found = rw c.in-Some.is at c.in-Ok.ensures.found in
    let cut = c.in_err-take-in-Some.ensures.err in
    rw (p.1, p.2) (cut.0, batch_cut _ _ _ _ _ _ _ _ _ c.loop-found.invariant found c.in_ok-messages-in-Some.ensures.ok cut.1)

-- The fault of the frame at the front is returned.
pub returns-in-Err : goal.returns-in-Err
returns-in-Err g c =
    fault_told _ _ _ _ _ _ _ c.loop-found.invariant c.detail_of.ensures.ok c.detail_of.ensures.err c.in-Err.ensures.exact
