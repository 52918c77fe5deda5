use Rattle.std.proofs.Common.{subst}
use Rattle.linda_store_state.proofs.ProperLaws.{proper_state}
use Rattle.linda_snap.specs.Replay.{joined}
use Rattle.linda_snap.specs.Snapshot.{IsSnapshot}
use Rattle.linda_snap.proofs.ChoiceLaws.{unrecovered}
use Rattle.linda_snap.proofs.choice.recover.Goals as goal

pub returns-in-Ok-replay-clause-found : goal.returns-in-Ok-replay-clause-found
returns-in-Ok-replay-clause-found g c =
    let snapshot = subst (λ b. IsSnapshot c.args.form b c.in-Ok.opening) c.deref.ensures.value c.in-Ok.ensures.found in
    record { opening = c.in-Ok.opening; snapshot = snapshot; done = c.in-Ok-replay.ensures.done }

pub returns-clause-fault : goal.returns-clause-fault
returns-clause-fault g c =
    let snapshot = subst (λ b. IsSnapshot c.args.form b c.in-Ok.opening) c.deref.ensures.value c.in-Ok.ensures.found in
    rw c.told_of.ensures (unrecovered c.args.form c.args.body.items c.args.records.items c.in-Ok.opening c.in-Err.fault snapshot c.in-Err.ensures.fault)

pub returns-in-Ok-replay-clause-ranges : goal.returns-in-Ok-replay-clause-ranges
returns-in-Ok-replay-clause-ranges g c =
    let done = c.in-Ok-replay.ensures.done in
    proper_state c.in-Ok.opening c.replay.new.state (joined c.args.records.items) c.in-Ok.ensures.found.ranges done.proper done.after
