-- Deeds go onto the bank in use at once, or there are none.
use Rattle.std.proofs.Common.{◌≡◌, ◌<◌, ◌≤◌, ◌+◌, true, All, length, ap, subst}
use Rattle.linda_store_state.specs.DeedFormat.{payload, SuitsForm}
use Rattle.linda_server.specs.Calls.{room_for}
use Rattle.linda_server.specs.Server.{is_usable, form_in_use, end_in_use, limit_in_use, failures_of}
use Rattle.linda_server.proofs.CommitLaws.{some_of, failure_told}
use Rattle.linda_server.proofs.PairLaws.{none_of, still_for, kept_still, put_on, kept_on}
use Rattle.linda_server.proofs.commit.commit.Goals as goal

pub returns-then-is_empty-clause-any_moment : goal.returns-then-is_empty-clause-any_moment
returns-then-is_empty-clause-any_moment g c st now are up leads =
    let none = none_of c.args.deeds.now c.is_empty.result c.is_empty.ensures c.if-is_empty.true in
    still_for g.met.D.Disk.timed c.args.disks.now st now c.args.deeds.now none are up leads

pub returns-then-is_empty-clause-kept : goal.returns-then-is_empty-clause-kept
returns-then-is_empty-clause-kept g c st now kept leads =
    let none = none_of c.args.deeds.now c.is_empty.result c.is_empty.ensures c.if-is_empty.true in
    kept_still g.met.D.Disk.timed c.args.disks.now st now c.args.deeds.now none kept leads

pub returns-in-Ok-clause-any_moment : goal.returns-in-Ok-clause-any_moment
returns-in-Ok-clause-any_moment g c st now are up leads =
    put_on g.met.D.Disk.timed c.args.disks.now c.in-InUse.pair (g.D.Disk.view c.append_all.new.self.disk) c.args.deeds.now
    c.in-InUse.is c.append_all.ensures.any_moment st now are up leads

pub returns-in-Err-clause-any_moment : goal.returns-in-Err-clause-any_moment
returns-in-Err-clause-any_moment g c st now are up leads =
    put_on g.met.D.Disk.timed c.args.disks.now c.in-InUse.pair (g.D.Disk.view c.append_all.new.self.disk) c.args.deeds.now
    c.in-InUse.is c.append_all.ensures.any_moment st now are up leads

pub returns-in-Ok-clause-kept : goal.returns-in-Ok-clause-kept
returns-in-Ok-clause-kept g c st now kept leads =
    kept_on g.met.D.Disk.timed c.args.disks.now c.in-InUse.pair (g.D.Disk.honest c.append_all.new.self.disk)
    c.append_all.new.self.form c.append_all.new.self.generation c.append_all.new.self.end (g.D.Disk.view c.append_all.new.self.disk) c.args.deeds.now
    c.in-InUse.is c.append_all.ensures.same.0 c.append_all.ensures.same.1 c.append_all.ensures.honest.1 c.in-Ok.ensures.done st now kept leads

-- The record is not refused, so a fault other than `Memory` is the device's.
pub returns-in-Err-clause-cause : goal.returns-in-Err-clause-cause
returns-in-Err-clause-cause g c =
    let pair = c.in-InUse.pair in
    let deeds = c.args.deeds.now in
    let ready = subst (λ d. is_usable d ≡ true) c.in-InUse.is c.requires.ready in
    let suit = subst (λ d. All (SuitsForm (form_in_use d)) deeds) c.in-InUse.is c.requires.suit in
    let room =
    subst (λ d. 0 < length deeds
    → end_in_use d + room_for (length deeds) (length (payload (form_in_use d) deeds)) ≤ limit_in_use d) c.in-InUse.is c.requires.room
    (some_of deeds c.is_empty.result c.is_empty.ensures c.if-is_empty.false) in
    let both = ap (λ d. failures_of d) c.in-InUse.is in
    failure_told c.in-Err.fault c.told.result pair.bank.form deeds pair.bank.end pair.bank.limit pair.bank.is_spent
    (g.D.Disk.failures pair.bank.disk) (g.D.Disk.failures c.append_all.new.self.disk) (g.D.Disk.failures pair.other) (failures_of c.args.disks.now)
    ready suit room both c.in-Err.ensures.full.0 c.in-Err.ensures.spent.0 c.in-Err.ensures.known.0
    c.in-Err.ensures.known.1 c.told.ensures.disk c.told.ensures.others c.in-Err.ensures.cause
