-- What was written in pieces and synced is there after the closed gate.
use Rattle.std.proofs.Common.{[], ◌∙◌, refl}
use Rattle.linda_journal.specs.Gate.{IsShut}
use Rattle.linda_journal.proofs.GateLaws.{ready_now}
use Rattle.linda_journal.proofs.RenewalLaws.{closes_of}
use Rattle.linda_journal.proofs.whole.write_behind.Goals as goal

pub returns-clause-ready : goal.returns-clause-ready
returns-clause-ready g c body is honest =
    let old = g.D.Disk.view c.args.disk.now in
    let shut : IsShut [] 0 old = record { place = refl; file = closes_of old.seen (c.requires.closed honest); durable = c.requires.durable honest } in
    let syncs = c.in_ok-sync.ensures.syncs (c.in_ok-write_pieces.ensures.runs.honest.0 honest) in
    ready_now [] body 0 c.args.bytes.now old (g.D.Disk.view c.sync.new.self) shut is (syncs.seen ∙ c.in_ok-write_pieces.ensures.seen honest) syncs.durable
