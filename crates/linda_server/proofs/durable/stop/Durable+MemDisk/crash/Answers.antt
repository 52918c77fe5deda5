-- A crash leaves no more than it might.
use Rattle.std.proofs.Common.{ap, ◌∙◌}
use Rattle.linda_disk.specs.MemDisk as disk
use Rattle.linda_server.specs.Disks.{disks_of}
use Rattle.linda_server.specs.Calls.{IsWithOrWithout}
use Rattle.linda_server.proofs.FallenLaws.{fewer, apart, honest_joined}
use Rattle.linda_server.proofs.durable.stop.Durable+MemDisk.crash.Goals as goal

pub invariant_of-self-clause-fallen : goal.invariant_of-self-clause-fallen
invariant_of-self-clause-fallen c _ are =
    let s = c.args.self.now in
    let x = c.into_both-left.result in
    let P = IsWithOrWithout s.before.value s.lost.items in
    let same = c.into_both-left.ensures ∙ ap (disks_of (λ b. b.disk)) c.replace.ensures.value in
    let now = apart (λ b. b.disk) disk.view (λ d. Unit {0}) s.disks x P same
    (s.fallen c.requires (honest_joined (λ b. b.disk) disk.view (λ d. Unit {0}) s.disks x same (tt, tt))) in
    fewer (disk.view x.0) (disk.view x.1) (disk.view c.crash_both-crashed.new.left)
    (disk.view c.crash_both-crashed.new.right) P now c.crash_both-crashed.ensures.left c.crash_both-crashed.ensures.right
