-- What the disks read represents the state before the call, or the one after the lost deeds.
use Rattle.std.proofs.Common.{true, false, ap, ◌∙◌}
use Rattle.std.specs.Global.{Vec}
use Rattle.linda_store_state.specs.declared.deed.Deed.{Deed}
use Rattle.linda_server.specs.Disks.{disks_of}
use Rattle.linda_server.specs.Calls.{IsWithOrWithout}
use Rattle.linda_server.proofs.FallenLaws.{fewer, no_more, as_read, apart, honest_apart, honest_joined}
use Rattle.linda_server.proofs.ReopeningLaws.{came_back}
use Rattle.linda_server.proofs.durable.Durable.come_back.Goals as goal

pub invariant_of-self-clause-fallen : goal.invariant_of-self-clause-fallen
invariant_of-self-clause-fallen g c _ are =
    let s = c.args.self.now in
    let x = c.into_both-left.result in
    let view = g.D.Disk.view in
    let P = IsWithOrWithout s.before.value s.lost.items in
    let same = c.into_both-left.ensures ∙ ap (disks_of (λ b. b.disk)) c.replace.ensures.value in
    let were = c.in-Err.ensures.honest.1.1 are in
    let now = apart (λ b. b.disk) view g.D.Disk.honest s.disks x P same
    (s.fallen c.requires (honest_joined (λ b. b.disk) view g.D.Disk.honest s.disks x same were)) in
    let run = (c.in-Err.ensures.any_moment were.0 were.1).1 in
    fewer (view x.0) (view x.1) (view c.in-Err.left) (view c.in-Err.right) P now
    (no_more (view x.0) (view c.in-Err.left) (g.met.D.Disk.timed c.in-Err.left are.0) run.left)
    (no_more (view x.1) (view c.in-Err.right) (g.met.D.Disk.timed c.in-Err.right are.1) run.right)

pub returns-then-has_done-clause-opened : goal.returns-then-has_done-clause-opened
returns-then-has_done-clause-opened g c are =
    let s = c.args.self.now in
    let x = c.into_both-left.result in
    let view = g.D.Disk.view in
    let P = IsWithOrWithout s.before.value s.lost.items in
    let same = c.into_both-left.ensures ∙ ap (disks_of (λ b. b.disk)) c.replace.ensures.value in
    let were = honest_apart (λ b. b.disk) view g.D.Disk.honest s.disks x same are in
    let now = apart (λ b. b.disk) view g.D.Disk.honest s.disks x P same (s.fallen c.requires are) in
    let some = as_read (view x.0) (view x.1) P (g.met.D.Disk.timed x.0 were.0) (g.met.D.Disk.timed x.1 were.1) now in
    let lost = ap (λ (v : Vec Deed). v.items) c.replace-lost.ensures.value in
    came_back s.before.value s.lost.items c.deref.result.now c.replace-lost.result.items c.in-Ok.server.store
    (view x.0).seen (view x.1).seen c.state.result.now true c.has_done.result
    c.has_done.ensures c.if-has_done.true c.state.ensures.state (c.deref.ensures.value ∙ lost) lost some
    (c.in-Ok.ensures.found were.0 were.1) c.in-Ok.ensures.new.0

pub returns-else-has_done-clause-opened : goal.returns-else-has_done-clause-opened
returns-else-has_done-clause-opened g c are =
    let s = c.args.self.now in
    let x = c.into_both-left.result in
    let view = g.D.Disk.view in
    let P = IsWithOrWithout s.before.value s.lost.items in
    let same = c.into_both-left.ensures ∙ ap (disks_of (λ b. b.disk)) c.replace.ensures.value in
    let were = honest_apart (λ b. b.disk) view g.D.Disk.honest s.disks x same are in
    let now = apart (λ b. b.disk) view g.D.Disk.honest s.disks x P same (s.fallen c.requires are) in
    let some = as_read (view x.0) (view x.1) P (g.met.D.Disk.timed x.0 were.0) (g.met.D.Disk.timed x.1 were.1) now in
    let lost = ap (λ (v : Vec Deed). v.items) c.replace-lost.ensures.value in
    came_back s.before.value s.lost.items c.deref.result.now c.new-in-Ok.result.items c.in-Ok.server.store
    (view x.0).seen (view x.1).seen c.state.result.now false c.has_done.result
    c.has_done.ensures c.if-has_done.false c.state.ensures.state (c.deref.ensures.value
    ∙ lost) c.new-in-Ok.ensures.items some (c.in-Ok.ensures.found were.0 were.1) c.in-Ok.ensures.new.0
