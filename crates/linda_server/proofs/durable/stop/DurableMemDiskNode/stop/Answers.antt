-- A stop, from a server that is up and from one that is down.
use Rattle.std.proofs.Common.{true≢false, ap, sym, subst, refl, ◌∙◌}
use Rattle.linda_store_step.specs.Store.{Store}
use Rattle.linda_store.specs.Node.{MayRemain, in_hand}
use Rattle.linda_server.specs.Node.{shown}
use Rattle.linda_server.proofs.NodeLaws.{stops}
use Rattle.linda_server.proofs.durable.stop.DurableMemDiskNode.stop.Goals as goal

pub returns-then-self : goal.returns-then-self
returns-then-self c =
    let old = c.args.self.now in
    let new = c.restart.new.self in
    stops old.before.value new.before.value old.store new.store old.down new.down old.lost.items new.lost.items
    (in_hand c.args.work) old.before.value old.lost.items
    (λ up. absurd (true≢false (sym c.if-self.true ∙ up))) (λ _. refl) (λ up. absurd (true≢false (sym c.if-self.true ∙ up))) (λ _. refl)
    old.store c.restart.result (λ _. refl) c.restart.ensures.opened c.restart.ensures.up c.restart.ensures.down c.restart.ensures.never_full

pub returns : goal.returns
returns c =
    let old = c.args.self.now in
    let fused = c.fuse.new.self in
    let mid = c.fall.new.self in
    let new = c.restart-2.new.self in
    let same = c.fuse.ensures in
    let remains = subst (λ n. MayRemain n (in_hand c.args.work) mid.lost.items)
    (λ i. shown (same.4 i) (same.0 i) ((same.2 ∙ sym c.if-self.false) i) (same.3 i)) c.fall.ensures.lost in
    stops old.before.value new.before.value old.store new.store old.down new.down old.lost.items new.lost.items
    (in_hand c.args.work) mid.before.value mid.lost.items
    (λ _. c.fall.ensures.before ∙ ap (λ (s : Store). s.state) same.0) (λ down. absurd (true≢false (sym down ∙ c.if-self.false)))
    (λ _. remains) (λ down. absurd (true≢false (sym down ∙ c.if-self.false)))
    mid.store c.restart-2.result (λ down. absurd (true≢false (sym down ∙ c.if-self.false)))
    c.restart-2.ensures.opened c.restart-2.ensures.up c.restart-2.ensures.down c.restart-2.ensures.never_full
