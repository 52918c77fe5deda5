use Rattle.std.proofs.Common.{nat_cmp}
use Rattle.std.specs.BTreeMap as tree
use Rattle.slab.specs.Slab as slab
use Rattle.linda_shared_outbox.proofs.BoxLaws.{more_taken}
use Rattle.linda_shared_outbox.proofs.outboxes.Outboxes.make_place.Goals as goal

pub returns-in_err-make_place-clause-kept : goal.returns-in_err-make_place-clause-kept
returns-in_err-make_place-clause-kept c =
    let s = c.args.self.now in
    λ q n. more_taken (λ k. slab.get s.boxes k) (λ k. slab.get c.make_place.new.boxes k) c.in-Some.key n
    (c.make_place.ensures.kept n) c.make_place.ensures.others (tree.get nat_cmp s.keys q)

pub returns-in_ok-make_place-clause-kept : goal.returns-in_ok-make_place-clause-kept
returns-in_ok-make_place-clause-kept c =
    let s = c.args.self.now in
    λ q n. more_taken (λ k. slab.get s.boxes k) (λ k. slab.get c.make_place.new.boxes k) c.in-Some.key n
    (c.make_place.ensures.kept n) c.make_place.ensures.others (tree.get nat_cmp s.keys q)
