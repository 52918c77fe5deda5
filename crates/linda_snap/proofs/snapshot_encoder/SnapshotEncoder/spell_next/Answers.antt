use Rattle.std.proofs.Common.{ℕ, ◌++◌, append-nil, ap, sym, subst, ◌∙◌, arith, length, length-append}
use Rattle.linda_tuple.specs.Tuple.{Tuple}
use Rattle.linda_store_state.specs.DeedFormat.{written}
use Rattle.linda_snap.specs.SnapshotEncoder.{Owes}
use Rattle.linda_snap.specs.Snapshot.{placed}
use Rattle.linda_snap.proofs.SnapshotWriterLaws.{step_more}
use Rattle.linda_snap.proofs.snapshot_encoder.SnapshotEncoder.spell_next.Goals as goal

pub loop-init : goal.loop-init
loop-init g c =
    let e : ℕ × Tuple = (c.in-Some.first, c.in-Some.tuple.now) in (
      λ begun bytes owes.
          step_more begun c.args.self.now bytes c.new-more.result.items c.push_placed.new.out.items c.args.state.now.bag c.args.self.now.from _ e
          (subst (λ b. Owes begun c.args.self.now b c.args.state.now.bag) (sym (ap (λ l. bytes ++ l) c.new-more.ensures.items ∙ append-nil bytes)) owes)
          c.in-Some.ensures c.in_ok-push_placed.ensures.ok c.in_ok-push_placed.ensures.fits (omega arith),
      omega (arith, ap length c.in_ok-push_placed.ensures.ok, length-append c.new-more.result.items ((placed written).spell e)),
      omega (arith, c.in_ok-push_placed.ensures.short, ap length c.new-more.ensures.items),
    )

pub loop-preserved : goal.loop-preserved
loop-preserved g c =
    let e : ℕ × Tuple = (c.in-Some-owed_from.id, c.in-Some-owed_from.tuple.now) in (
      λ begun bytes owes.
          step_more begun c.args.self.now bytes c.loop.more.items c.push_placed-in-loop.new.out.items c.args.state.now.bag c.loop.from _ e
          (c.loop.invariant.0 begun bytes owes) c.in-Some-owed_from.ensures c.in_ok-push_placed-2.ensures.ok c.in_ok-push_placed-2.ensures.fits (omega arith),
      omega (arith, ap length c.in_ok-push_placed-2.ensures.ok, length-append c.loop.more.items ((placed written).spell e)),
      omega (arith, c.in_ok-push_placed-2.ensures.short, c.if-len-most.false),
    )
