-- The other disk is made as long as it is to be, for the state of the server.
use Rattle.std.proofs.Common.{refl, subst, ◌∙◌}
use Rattle.linda_store_state.specs.State.{IsState}
use Rattle.linda_disk.specs.declared.fault.DiskFault.TheVariants.{Device}
use Rattle.linda_server.proofs.SwitchLaws.{other_durable}
use Rattle.linda_server.proofs.RewritesLaws.{runs_kept, rewrites_done, rewrites_fault, fell}
use Rattle.linda_server.proofs.durable.Durable.size_other.Goals as goal

pub reserve-requires-clause-durable : goal.reserve-requires-clause-durable
reserve-requires-clause-durable g c =
    let s = c.args.self.now in
    other_durable g.met.D.Disk.timed s.disks s.store.state (s.kept c.if-self.false)

pub invariant_of-self-clause-kept : goal.invariant_of-self-clause-kept
invariant_of-self-clause-kept g c _ = runs_kept g.met.D.Disk.timed Device (Unit {0}) c.args.self.now.store.state ∣
    tt ∣₁ c.args.self.now refl c.if-self.false _ c.reserve.new.disks (c.in-Ok.ensures.runs c.args.self.now.store.state)

pub invariant_of-self-in-Err-clause-fallen : goal.invariant_of-self-in-Err-clause-fallen
invariant_of-self-in-Err-clause-fallen g c _ are =
    fell g.met.D.Disk.timed Device (Unit {0}) c.args.self.now.store.state ∣ tt ∣₁ c.args.self.now refl c.if-self.false c.in-Err.fault c.reserve.new.disks _
    (c.in-Err.ensures.runs c.args.self.now.store.state) (c.of.ensures ∙ c.state.ensures.state)
    (subst IsState c.state.ensures.state c.state.ensures.ranges) are

pub returns-in-Ok-clause-rewrites : goal.returns-in-Ok-clause-rewrites
returns-in-Ok-clause-rewrites g c = rewrites_done g.met.D.Disk.timed Device (Unit {0}) c.args.self.now.store.state ∣ tt ∣₁
    c.args.self.now refl c.if-self.false _ c.in-Ok.len _ (c.in-Ok.ensures.runs c.args.self.now.store.state) refl refl c.if-self.false

pub returns-in-Err-clause-rewrites : goal.returns-in-Err-clause-rewrites
returns-in-Err-clause-rewrites g c =
    let s = c.args.self.now in
    rewrites_fault g.met.D.Disk.timed Device (Unit {0}) s.store.state ∣ tt ∣₁ s refl c.if-self.false
    c.in-Err.fault c.of_disk.result _ (c.in-Err.ensures.runs c.args.self.now.store.state) refl refl
    (λ down. (c.of.ensures ∙ c.state.ensures.state, s.none_lost c.if-self.false))
