-- The file of the bank in use is lengthened, for the state of the server.
use Rattle.std.proofs.Common.{refl, subst, ◌∙◌}
use Rattle.linda_store_state.specs.State.{IsState}
use Rattle.linda_disk.specs.declared.fault.DiskFault.TheVariants.{Device}
use Rattle.linda_server.proofs.PreallocationLaws.{used_durable}
use Rattle.linda_server.proofs.NextLaws.{next_beside}
use Rattle.linda_server.proofs.RewritesLaws.{runs_kept, rewrites_done, rewrites_fault, fell}
use Rattle.linda_server.proofs.durable.Durable.lengthen.Goals as goal

pub preallocate-requires-clause-durable : goal.preallocate-requires-clause-durable
preallocate-requires-clause-durable g c =
    let s = c.args.self.now in
    used_durable g.met.D.Disk.timed s.disks s.store.state (s.kept c.if-self.false)

pub invariant_of-self-clause-kept : goal.invariant_of-self-clause-kept
invariant_of-self-clause-kept g c _ = runs_kept g.met.D.Disk.timed Device (Unit {0}) c.args.self.now.store.state ∣ tt
    ∣₁ c.args.self.now refl c.if-self.false _ c.preallocate.new.disks (c.in-Ok.ensures.runs c.args.self.now.store.state)

pub invariant_of-self-clause-begun : goal.invariant_of-self-clause-begun
invariant_of-self-clause-begun g c up =
    let s = c.args.self.now in
    next_beside s.next s.disks c.preallocate.new.disks s.store.state c.in-Ok.ensures.beside (c.in-Ok.ensures.runs s.store.state).limit (s.begun c.if-self.false)

pub invariant_of-self-in-Err-clause-fallen : goal.invariant_of-self-in-Err-clause-fallen
invariant_of-self-in-Err-clause-fallen g c _ are =
    fell g.met.D.Disk.timed Device (Unit {0}) c.args.self.now.store.state ∣ tt ∣₁ c.args.self.now refl c.if-self.false c.in-Err.fault
    c.preallocate.new.disks _ (c.in-Err.ensures.runs c.args.self.now.store.state) (c.of.ensures
    ∙ c.state.ensures.state) (subst IsState c.state.ensures.state c.state.ensures.ranges) are

pub returns-in-Ok-clause-rewrites : goal.returns-in-Ok-clause-rewrites
returns-in-Ok-clause-rewrites g c = rewrites_done g.met.D.Disk.timed Device (Unit {0}) c.args.self.now.store.state ∣ tt ∣₁
    c.args.self.now refl c.if-self.false _ c.in-Ok.there _ (c.in-Ok.ensures.runs c.args.self.now.store.state) refl refl refl

pub returns-in-Err-clause-rewrites : goal.returns-in-Err-clause-rewrites
returns-in-Err-clause-rewrites g c =
    let s = c.args.self.now in
    rewrites_fault g.met.D.Disk.timed Device (Unit {0}) s.store.state ∣ tt ∣₁ s refl c.if-self.false
    c.in-Err.fault c.of_disk.result _ (c.in-Err.ensures.runs c.args.self.now.store.state) refl refl
    (λ down. (c.of.ensures ∙ c.state.ensures.state, s.none_lost c.if-self.false))
