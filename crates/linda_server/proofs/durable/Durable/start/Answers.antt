-- The next bank is begun, for the state of the server.
use Rattle.std.proofs.Common.{Err, refl, ap, sym, subst, ◌∙◌, true≢false}
use Rattle.linda_server.specs.Server.{generation_in_use}
use Rattle.linda_server.specs.Switch.{HasNoNext}
use Rattle.linda_server.specs.declared.fault.ServeFault.TheVariants.{Disk, Full}
use Rattle.linda_server.specs.Next.{IsBegunOn}
use Rattle.linda_store_state.specs.State.{State}
use Rattle.linda_snap.specs.BookCopy.{IsCopyFor}
use Rattle.linda_server.proofs.CopyingLaws.{copied_so}
use Rattle.linda_server.proofs.HandledLaws.{same_fault}
use Rattle.linda_server.proofs.SwitchLaws.{other_durable}
use Rattle.linda_server.proofs.SameLaws.{same_with}
use Rattle.linda_server.proofs.RewritesLaws.{runs_kept, rewrites_done, rewrites_fault, fell}
use Rattle.linda_server.proofs.durable.Durable.start.Goals as goal

pub start-requires-clause-durable : goal.start-requires-clause-durable
start-requires-clause-durable g c =
    let s = c.args.self.now in
    other_durable g.met.D.Disk.timed s.disks s.store.state (s.kept c.if-self.false)

pub start-requires-clause-copied : goal.start-requires-clause-copied
start-requires-clause-copied g c =
    let s = c.args.self.now in
    subst (λ (st : State). IsCopyFor s.copy st.book) (sym c.state.ensures.state) (copied_so s.copy s.store.state.book (s.copied c.if-self.false))

pub invariant_of-self-clause-kept : goal.invariant_of-self-clause-kept
invariant_of-self-clause-kept g c _ =
    runs_kept g.met.D.Disk.timed Disk (Unit {0}) c.state.result.now ∣ tt ∣₁ c.args.self.now
    c.state.ensures.state c.if-self.false _ c.start.new.disks c.in-Ok.ensures.runs

pub invariant_of-self-in-Err-clause-fallen : goal.invariant_of-self-in-Err-clause-fallen
invariant_of-self-in-Err-clause-fallen g c _ are =
    fell g.met.D.Disk.timed Disk (Unit {0}) c.state.result.now ∣ tt ∣₁ c.args.self.now c.state.ensures.state c.if-self.false
    c.in-Err.fault c.start.new.disks _ c.in-Err.ensures.runs (c.of.ensures ∙ c.state-in-Err.ensures.state) c.state.ensures.ranges are

pub returns-in-Ok-clause-rewrites : goal.returns-in-Ok-clause-rewrites
returns-in-Ok-clause-rewrites g c = rewrites_done g.met.D.Disk.timed Disk (Unit {0}) c.state.result.now ∣ tt
    ∣₁ c.args.self.now c.state.ensures.state c.if-self.false _ tt _ c.in-Ok.ensures.runs refl refl c.if-self.false

pub returns-then-eq-clause-rewrites : goal.returns-then-eq-clause-rewrites
returns-then-eq-clause-rewrites g c =
    rewrites_fault g.met.D.Disk.timed Disk (Unit {0}) c.state.result.now ∣ tt ∣₁ c.args.self.now
    c.state.ensures.state c.if-self.false c.in-Err.fault c.in-Err.fault _ c.in-Err.ensures.runs refl refl
    (λ down. absurd (true≢false (sym down ∙ c.if-self.false)))

pub returns-else-eq-clause-rewrites : goal.returns-else-eq-clause-rewrites
returns-else-eq-clause-rewrites g c =
    let s = c.args.self.now in
    rewrites_fault g.met.D.Disk.timed Disk (Unit {0}) c.state.result.now ∣ tt ∣₁ s c.state.ensures.state
    c.if-self.false c.in-Err.fault c.in-Err.fault _ c.in-Err.ensures.runs refl refl
    (λ down. (c.of.ensures ∙ c.state-in-Err.ensures.state, s.none_lost c.if-self.false))

pub returns-then-eq-clause-full : goal.returns-then-eq-clause-full
returns-then-eq-clause-full g c is =
    let s = c.args.self.now in
    let fault = ap Err (same_fault c.in-Err.fault Full is) in
    let told = c.in-Err.ensures.full fault in
    let generation = generation_in_use s.disks in (
      same_with g.row.D.Denot g.D.Disk s c.start.new.disks c.start.new.copy (sym told.0) (sym (c.in-Err.ensures.copy fault)) _,
      subst (λ st. HasNoNext st s.limit generation) c.state.ensures.state
          (subst (λ n. HasNoNext c.state.result.now n generation) (s.limited c.if-self.false) told.1),
    )

pub invariant_of-self-clause-begun : goal.invariant_of-self-clause-begun
invariant_of-self-clause-begun g c _ =
    subst (λ st. ∥ IsBegunOn c.in-Ok.next c.start.new.disks st ∥₁) c.state.ensures.state ∣ c.in-Ok.ensures.begun ∣₁
