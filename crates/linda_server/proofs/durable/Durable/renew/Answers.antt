-- The other disk becomes a new bank, for the state of the server.
use Rattle.std.proofs.Common.{refl, sym, subst, ◌∙◌, true≢false}
use Rattle.linda_server.specs.Server.{generation_in_use}
use Rattle.linda_server.specs.Switch.{HasNoNext}
use Rattle.linda_server.specs.declared.fault.ServeFault.TheVariants.{Disk}
use Rattle.linda_server.proofs.SwitchLaws.{other_durable}
use Rattle.linda_server.proofs.SameLaws.{same_server}
use Rattle.linda_server.proofs.RewritesLaws.{runs_kept, rewrites_done, rewrites_fault, fell}
use Rattle.linda_server.proofs.durable.Durable.renew.Goals as goal

pub renew-requires-clause-durable : goal.renew-requires-clause-durable
renew-requires-clause-durable g c =
    let s = c.args.self.now in
    other_durable g.met.D.Disk.timed s.disks s.store.state (s.kept c.if-self.false)

pub invariant_of-self-clause-kept : goal.invariant_of-self-clause-kept
invariant_of-self-clause-kept g c _ =
    runs_kept g.met.D.Disk.timed Disk (Unit {0}) c.state.result.now ∣ tt ∣₁ c.args.self.now
    c.state.ensures.state c.if-self.false _ c.renew.new.disks c.in-Ok.ensures.runs

pub invariant_of-self-in-Err-clause-fallen : goal.invariant_of-self-in-Err-clause-fallen
invariant_of-self-in-Err-clause-fallen g c _ are =
    fell g.met.D.Disk.timed Disk (Unit {0}) c.state.result.now ∣ tt ∣₁ c.args.self.now c.state.ensures.state c.if-self.false
    c.in-Err.fault c.renew.new.disks _ c.in-Err.ensures.runs (c.of.ensures ∙ c.state-in-Err.ensures.state) c.state.ensures.ranges are

pub returns-in-Ok-clause-rewrites : goal.returns-in-Ok-clause-rewrites
returns-in-Ok-clause-rewrites g c = rewrites_done g.met.D.Disk.timed Disk (Unit {0}) c.state.result.now ∣ tt
    ∣₁ c.args.self.now c.state.ensures.state c.if-self.false _ tt _ c.in-Ok.ensures.runs refl refl c.if-self.false

pub returns-then-eq-clause-rewrites : goal.returns-then-eq-clause-rewrites
returns-then-eq-clause-rewrites g c =
    rewrites_fault g.met.D.Disk.timed Disk (Unit {0}) c.state.result.now ∣ tt ∣₁ c.args.self.now
    c.state.ensures.state c.if-self.false c.in-Err.fault c.in-Err.fault _ c.in-Err.ensures.runs refl refl
    (λ down. absurd (true≢false (sym down ∙ c.if-self.false)))

pub returns-else-eq-clause-rewrites : goal.returns-else-eq-clause-rewrites
returns-else-eq-clause-rewrites g c =
    let s = c.args.self.now in
    rewrites_fault g.met.D.Disk.timed Disk (Unit {0}) c.state.result.now ∣ tt ∣₁ s c.state.ensures.state
    c.if-self.false c.in-Err.fault c.in-Err.fault _ c.in-Err.ensures.runs refl refl
    (λ down. (c.of.ensures ∙ c.state-in-Err.ensures.state, s.none_lost c.if-self.false))

pub returns-then-eq-clause-full : goal.returns-then-eq-clause-full
returns-then-eq-clause-full g c is =
    let s = c.args.self.now in
    let told = c.in-Err.ensures.full is in
    let generation = generation_in_use s.disks in (
      same_server g.row.D.Denot g.D.Disk s c.renew.new.disks (sym told.0) _,
      subst (λ st. HasNoNext st s.limit generation) c.state.ensures.state
          (subst (λ n. HasNoNext c.state.result.now n generation) (s.limited c.if-self.false) told.1),
    )
