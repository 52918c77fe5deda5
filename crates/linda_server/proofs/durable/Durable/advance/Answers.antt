-- The next bank goes on, for the state of the server, or is taken into use.
use Rattle.std.proofs.Common.{false, Ok, refl, sym, subst, ◌∙◌, true≢false}
use Rattle.std.specs.Prelude.{IfSome}
use Rattle.linda_server.specs.Next.{IsBegunOn, IsNextFor, StepsOn}
use Rattle.linda_server.specs.declared.fault.ServeFault.{ServeFault}
use Rattle.linda_server.specs.declared.fault.ServeFault.TheVariants.{Disk}
use Rattle.linda_server.proofs.CallLaws.{stands_so, still_so}
use Rattle.linda_server.proofs.SteppingLaws.{steps_begun}
use Rattle.linda_server.proofs.RewritesLaws.{runs_kept, rewrites_done, rewrites_fault, fell}
use Rattle.linda_server.proofs.durable.Durable.advance.Goals as goal

pub invariant_of-self-in-Ok-Some : goal.invariant_of-self-in-Ok-Some
invariant_of-self-in-Ok-Some g c =
    let s = c.args.self.now in
    let next = c.in-Some.next in
    let now = c.state.result.now in
    let same = c.state.ensures.state in
    let there = subst (λ o. ∥ IsNextFor o s.disks s.store.state ∥₁) (sym c.in-Some.ensures.value) (s.begun c.if-self.false) in
    let begun = subst (λ st. ∥ IsBegunOn next s.disks st ∥₁) (sym same) there in
    record {
      there = c.in-Ok-Some.ensures.runs.there;
      bounded = s.bounded;
      live = s.live;
      ready = λ up. c.in-Ok-Some.ensures.runs.ready;
      limited = λ up. c.in-Ok-Some.ensures.runs.limit ∙ s.limited up;
      none_lost = s.none_lost;
      kept = λ up. runs_kept g.met.D.Disk.timed Disk (IsBegunOn next s.disks now) now begun s same
          c.if-self.false _ c.advance.new.disks c.in-Ok-Some.ensures.runs;
      begun = λ up.
          steps_begun g.met.D.Disk.timed next c.in-Ok-Some.next s.disks c.advance.new.disks s.store.state now same there
          (λ b. subst (λ o. IfSome o (λ n. IsBegunOn n c.advance.new.disks now)) c.in-Ok-Some.field-0-is (c.in-Ok-Some.ensures.begun b));
      copied = s.copied;
      fallen = λ down. absurd (true≢false (sym down ∙ c.if-self.false));
    }

pub invariant_of-self-in-Ok-None : goal.invariant_of-self-in-Ok-None
invariant_of-self-in-Ok-None g c =
    let s = c.args.self.now in
    let next = c.in-Some.next in
    let now = c.state.result.now in
    let same = c.state.ensures.state in
    let there = subst (λ o. ∥ IsNextFor o s.disks s.store.state ∥₁) (sym c.in-Some.ensures.value) (s.begun c.if-self.false) in
    let begun = subst (λ st. ∥ IsBegunOn next s.disks st ∥₁) (sym same) there in
    record {
      there = c.in-Ok-None.ensures.runs.there;
      bounded = s.bounded;
      live = s.live;
      ready = λ up. c.in-Ok-None.ensures.runs.ready;
      limited = λ up. c.in-Ok-None.ensures.runs.limit ∙ s.limited up;
      none_lost = s.none_lost;
      kept = λ up. runs_kept g.met.D.Disk.timed Disk (IsBegunOn next s.disks now) now begun s same
          c.if-self.false _ c.advance.new.disks c.in-Ok-None.ensures.runs;
      begun = λ up. subst (λ o. ∥ IsNextFor o c.advance.new.disks s.store.state ∥₁) (sym c.in-Some.ensures.after) ∣ tt ∣₁;
      copied = s.copied;
      fallen = λ down. absurd (true≢false (sym down ∙ c.if-self.false));
    }

pub invariant_of-self-in-Err : goal.invariant_of-self-in-Err
invariant_of-self-in-Err g c =
    let s = c.args.self.now in
    let next = c.in-Some.next in
    let now = c.state.result.now in
    let same = c.state.ensures.state in
    let there = subst (λ o. ∥ IsNextFor o s.disks s.store.state ∥₁) (sym c.in-Some.ensures.value) (s.begun c.if-self.false) in
    let begun = subst (λ st. ∥ IsBegunOn next s.disks st ∥₁) (sym same) there in
    record {
      there = c.in-Err.ensures.runs.there;
      bounded = s.bounded;
      live = λ up. absurd (true≢false up);
      ready = λ up. absurd (true≢false up);
      limited = λ up. absurd (true≢false up);
      none_lost = λ up. absurd (true≢false up);
      kept = λ up. absurd (true≢false up);
      begun = λ up. absurd (true≢false up);
      copied = λ up. absurd (true≢false up);
      fallen = λ down are.
          fell g.met.D.Disk.timed Disk (IsBegunOn next s.disks now) now begun s same c.if-self.false c.in-Err.fault
          c.advance.new.disks _ c.in-Err.ensures.runs (c.of.ensures ∙ c.state-in-Err.ensures.state) c.state.ensures.ranges are;
    }

pub returns-in-None-clause-rewrites : goal.returns-in-None-clause-rewrites
returns-in-None-clause-rewrites g c =
    let s = c.args.self.now in
    record {
      any_moment = λ is_up are. still_so g.met.D.Disk.timed s.disks s.store.state are (s.kept is_up);
      now = λ are. stands_so g.met.D.Disk.timed s.disks s.store.state are (s.kept c.if-self.false);
      same = (refl, refl);
      up = (c.if-self.false, c.if-self.false);
      lost = λ up down. absurd (true≢false (sym down ∙ up));
      honest = (λ h. h, λ h. h);
    }

pub returns-in-Ok-Some-clause-rewrites : goal.returns-in-Ok-Some-clause-rewrites
returns-in-Ok-Some-clause-rewrites g c =
    let s = c.args.self.now in
    let next = c.in-Some.next in
    let now = c.state.result.now in
    let same = c.state.ensures.state in
    let there = subst (λ o. ∥ IsNextFor o s.disks s.store.state ∥₁) (sym c.in-Some.ensures.value) (s.begun c.if-self.false) in
    let begun = subst (λ st. ∥ IsBegunOn next s.disks st ∥₁) (sym same) there in
    rewrites_done g.met.D.Disk.timed Disk (IsBegunOn next s.disks now) now begun s same c.if-self.false
    _ _ _ c.in-Ok-Some.ensures.runs refl refl c.if-self.false

pub returns-in-Ok-None-clause-rewrites : goal.returns-in-Ok-None-clause-rewrites
returns-in-Ok-None-clause-rewrites g c =
    let s = c.args.self.now in
    let next = c.in-Some.next in
    let now = c.state.result.now in
    let same = c.state.ensures.state in
    let there = subst (λ o. ∥ IsNextFor o s.disks s.store.state ∥₁) (sym c.in-Some.ensures.value) (s.begun c.if-self.false) in
    let begun = subst (λ st. ∥ IsBegunOn next s.disks st ∥₁) (sym same) there in
    rewrites_done g.met.D.Disk.timed Disk (IsBegunOn next s.disks now) now begun s same c.if-self.false
    _ _ _ c.in-Ok-None.ensures.runs refl refl c.if-self.false

pub returns-in-Err-clause-rewrites : goal.returns-in-Err-clause-rewrites
returns-in-Err-clause-rewrites g c =
    let s = c.args.self.now in
    let next = c.in-Some.next in
    let now = c.state.result.now in
    let same = c.state.ensures.state in
    let there = subst (λ o. ∥ IsNextFor o s.disks s.store.state ∥₁) (sym c.in-Some.ensures.value) (s.begun c.if-self.false) in
    let begun = subst (λ st. ∥ IsBegunOn next s.disks st ∥₁) (sym same) there in
    rewrites_fault g.met.D.Disk.timed Disk (IsBegunOn next s.disks now) now begun s same c.if-self.false
    c.in-Err.fault c.in-Err.fault _ c.in-Err.ensures.runs refl refl
    (λ down. (c.of.ensures ∙ c.state-in-Err.ensures.state, s.none_lost c.if-self.false))

pub returns-in-Ok-Some-clause-came : goal.returns-in-Ok-Some-clause-came
returns-in-Ok-Some-clause-came g c =
    let steps = subst (λ o. StepsOn {E = ServeFault} c.args.most c.in-Some.next c.args.self.now.disks (Ok o) c.advance.new.disks)
    c.in-Ok-Some.field-0-is c.in-Ok-Some.ensures.steps in
    (record { was = c.in-Some.next; now = c.in-Ok-Some.next; were = sym c.in-Some.ensures.value; are = refl; more = steps.0; few = steps.1 }, steps.2)

pub returns-in-Ok-None-clause-came : goal.returns-in-Ok-None-clause-came
returns-in-Ok-None-clause-came g c =
    let steps = subst (λ o. StepsOn {E = ServeFault} c.args.most c.in-Some.next c.args.self.now.disks (Ok o) c.advance.new.disks)
    c.in-Ok-None.field-0-is c.in-Ok-None.ensures.steps in
    record { was = c.in-Some.next; were = sym c.in-Some.ensures.value; none = c.in-Some.ensures.after; taken = steps.0; few = steps.1 }
