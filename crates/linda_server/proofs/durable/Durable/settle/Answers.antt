-- The deeds are put onto the bank in use, or may be.
use Rattle.std.proofs.Common.{◌≡◌, true, sym, subst, ap}
use Rattle.std.proofs.Math.Logic.{∥∥₁_map}
use Rattle.std.specs.Global.{Vec}
use Rattle.linda_store_state.specs.declared.deed.Deed.{Deed}
use Rattle.linda_server.specs.Calls.{LeadTo, IsEither, IsWithOrWithout}
use Rattle.linda_server.proofs.CallLaws.{put_either, kept_after, now_since, with_or_without}
use Rattle.linda_store_state.specs.State.{State}
use Rattle.linda_store_state.specs.Deed.{is_taken}
use Rattle.linda_snap.specs.BookCopy.{IsCopyFor}
use Rattle.linda_server.specs.Next.{IsNextFor, IsSafeIn}
use Rattle.linda_server.proofs.NextLaws.{next_up, next_beside, if_kept}
use Rattle.linda_server.proofs.durable.Durable.settle.Goals as goal

pub invariant_of-self-clause-kept : goal.invariant_of-self-clause-kept
invariant_of-self-clause-kept g c _ =
    let s = c.args.self.now in
    kept_after g.met.D.Disk.timed s.disks c.commit.new.disks s.before.value s.store.state c.deref.result.now
    (subst (λ l. LeadTo s.before.value l s.store.state) (sym c.deref.ensures.value) c.requires.leads) c.requires.kept c.in-Ok.ensures.kept

pub invariant_of-self-clause-begun : goal.invariant_of-self-clause-begun
invariant_of-self-clause-begun g c _ =
    let s = c.args.self.now in
    let was = c.replace-next.ensures.value in
    next_up c.replace-next.result c.unless_spent.result c.commit.new.disks s.before.value s.store.state
    (if_kept _ c.with_deeds_logged.result c.unless_spent.result c.unless_spent.ensures
    (c.with_deeds_logged.ensures.follows s.before.value s.store.state c.requires.ranges
    (subst (λ l. LeadTo s.before.value l s.store.state) (sym c.deref-in-Ok.ensures.value) c.requires.leads)
    (λ id taken. subst (λ o. IsSafeIn o s.before.value.bag id) (sym was)
    (c.requires.safe id (subst (λ l. is_taken id l ≡ true) c.deref-in-Ok.ensures.value taken)))))
    (next_beside c.replace-next.result s.disks c.commit.new.disks s.before.value c.in-Ok.ensures.beside c.commit.ensures.limit
    (subst (λ o. ∥ IsNextFor o s.disks s.before.value ∥₁) (sym was) c.requires.begun))

pub invariant_of-self-in-Err-clause-fallen : goal.invariant_of-self-in-Err-clause-fallen
invariant_of-self-in-Err-clause-fallen g c _ are =
    let s = c.args.self.now in
    let leads = subst (λ l. LeadTo s.before.value l s.store.state) (sym c.deref.ensures.value) c.requires.leads in
    let since = put_either g.met.D.Disk.timed s.disks c.commit.new.disks s.before.value s.store.state c.deref.result.now leads
    (c.commit.ensures.honest.1 are) c.requires.kept c.commit.ensures.any_moment in
    let lost = ap (λ (v : Vec Deed). v.items) c.into_deeds.ensures in
    now_since g.met.D.Disk.timed s.disks c.commit.new.disks (IsEither s.before.value s.store.state)
    (IsWithOrWithout s.before.value c.into_deeds.result.items) are since
    (with_or_without s.before.value s.store.state c.into_deeds.result.items c.requires.ranges
    (subst (λ l. LeadTo s.before.value l s.store.state) (sym lost) c.requires.leads))

pub returns-in-Ok-clause-any_moment : goal.returns-in-Ok-clause-any_moment
returns-in-Ok-clause-any_moment g c are =
    let s = c.args.self.now in
    put_either g.met.D.Disk.timed s.disks c.commit.new.disks s.before.value s.store.state c.deref.result.now
    (subst (λ l. LeadTo s.before.value l s.store.state) (sym c.deref.ensures.value) c.requires.leads) are c.requires.kept c.commit.ensures.any_moment

pub returns-in-Err-clause-any_moment : goal.returns-in-Err-clause-any_moment
returns-in-Err-clause-any_moment g c are =
    let s = c.args.self.now in
    put_either g.met.D.Disk.timed s.disks c.commit.new.disks s.before.value s.store.state c.deref.result.now
    (subst (λ l. LeadTo s.before.value l s.store.state) (sym c.deref.ensures.value) c.requires.leads) are c.requires.kept c.commit.ensures.any_moment

pub invariant_of-self-clause-copied : goal.invariant_of-self-clause-copied
invariant_of-self-clause-copied g c _ =
    let s = c.args.self.now in
    let ds = c.deref-in-Ok-2.result.now in
    let goes : LeadTo s.before.value ds c.state.result.now =
    subst (λ st. LeadTo s.before.value ds st) (sym c.state.ensures.state)
    (subst (λ l. LeadTo s.before.value l s.store.state) (sym c.deref-in-Ok-2.ensures.value) c.requires.leads) in
    let copied = subst (λ o. ∥ IsCopyFor o s.before.value.book ∥₁) (sym c.replace-copy.ensures.value) c.requires.copied in
    subst (λ (st : State). ∥ IsCopyFor c.renewed.result st.book ∥₁) c.state.ensures.state
    (∥∥₁_map copied (λ is. c.renewed.ensures s.before.value c.requires.ranges goes is))
