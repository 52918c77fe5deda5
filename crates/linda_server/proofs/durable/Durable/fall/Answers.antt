-- What is begun may be done.
use Rattle.std.proofs.Common.{◌≡◌, inl, inr, ap, sym, subst, ◌∙◌}
use Rattle.std.proofs.lemmas.Bool.{cases_Bool}
use Rattle.std.specs.Global.{Vec}
use Rattle.linda_store_step.specs.History.{comings}
use Rattle.linda_store_state.specs.declared.deed.Deed.{Deed}
use Rattle.linda_store.specs.Node.{in_hand, MayRemain}
use Rattle.linda_server.specs.Node.{shown}
use Rattle.linda_server.proofs.CallLaws.{led, leads_to, stands_so, none_remains, all_remains_up}
use Rattle.linda_server.proofs.FallenLaws.{stands_after, of_work, not_full}
use Rattle.linda_server.proofs.durable.Durable.fall.Goals as goal

pub invariant_of-self-clause-fallen : goal.invariant_of-self-clause-fallen
invariant_of-self-clause-fallen g c _ are left right l r =
    let old = c.args.self.now in
    let new = c.serve_all.new.self in
    let done = led old.store.state new.store.state c.in-Ok.served.deeds.items c.is_spent.ensures.orderly.state_is
    (leads_to old.store.state old.store.soft c.deref.result.now c.in-Ok.served new.store.state
    new.store.soft c.is_spent.ensures.orderly c.in-Ok.ensures.done) in
    let before = not_full c.in-Ok.served (new.before.value ≡ old.store.state) (c.in-Ok.ensures.before c.requires.up) in
    stands_after new.before.value old.store.state new.store.state c.in-Ok.served.deeds.items c.into_deeds.result.items left right before
    (ap (λ (v : Vec Deed). v.items) c.into_deeds.ensures) c.is_spent.ensures.orderly.state_is done
    (stands_so g.met.D.Disk.timed new.disks new.store.state are (new.kept c.in-Ok.ensures.up.1) left right l r)

pub returns-in-Ok-clause-lost : goal.returns-in-Ok-clause-lost
returns-in-Ok-clause-lost g c =
    let old = c.args.self.now in
    let new = c.serve_all.new.self in
    let lost = ap (λ (v : Vec Deed). v.items) c.into_deeds.ensures in
    of_work c.args.work c.in-Messages.messages c.deref.result.now c.in-Messages.is c.deref.ensures.value
    old.before.value old.store old.down old.lost.items c.into_deeds.result.items
    (all_remains_up old.before.value old.store old.down old.lost.items c.deref.result.now c.in-Ok.served
    new.store.state new.store.soft c.into_deeds.result.items c.requires.up c.in-Ok.ensures.done lost)

pub returns-in-Messages-clause-lost : goal.returns-in-Messages-clause-lost
returns-in-Messages-clause-lost g c =
    let old = c.args.self.now in
    let new = c.serve_all.new.self in
    elim (cases_Bool new.down) [
      | inl down ↦
          let same = ap (λ (s : _). s.lost.items) (c.give_up.ensures.was_down down) in
          of_work c.args.work c.in-Messages.messages c.deref.result.now c.in-Messages.is c.deref.ensures.value
          old.before.value old.store old.down old.lost.items c.give_up.new.self.lost.items
          (subst (MayRemain (shown old.before.value old.store old.down old.lost.items) (comings c.deref.result.now))
          (sym same) (c.in-Err.ensures.lost c.requires.up down))
      | inr up ↦ none_remains (shown old.before.value old.store old.down old.lost.items)
          (in_hand c.args.work) c.give_up.new.self.lost.items (c.give_up.ensures.up up).1
    ]

pub returns-clause-lost : goal.returns-clause-lost
returns-clause-lost g c =
    let old = c.args.self.now in
    let new = c.snapshot.new.self in
    elim (cases_Bool new.down) [
      | inl down ↦
          let same = ap (λ (s : _). s.lost.items) (c.give_up-in-Snapshot.ensures.was_down down) in
          none_remains (shown old.before.value old.store old.down old.lost.items)
          (in_hand c.args.work) c.give_up-in-Snapshot.new.self.lost.items (same ∙ (c.snapshot.ensures.rewrites.lost c.requires.up down).1)
      | inr up ↦ none_remains (shown old.before.value old.store old.down old.lost.items)
          (in_hand c.args.work) c.give_up-in-Snapshot.new.self.lost.items (c.give_up-in-Snapshot.ensures.up up).1
    ]
