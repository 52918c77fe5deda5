use Rattle.std.proofs.Common.{◌≡◌, ℕ, List, All, Some, sym, subst, rules}
use Rattle.std.specs.FinMap as map
use Rattle.std.proofs.lemmas.List.Elements.{All-cons, All-head, All-tail, All-nil}
use Rattle.linda_shared_accounts.specs.declared.place.Place.{Place}
use Rattle.linda_shared_accounts.specs.Accounts.{Places, receipts_at}
use Rattle.linda_shared_accounts.specs.Compare.{LastIsKept, NamesNotKept}
use Rattle.linda_shared_accounts.proofs.LastLaws.{EntryIsKept, all_kept, all_there, not_kept}
use Rattle.linda_shared_accounts.proofs.places.Places.compare_last.Goals as goal

pub loop-client-init : goal.loop-client-init
loop-client-init c =
    let ps : Places = c.args.self.now in
    let begun = c.into_iter-client-iterator.ensures.into_iter_gives in (
      subst (λ (l : List (ℕ × Place)). All (EntryIsKept c.args.state.now) l → (k : ℕ) → LastIsKept c.args.state.now (receipts_at (map.get ps k))) (sym begun.0)
          (all_kept c.args.state.now c.self.inside.entries ps c.self.view_is),
      subst (All (λ (e : ℕ × Place). map.get ps e.0 ≡ Some e.1)) (sym begun.0) (all_there c.self.inside.entries ps c.self.view_is begun.6),
    )

pub loop-client-preserved : goal.loop-client-preserved
loop-client-preserved c =
    let entry : ℕ × Place = (c.in-Some._client.now, c.in-Some.place.now) in
    let step = c.in-Some.ensures.steps in
    let one : EntryIsKept c.args.state.now entry = c.in_ok-compare_place.ensures.kept in (
      λ rest. c.loop-client.invariant.0
          (subst (All (EntryIsKept c.args.state.now)) (sym step) (All-cons (EntryIsKept c.args.state.now) entry c.next.new.self one rest)),
      All-tail (λ (e : ℕ × Place). map.get c.args.self.now e.0 ≡ Some e.1) entry c.next.new.self
          (subst (All (λ (e : ℕ × Place). map.get c.args.self.now e.0 ≡ Some e.1)) step c.loop-client.invariant.1),
    )

pub returns-in_err-compare_place-clause-fault : goal.returns-in_err-compare_place-clause-fault
returns-in_err-compare_place-clause-fault c =
    let entry : ℕ × Place = (c.in-Some._client.now, c.in-Some.place.now) in
    let there : map.get c.args.self.now entry.0 ≡ Some entry.1 =
    All-head (λ (e : ℕ × Place). map.get c.args.self.now e.0 ≡ Some e.1) entry c.next.new.self
    (subst (All (λ (e : ℕ × Place). map.get c.args.self.now e.0 ≡ Some e.1)) c.in-Some.ensures.steps c.loop-client.invariant.1) in
    let fault : NamesNotKept c.args.self.now c.args.state.now c.in_err-compare_place.field-0.0 =
    not_kept c.args.self.now c.args.state.now entry.0 entry.1 c.in_err-compare_place.field-0.0 there
    (c.requires entry.0) c.in_err-compare_place.ensures.fault in
    search rules

pub returns-clause-kept : goal.returns-clause-kept
returns-clause-kept c = c.loop-client.invariant.0 (subst (All (EntryIsKept c.args.state.now)) (sym c.in-None.ensures.steps.0) (All-nil _))
