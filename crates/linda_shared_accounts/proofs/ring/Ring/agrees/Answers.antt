-- What is still to be looked at is some of the ring, and if it agrees, all does.
use Rattle.std.proofs.Common.{◌≡◌, List, All, Contains, sym, ap, subst, ◌∙◌, rules}
use Rattle.std.proofs.lemmas.List.Elements.{All-contains_itself, All-cons, All-tail, All-nil}
use Rattle.linda_shared_accounts.specs.declared.receipt.Receipt.{Receipt}
use Rattle.linda_shared_accounts.specs.Receipts.{number_in}
use Rattle.linda_shared_accounts.specs.Ring.{Ring}
use Rattle.linda_shared_accounts.specs.Agreement.{AgreesWith}
use Rattle.linda_shared_accounts.proofs.ring.Ring.agrees.Goals as goal
use Rattle.linda_shared_accounts.proofs.ring.Ring.agrees.Goals.{else-number-via-then-number+else-not-is_same, else-number-via-else-number}

pub loop-mine-init : goal.loop-mine-init
loop-mine-init c =
    let ring : List Receipt = c.args.self.now.receipts in
    let all : c.into_iter-mine-iterator.result ≡ ring =
    c.into_iter-mine-iterator.ensures.into_iter_gives ∙ c.iter-mine-items.ensures.rest ∙ ap (λ (r : Ring). r.receipts) c.self.view_is in (
      subst (λ l. AgreesWith l c.args.other.now → AgreesWith ring c.args.other.now) (sym all) (λ agrees. agrees),
      subst (All (Contains ring)) (sym all) (All-contains_itself ring),
    )

pub loop-mine-preserved : goal.loop-mine-preserved
loop-mine-preserved c =
    let ring : List Receipt = c.args.self.now.receipts in
    let P : Receipt → Type 0 = λ mine. number_in mine ≡ number_in c.args.other.now → mine ≡ c.args.other.now in
    let step = c.in-Some.ensures.steps in
    let one : P c.in-Some.mine.now = elim c.else-number.branch [
      | else-number-via-then-number+else-not-is_same w ↦ search rules
      | else-number-via-else-number w ↦ search rules
    ] in (
      λ rest. c.loop-mine.invariant.0 (subst (All P) (sym step) (All-cons P c.in-Some.mine.now c.next.new.self one rest)),
      All-tail (Contains ring) c.in-Some.mine.now c.next.new.self (subst (All (Contains ring)) step c.loop-mine.invariant.1),
    )

pub returns-clause-agrees : goal.returns-clause-agrees
returns-clause-agrees c _ = c.loop-mine.invariant.0 (subst (λ l. AgreesWith l c.args.other.now) (sym c.in-None.ensures.steps.0) (All-nil _))
