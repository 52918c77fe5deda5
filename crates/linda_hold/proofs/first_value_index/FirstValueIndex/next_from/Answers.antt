use Rattle.std.proofs.Common.{◌≡◌, ◌+◌, ◌||◌, length, slice_get, arith, List, [], ◌∷◌, refl, subst, ◌∙◌, nat_cmp}
use Rattle.linda_tuple.specs.declared.atom.Atom.{Atom}
use Rattle.linda_bag.specs.Candidates.{first_among}
use Rattle.linda_bag.specs.Filing.{row_at, placed}
use Rattle.linda_hold.specs.Arrivals.{IsNext}
use Rattle.linda_hold.specs.FirstValue.{later_of}
use Rattle.linda_hold.specs.Group.{is_reached}
use Rattle.linda_hold.specs.FirstValueIndex.{early_at, is_met_below}
use Rattle.linda_hold.proofs.NextLaws.{next_as}
use Rattle.linda_hold.proofs.PositionLaws.{met_early, met_more}
use Rattle.linda_hold.proofs.first_value_index.FirstValueIndex.next_from.Goals as goal

first_got : (fields : List Atom) → slice_get fields 0 ≡ first_among fields
first_got [] = refl
first_got (x ∷ xs) = refl

pub loop-position-init : goal.loop-position-init
loop-position-init c = λ asked known.
    let fields = c.args.fields.now in
    next_as (λ q. is_reached (first_among fields) (early_at (asked q))) (λ q. is_met_below 0 fields (asked q)) _ _ (λ q. met_early fields (asked q))
    (subst (λ f. IsNext (λ q. is_reached f (early_at (asked q))) c.args.from c.next_from-next.result) (c.first.ensures.value ∙ first_got fields)
    (c.next_from-next.ensures (λ q. early_at (asked q)) known.0))

pub loop-position-preserved : goal.loop-position-preserved
loop-position-preserved c = λ asked known.
    let fields = c.args.fields.now in
    let k = c.loop-position.position in
    next_as (λ q. is_met_below k fields (asked q) || is_reached (slice_get fields k) (row_at nat_cmp k (placed later_of (asked q))))
    (λ q. is_met_below (k + 1) fields (asked q)) _ _ (λ q. met_more k fields (asked q))
    (c.sooner-next.ensures (λ q. is_met_below k fields (asked q)) (λ q. is_reached (slice_get fields k) (row_at nat_cmp k (placed later_of (asked q)))) _
    (c.loop-position.invariant asked known)
    (subst (λ f. IsNext (λ q. is_reached f (row_at nat_cmp k (placed later_of (asked q)))) c.args.from c.next_at-later.result) c.field_at.ensures
    (c.next_at-later.ensures asked known.1)))

pub returns : goal.returns
returns c = λ asked known.
    let fields = c.args.fields.now in
    let k = c.loop-position.position in
    let whole : k ≡ length fields = omega (arith, c.loop-position-test.false, c.loop-position.auto.position-end) in
    subst (λ n. IsNext (λ q. is_met_below n fields (asked q)) c.args.from c.loop-position.next) whole (c.loop-position.invariant asked known)
