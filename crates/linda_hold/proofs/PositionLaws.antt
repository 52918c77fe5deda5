-- Requests by the position of their first value.
use Rattle.std.proofs.Common.{◌≡◌, ℕ, ◌+◌, arith, Bool, true, false, cond, ◌||◌, ◌&&◌, nat_lt, List, Option, None, Some}
use Rattle.std.proofs.Common.{is_some, slice_get, refl, sym, ap, subst, ◌∙◌, nat_cmp}
use Rattle.std.specs.Ordering.{is_eq}
use Rattle.std.proofs.lemmas.Bool.{true≢false}
use Rattle.std.proofs.lemmas.Bool.Decides.{nat_tests}
use Rattle.linda_tuple.specs.declared.atom.Atom.{Atom}
use Rattle.linda_bag.specs.Candidates.{first_among}
use Rattle.linda_bag.specs.Filing.{with_row, Refiles, row_at, placed, keyed}
use Rattle.linda_bag.proofs.FilingLaws.{id_told}
use Rattle.linda_hold.specs.declared.asked.Asked.{Asked}
use Rattle.linda_hold.specs.declared.group.Group.{Group}
use Rattle.linda_hold.specs.FirstValue.{later_of}
use Rattle.linda_hold.specs.Group.{HasGroup, is_reached}
use Rattle.linda_hold.specs.FirstValueIndex.{HasEarly, if_early, early_at, early_of, is_met_by, is_met_below}

-- No tuple answers a request that is not there.
pub none_reached : (first : Option Atom) → is_reached first None ≡ false
none_reached None = refl
none_reached (Some v) = refl

or_none : (b c : Bool) → c ≡ false → b ≡ (b || c)
or_none true c off = refl
or_none false c off = sym off

-- Before the first position there are the early ones.
pub met_early : (fields : List Atom) (o : Option Asked) → is_met_below 0 fields o ≡ is_reached (first_among fields) (early_at o)
met_early fields None = sym (none_reached (first_among fields))
met_early fields (Some asked) = by (later_of asked)
  where
    by : (later : Option ℕ) → is_met_by 0 fields later asked ≡ is_reached (first_among fields) (if_early later asked)
    by None = refl
    by (Some k) =
        ap (λ b. b && is_reached (slice_get fields k) (Some asked)) (below k) ∙ sym (none_reached (first_among fields))
      where
        below : (k : ℕ) → nat_lt k 0 ≡ false
        below k = grind (arith, nat_tests)

-- One position more has those whose first value is there.
pub met_more : (k : ℕ) (fields : List Atom) (o : Option Asked)
    → is_met_below (k + 1) fields o ≡ (is_met_below k fields o || is_reached (slice_get fields k) (row_at nat_cmp k (placed later_of o)))
met_more k fields None = sym (none_reached (slice_get fields k))
met_more k fields (Some asked) = by (later_of asked)
  where
    R : ℕ → Bool
    R p = is_reached (slice_get fields p) (Some asked)

    by : (later : Option ℕ) → is_met_by (k + 1) fields later asked
        ≡ (is_met_by k fields later asked || is_reached (slice_get fields k) (row_at nat_cmp k (keyed later asked)))
    by None = or_none (is_reached (first_among fields) (Some asked)) (is_reached (slice_get fields k) None) (none_reached (slice_get fields k))
    by (Some p) = at (is_eq (nat_cmp p k)) refl
      where
        at : (b : Bool) → is_eq (nat_cmp p k) ≡ b
            → (nat_lt p (k + 1) && R p) ≡ ((nat_lt p k && R p) || is_reached (slice_get fields k) (cond b (Some asked) None))
        at true is =
            let same : p ≡ k = (id_told p k).0 is in
            ap (λ b. b && R p) (here same) ∙ ap R same ∙ ap (λ b. (b && R p) || R k) (sym (not_below same))
          where
            here : p ≡ k → nat_lt p (k + 1) ≡ true
            here same = grind (arith, nat_tests)

            not_below : p ≡ k → nat_lt p k ≡ false
            not_below same = grind (arith, nat_tests)
        at false off =
            ap (λ b. b && R p) (alike (λ same. true≢false (sym ((id_told p k).1 same) ∙ off)))
            ∙ or_none (nat_lt p k && R p) (is_reached (slice_get fields k) None) (none_reached (slice_get fields k))
          where
            alike : (p ≡ k → ⊥) → nat_lt p (k + 1) ≡ nat_lt p k
            alike differ = grind (arith, nat_tests)

-- If no first value is at the position, nothing more is met.
pub met_no_more : (k : ℕ) (fields : List Atom) (o : Option Asked) → row_at nat_cmp k (placed later_of o) ≡ None
    → is_met_below (k + 1) fields o ≡ is_met_below k fields o
met_no_more k fields o none =
    met_more k fields o
    ∙ ap (λ r. is_met_below k fields o || is_reached (slice_get fields k) r) none
    ∙ sym (or_none (is_met_below k fields o) (is_reached (slice_get fields k) None) (none_reached (slice_get fields k)))

-- There is no request if there is none that is early and none that is later.
pub no_request : (o : Option Asked) → early_at o ≡ None → placed later_of o ≡ None → o ≡ None
no_request None early later = refl
no_request (Some asked) early later = by (later_of asked) early later
  where
    by : (at : Option ℕ) → if_early at asked ≡ None → keyed at asked ≡ None → Some asked ≡ None
    by None early later = early
    by (Some k) early later = absurd (true≢false (ap is_some later))

-- The early ones change as all do.
pub early_refiled : (old new : Group) (id : ℕ) (before after : Option Asked)
    → Refiles (HasGroup old) (HasGroup new) id (early_at before) (early_at after) → Refiles (HasEarly old) (HasEarly new) id before after
early_refiled old new id before after change rows there known =
    subst (HasGroup new) (λ j. λ q. same q j) (change (early_of rows) (ap early_at there) known)
  where
    same : (q : ℕ) → with_row (early_of rows) id (early_at after) q ≡ early_of (with_row rows id after) q
    same q =
        elim (is_eq (nat_cmp id q)) as (λ b. cond b (early_at after) (early_at (rows q)) ≡ early_at (cond b after (rows q))) [
          | true ↦ refl
          | false ↦ refl
        ]

pub early_refiled_as : (old new : Group) (id : ℕ) (before after b a : Option Asked) → b ≡ early_at before
    → a ≡ early_at after → Refiles (HasGroup old) (HasGroup new) id b a → Refiles (HasEarly old) (HasEarly new) id before after
early_refiled_as old new id before after b a was is change =
    early_refiled old new id before after
    (subst (λ x. Refiles (HasGroup old) (HasGroup new) id x (early_at after)) was (subst (λ x. Refiles (HasGroup old) (HasGroup new) id b x) is change))
