-- How a run of device calls begins and goes on, and what two runs come to.
use Rattle.std.proofs.Common.{◌≡◌, inl, inr, ⊎_elim, ℕ, List, sym, subst, ◌∙◌, arith}
use Rattle.linda_disk.specs.View.{View, IsDurable, IsTimed, LeavesNoMore, Follows, Elapses}
use Rattle.linda_disk.specs.Run.{LeavesOnly}

-- Before the first call.
pub started : (v : View) (P : List ℕ → Type 0) → IsTimed v → ((image : List ℕ) → v.may_leave image → P image)
    → LeavesOnly v v P
started v P timed now = record {
  later = omega arith;
  each = λ image left. now image (timed.only_now image left);
  before = λ t image le left. inl left;
}

-- One call more, after which a crash leaves what has P.
pub goes_on : (old mid new : View) (P : List ℕ → Type 0) → LeavesOnly old mid P → Elapses mid new
    → ((image : List ℕ) → new.may_leave image → P image) → LeavesOnly old new P
goes_on old mid new P so_far time now = record {
  later = omega (arith, so_far.later, time.later);
  each = λ image left. ⊎_elim (so_far.each image) (now image) (time.nothing_else old.moment image so_far.later left);
  before = λ t image le left.
      let earlier = time.nothing_else t image (omega (arith, le, so_far.later)) left in
      ⊎_elim (so_far.before t image le) (λ is. inr (now image is)) earlier;
}

-- One run and then another.
pub joined : (old mid new : View) (P Q R : List ℕ → Type 0) → LeavesOnly old mid P → LeavesOnly mid new Q
    → ((image : List ℕ) → P image → R image) → ((image : List ℕ) → Q image → R image) → LeavesOnly old new R
joined old mid new P Q R first second p q = record {
  later = omega (arith, first.later, second.later);
  each = λ image left.
      let when = second.before old.moment image first.later left in
      ⊎_elim (λ earlier. p image (first.each image earlier)) (q image) when;
  before = λ t image le left.
      elim (second.before t image (omega (arith, le, first.later)) left) [
        | inl earlier ↦ ⊎_elim (λ before. inl before) (λ is. inr (p image is)) (first.before t image le earlier)
        | inr is ↦ inr (q image is)
      ];
}

-- A run that leaves what has P leaves what has anything that follows.
pub weaker : (old new : View) (P Q : List ℕ → Type 0) → LeavesOnly old new P
    → ((image : List ℕ) → P image → Q image) → LeavesOnly old new Q
weaker old new P Q run follows = record {
  later = run.later;
  each = λ image left. follows image (run.each image left);
  before = λ t image le left.
      ⊎_elim (λ earlier. inl earlier) (λ is. inr (follows image is)) (run.before t image le left);
}

-- If a run that ends now leaves only what has P, what a crash now may leave has P.
pub leaves_now : (old new : View) (P : List ℕ → Type 0) → LeavesOnly old new P → IsTimed new → (image : List ℕ)
    → new.may_leave image → P image
leaves_now old new P run timed image left = run.each image (timed.counts_now old.moment image run.later left)

-- From what is durable, what a crash may leave is one step from what a read gave.
pub one_step : (step : List ℕ → List ℕ → Type 0) (old new : View) → IsDurable old → Follows step old new
    → (image : List ℕ) → new.may_leave image → step old.seen image
one_step step old new durable follows image left =
    let from = follows image left in
    subst (λ (before : List ℕ). step before image) (durable from.0 from.1) from.2

-- A write or a cut more, whose step keeps what the images have: so go several of them with no sync between.
pub goes_on_by : (step : List ℕ → List ℕ → Type 0) (old mid new : View) (P : List ℕ → Type 0)
    → LeavesOnly old mid P → IsTimed mid → Follows step mid new → Elapses mid new
    → ((before image : List ℕ) → P before → step before image → P image) → LeavesOnly old new P
goes_on_by step old mid new P so_far timed follows time keeps =
    let had = leaves_now old mid P so_far timed in
    goes_on old mid new P so_far time (λ image left.
    let from = follows image left in
    keeps from.0 image (had from.0 from.1) from.2)

-- A call more after which a crash may leave nothing new: a sync, a length or a read.
pub goes_on_as_before : (old mid new : View) (P : List ℕ → Type 0) → LeavesOnly old mid P → IsTimed mid
    → LeavesNoMore mid new → Elapses mid new → LeavesOnly old new P
goes_on_as_before old mid new P so_far timed no_more time =
    goes_on old mid new P so_far time (λ image left. leaves_now old mid P so_far timed image (no_more image left))

-- What was durable stays so, if it reads the same and a crash may leave nothing that it could not leave before.
pub stays_durable : (old new : View) → IsDurable old → LeavesNoMore old new → new.seen ≡ old.seen → IsDurable new
stays_durable old new durable no_more same image left = durable image (no_more image left) ∙ sym same
