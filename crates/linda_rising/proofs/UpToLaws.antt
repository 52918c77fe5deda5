-- Rows up to an id: what an edit leaves of that, and a look-up past it.
use Rattle.std.proofs.Common.{◌≡◌, ◌<◌, ◌≤◌, ◌==◌, ℕ, true, false, if◌then◌else◌, List, Option, Some, None, IsSome, is_some, refl, sym, ap, ◌∙◌}
use Rattle.std.proofs.Common.{true≢false, arith}
use Rattle.std.specs.Cmp.{unsigned_Decides}
use Rattle.linda_rising.specs.Rows.{at, Sets, AreUpTo}

module _ {T : Type 0} (old new : List (ℕ × T)) (id most : ℕ) where
  -- a row that is there after the edit, but for the id, was there before
  was_there : (row : Option T) (q : ℕ) → Sets old new id row → IsSome (at new q) → (q == id) ≡ false → IsSome (at old q)
  was_there row q sets some apart = ap is_some (sym (sets q ∙ ap (λ b. if b then row else at old q) apart)) ∙ some

  pub put_up_to : (v : T) (bound : ℕ) → Sets old new id (Some v) → AreUpTo old most → most ≤ bound → id ≤ bound → AreUpTo new bound
  put_up_to v bound sets up_to above past q some =
      elim (q == id) as (λ b. (q == id) ≡ b → q ≤ bound) [
        | true ↦ λ e. omega (arith, (unsigned_Decides q id).0 e, past)
        | false ↦ λ e. omega (arith, up_to q (was_there (Some v) q sets some e), above)
      ] refl

  pub gone_up_to : Sets old new id None → AreUpTo old most → AreUpTo new most
  gone_up_to sets up_to q some =
      elim (q == id) as (λ b. (q == id) ≡ b → q ≤ most) [
        | true ↦ λ e. absurd (true≢false (sym some ∙ ap is_some (sets q ∙ ap (λ b. if b then None else at old q) e)))
        | false ↦ λ e. up_to q (was_there None q sets some e)
      ] refl

module _ {T : Type 0} (rows : List (ℕ × T)) (id most : ℕ) where
  -- Past the last id there is no row.
  pub none_past : AreUpTo rows most → most < id → at rows id ≡ None
  none_past up_to past = by (at rows id) refl
    where
      by : (row : Option T) → at rows id ≡ row → row ≡ None
      by None there = refl
      by (Some v) there = absurd (omega (arith, up_to id (ap is_some there), past))
